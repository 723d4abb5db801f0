-- Each case of the replies about queues.
pub mod QueueReplies
