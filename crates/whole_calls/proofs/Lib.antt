-- Each case of the replies about a molecule written out.
pub mod Replies
