-- The laws behind the proofs of composing.
pub mod Replies
pub mod Distances
