-- Laws that the readers' proofs cite.
pub mod Numbers
pub mod Replies
pub mod Putting
