-- Laws that several functions' proofs cite.
pub mod Listing
pub mod Reading
pub mod Sizes
pub mod Sketching
pub mod Replies
pub mod Meeting
pub mod Filling
pub mod Tallies
pub mod Summing
pub mod Counting
pub mod Answers
