-- Laws of sets within reach and of the sums over them.
pub mod Spreading
pub mod Meeting
pub mod Counting
pub mod Summing
pub mod Beginning
pub mod Levels
pub mod Reply
