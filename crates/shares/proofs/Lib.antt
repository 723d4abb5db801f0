-- Laws of the work on arrays.
pub mod Rows
pub mod Layering
pub mod Sweeping
pub mod Counting
pub mod Tallying
pub mod Scaling
pub mod Flowing
pub mod Listing
pub mod Starting
pub mod Blocks
pub mod Reply
