-- Laws of the polynomial values.
pub mod Usable
pub mod Counts
pub mod Floats
pub mod Exact
pub mod Finite
pub mod Reply
pub mod Examples
pub mod Pairs
