-- The laws behind the proofs of a library's products.
pub mod Choosing
pub mod Making
pub mod Spreading
pub mod Stepping
pub mod Filling
