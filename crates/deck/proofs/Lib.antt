-- Laws that the proofs of the functions cite.
pub mod Turns
pub mod Parts
pub mod Filled
pub mod Booking
pub mod Honest
pub mod Few
pub mod Reading
