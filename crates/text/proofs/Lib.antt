-- Laws that the proofs cite.
pub mod Numbers
pub mod Lines
pub mod Words
pub mod Putting
pub mod Written
