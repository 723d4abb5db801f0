-- Laws that several functions' proofs cite.
pub mod Pairs
pub mod Lines
