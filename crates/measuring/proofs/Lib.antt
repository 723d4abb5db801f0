-- Laws that the proofs cite.
pub mod Fits
pub mod Texts
