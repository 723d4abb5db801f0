-- Laws that the proofs cite.
pub mod Turns
pub mod Lines
pub mod Weighing
pub mod Keeping
pub mod Numbering
pub mod Files
pub mod Same
pub mod Filling
pub mod Chains
pub mod Symbols
pub mod Replies
pub mod Fronts
