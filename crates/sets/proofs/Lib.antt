-- Laws that the proofs of the functions cite.
pub mod Counts
pub mod Weigh
pub mod OfBonds
pub mod OfAtoms
pub mod Leaves
pub mod Peel
pub mod Branches
pub mod Rooting
pub mod Products
pub mod Storing
pub mod Keying
pub mod Trees
pub mod Running
pub mod Replies
pub mod EveryRoot
