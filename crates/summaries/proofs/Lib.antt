-- Laws that the proofs of the functions cite.
pub mod Small
pub mod Ports
pub mod Linking
pub mod Storing
