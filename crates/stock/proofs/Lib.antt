-- The laws behind the proofs of what is kept.
pub mod Making
