-- The laws behind the proofs of the judge.
pub mod Judging
