-- Laws that the proofs of the functions cite.
pub mod Walks
pub mod Faults
-- The reply in the rules' words is the same.
pub mod RulesLaws
