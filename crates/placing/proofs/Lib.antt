-- The laws of rankings.
pub mod SortingLaws
pub mod PartsLaws
pub mod LaidLaws
pub mod MergingLaws
-- The laws behind the proofs of putting a row.
pub mod Moving
pub mod Rows
pub mod Merges
pub mod Coming
