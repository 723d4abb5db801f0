-- The laws of molecules, blocks and decks that differ only in the numbering of their atoms.
pub mod Distances
pub mod BondsLaws
pub mod Shares
pub mod Blocks
pub mod DecksLaws
pub mod Examples
