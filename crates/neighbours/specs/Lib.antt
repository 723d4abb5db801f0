-- How the code says what a neighbour text gives and what a block's text is.
--
-- | notion                    | meaning                                              | the law that matters                 |
-- | `said_molecule` (block)   | a block's counts, or its refusal, in the code's enum | `unique-read`, `unique-read_bytes`   |
-- | `said_neighbours_written` | a text's length, or the refusal, in the code's enum  | `unique-write`, `unique-write_bytes` |
-- Definitions
pub mod Said
-- Laws
pub mod Unique
