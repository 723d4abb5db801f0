-- What is measured of a molfile, and of a neighbour text.
--
-- | notion              | meaning                                                                 | the law that matters                                         |
-- | `measure_reply`      | the indices of a molfile's block, or the lines' and the block's refusal | `never_nine`; `unique-measure` |
-- | `measured_text_reply` | the same of a neighbour text                                            | `measured_text`: never 9; `unique-measure_neighbours`        |
pub mod Measuring
pub mod Texts
pub mod Unique
pub mod Alone
pub mod Examples
