-- What a block is told.
--
-- | notion                                                       | meaning                                            | the law that matters                                         |
-- | `graph_of n xs`                                               | the graph that an atom count and bond bytes say    | `molecule`: of a block that is not refused                   |
-- | `block_reply`                                                 | refusals 1 to 7, in order                          | `passed`: the tests that a fine block passed; `place_within` |
-- | `row_reply`, `rows_of`, `far_of`                                | the distances from one atom, from all; the largest | `row_at`, `distance_at_lem`, `farthest_at`                       |
-- | `half_table`                                                  | half of the distances from all                     | `table_is_rows`, `table_distance`, `table_row`               |
-- | `drawn_reply`                                                 | refusals 1 to 6                                    | `block_drawn`: then 7                                        |
-- | `indices_reply`, `vertex_reply`, `distance_reply`, `pairs_reply` | the six numbers, one atom's sums, a distance, n(k) | `vertex_is`, `counts_are`                                    |
-- | `limit`, `most_atoms`, `most_bytes`                            | the limits of a block                              | `few_bonds`, `few_atoms`                                     |
pub mod Block
pub mod Rows
pub mod Opened
pub mod Index
pub mod Sums
pub mod Near
pub mod Sketched
pub mod Found
pub mod Tally
pub mod Numbered
pub mod Lent
pub mod Faults
pub mod Tables
pub mod Digits
pub mod Told
pub mod Said
pub mod Drawn
pub mod Halved
pub mod Measures
pub mod Unique
pub mod Examples
