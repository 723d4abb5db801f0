-- Half a table.
--
-- | notion                         | meaning                                           | the law that matters                                                   |
-- | `most_atoms`, `all_pairs`        | 64 atoms, 2,016 pairs                             |                                                                        |
-- | `row_start i`, `above_place i j` | where a row begins, and the place of a pair i < j | `place_below`, `place_one`, `place_found`: pairs and places one to one |
-- | `pair_place i j`                | the place of two atoms, either way round          | `none_place`: 2,016 for no pair                                        |
-- | `half_at h i j`                 | what a half says of two atoms                     | `reads_either`, `self_reads`                                           |
-- | `half_with h i j x`             | the half with a number stored                     | `half_get_put`, `half_other`                                           |
-- | `half_row h i`                  | the row of an atom out of it                      | `row_reads`, `row_is_rows`                                             |
-- | `half_with_row h i row n`        | the half with a row of n atoms stored             | `row_get_put`, `row_half_other`                                        |
-- | `half_of d`                     | the half of a table d of numbers                  | `half_is_rows`: it reads as the table does; `half_ext`                 |
-- | `table n f`                    | f 0 to f (n - 1)                                  | `get_or-table`                                                           |
pub mod Half
pub mod Work
pub mod Tables
pub mod Places
pub mod Reads
pub mod Rows
pub mod Unique
pub mod Examples
