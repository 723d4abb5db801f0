-- The distance matrix of a block by value: the plain way to the indices.
--
-- | notion                       | meaning                                                             | the law that matters                               |
-- | `rows_of`, `far_after` (block) | the rows of a block; the largest of each, where it is not refused   | `unique-rows`                                      |
-- | `matrix_indices`              | what a matrix says of its first n atoms, each pair in one row       | `matrix_is`: of a block's rows, the block's indices |
-- | `LineOf`, `UpTo`             | what the entries of a row, and of rows, add up to so far            | `line_more`, `up_more`                             |
pub mod Matrix
pub mod Work
pub mod Told
