-- A book of summaries.
--
-- | notion                  | meaning                                                       | the law that matters |
-- | `summary_at`, `places_in` | the summaries of a book, one behind the other                 |                      |
-- | `place_of`               | the first place that has a number, or the one behind the last | `place_few`          |
-- | `shelf_in`               | what an assembly asks of the blocks                           | `unique-check`       |
pub mod Shelf
pub mod Places
pub mod Unique
