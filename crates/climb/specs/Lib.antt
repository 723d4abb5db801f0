-- The number of two placed atoms over a book of summaries.
--
-- | notion      | meaning                                                             | the law that matters                                          |
-- | `placed_far` | by the joining rules over what the summaries say, whatever they are | `far_written`: over honest summaries the molecule's distance |
pub mod Far
pub mod Steps
pub mod Written
pub mod Unique
