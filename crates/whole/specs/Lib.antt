-- The molecule of a deck written out as numbers.
--
-- | notion          | meaning                                                | the law that matters |
-- | `whole_reply`   | the molecule of a deck, or the deck's refusals, then 9 | `unique-bonds`       |
-- | `pair_numbers`  | bonds as numbers, two each                             | `pairs_length`       |
-- | `numbers_after` | the lent numbers after the call                        | `unique-numbers`     |
pub mod Whole
pub mod Work
pub mod Laws
pub mod Joins
pub mod Replies
pub mod Unique
