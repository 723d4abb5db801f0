-- A deck's molecule held against one that is listed atom by atom, by a matching.
--
-- | notion                               | meaning                                                             | the law that matters                                 |
-- | `match_reply`                        | yes, or the first place that fails; the deck's refusals, then 9     | `unique-check`; `matched_renumbered` (same_molecule) |
-- | `placed_number`, `partners`          | an atom's partner, by its number in the deck's molecule             | `number_few`, `partners-length`                      |
-- | `is_lost`, `is_loose`, `is_unlisted` | an atom without a partner of its own; a bond that the other has not | `none_passes`, `passing` (same_molecule)             |
pub mod Matched
pub mod Work
pub mod Unique
pub mod Laws
pub mod Replies
