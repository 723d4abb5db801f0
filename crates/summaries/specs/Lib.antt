-- Composing over a book of summaries.
--
-- | notion                                   | meaning                                                | the law that matters                                  |
-- | `composed_reply`                         | the six fields over what summaries say, or the refusal | `composed_written`: those of the molecule written out |
-- | `LinkedUpTo`, `ReadyShelf`, `StepsKnown` | placements as they are read; what composing works on   | `unique-compose`                                      |
-- | `Right`, `Put`, `Known`                  | what stands for an end; it is put for all equal ends   | `put_here`, `known_more`                              |
pub mod Composing
pub mod Ready
pub mod Ends
pub mod Written
pub mod Unique
