-- What the C functions for large molecules answer.
--
-- | notion       | meaning                                                                  | the law that matters  |
-- | `WrittenOut` | the bonds of a deck's molecule in one output, its atoms and bonds beside | `beside_once` (calls) |
-- | `match_code` | what a matching is told: 0 for yes, 255 with the place for no            | `match_once`          |
pub mod Replies
pub mod Unique
