-- What the C functions for libraries answer.
--
-- | notion                  | meaning                                                                  | the law that matters                                  |
-- | `step_code`, `Walked`    | 254 for done; the outputs of a library's step and run                    | `walked_once`; `Walks` (told): what the number tells  |
-- | `with_next`, `count_list` | 9 where the next position has no room; how many products                 | `lent_once` (calls)                                   |
pub mod Libraries
