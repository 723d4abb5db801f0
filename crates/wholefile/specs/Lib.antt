-- A molfile read as one molecule of any size that three digits say.
--
-- | notion             | meaning                                                                | the law that matters |
-- | `molecule_reply`   | 1 for no atom, 3 to 6 of the bonds one by one                          | `unique-whole`       |
-- | `whole_file_reply` | the refusals of a file's lines, these over what is kept, then 9        | `unique-whole`       |
-- | `whole_numbers`    | the lent numbers after the call                                        | `unique-numbers`     |
-- | (beside a block)   | where a file is read as a block, it is read whole as the same molecule | `whole_same`         |
pub mod Whole
pub mod Said
pub mod Unique
pub mod Same
pub mod Examples
