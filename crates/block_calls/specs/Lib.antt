-- What the C functions for a block answer.
--
-- | notion                        | meaning                                                            | the law that matters                                  |
-- | `indices_list`, `vertex_list` .. | the library's numbers, in the order in which they are lent out     | `indices_tells` .. (told): what the reply tells       |
-- | `beside_reply`, `Contributed`  | the block's refusal, then 9, then the answer with its two outputs  | `beside_once` (calls)                                 |
pub mod Replies
