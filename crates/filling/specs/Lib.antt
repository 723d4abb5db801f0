-- A block's summary put into lent bytes.
--
-- | notion                     | meaning                                           | the law that matters                         |
-- | `fill_reply`, `fill_bytes` | the reply to filling, and the lent bytes after it | `unique-fill`, `refusal_keeps`               |
-- | `near_bytes`, `head_on`    | what the functions put                            | `near_same`, `all_put`: they are the summary |
pub mod Reply
pub mod Work
pub mod Unique
