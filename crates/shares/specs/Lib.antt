-- What a request for the contributions of bonds is answered, and what the arrays of the work hold.
--
-- | notion                            | meaning                                   | the law that matters                |
-- | `shares_reply`                    | D, or the block's refusal, then 9, then 8 | `nine_first`: 9 before 8            |
-- | `shares_entries`, `filled_shares` | the lent entries afterwards               | `adds_up`: they add up to D times W |
pub mod Reply
pub mod Work
pub mod Examples
