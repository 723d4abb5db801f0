-- Refusing answers.
--
-- | notion            | meaning                                              | the law that matters                            |
-- | `Read A`          | a refusal, or a value of A                           | `not_read`: never both                          |
-- | `m then f`        | the first answer if it is a refusal, else the second | `then-read`: read at the end, read at each step |
-- | `refuse_if t n p` | refusal n at place p where the test t holds          | `if_read`                                       |
-- | `refuse_for n p`  | refusal n at place p unless n is 0                   | `for_read`                                      |
-- | `is_outside n v`  | v is 0 or above n                                    | `unique-is_outside`                             |
-- | `as_result`       | how the code says an answer                          | `read_back`: `as_read` is its way back          |
-- | `rule_number`       | the number of a rule in the table of the rules       | `unique-number`                                 |
pub mod Read
pub mod Rules
pub mod Chain
