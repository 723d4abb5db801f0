-- The products of a library, step by step.
--
-- | notion                    | meaning                                                              | the law that matters                                     |
-- | `step_reply s d p n`       | refusals 20, 9 and the library's, the product at a position, or done | `made_step`                                              |
-- | `steps_from`, `run_of`      | steps one after the other, each into what the one before left        | `run_next`, `run_done`, `run_full`                       |
-- | `values_reply d f p n`     | 20, the library's refusals, 35, the values of a field from a position | `unique-values`; `filled_whole`: place by place          |
-- | `said_product`, `said_step` | how the code says it                                                 | `unique-product`, `unique-step`, `unique-run`            |
-- | `Held`, `Spread`          | what the code holds of a library that is read                        | `product_joined`, `product_spread`: joined, it gives the product's fields |
-- | `Turns`                   | what the other sites are joined to, while the last one turns         | `turns`: the fields of each product until it is round    |
-- | `Going`                   | how far a run has come                                               | `going_next`, `going_done`, `going_full`                 |
-- Definitions
pub mod Said
pub mod Steps
pub mod Values
-- Work
pub mod Chosen
pub mod Held
pub mod Turning
pub mod Filled
-- Laws
pub mod Ready
pub mod Running
pub mod Unique
