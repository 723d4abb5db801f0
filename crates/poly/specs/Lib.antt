-- The polynomial values of a block.
--
-- | notion             | meaning                                                  | the law that matters          |
-- | `value p n x`      | the sum over one parity, in the fixed order of roundings | `exact_reply`, `finite_reply` |
-- | `polynomial_reply` | both values, or the block's refusal, then 10             | `one_reply`                   |
pub mod Poly
pub mod Exact
