-- Balaban's J of a block, in whole numbers.
--
-- | notion              | meaning                                                             | the law that matters                                       |
-- | `Largest bound p t` | t is the largest number with t squared times p at most the bound    | `largest_root_lem`: there is one, and `largest_root` is it |
-- | `term K g b`        | what bond b brings, reckoned with K squared times 10 ^ 18           | `bond_largest`: it is the largest                          |
-- | `divisor g`         | m - n + 2                                                           | `divisor_is`: nothing is cut off, and it is not 0          |
-- | `reckoned K g`      | m times what the bonds bring, divided by m - n + 2, rounded down    | `one_atom`: 0 for one atom                                 |
-- | `balaban_reply`     | the reckoning for K = 1, or the block's refusal                     | `one_reply`                                                |
-- | `Fine K g R`        | how near K times R is to the reckoning with K squared times 10 ^ 18 | `fine`: every answer is so fine, for every K from 1 up     |
pub mod Balaban
pub mod Work
pub mod Examples
