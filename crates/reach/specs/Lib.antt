-- The atoms within reach of each atom of a block.
--
-- | notion                             | meaning                                                         | the law that matters                                    |
-- | `sums_reply`                        | the vertex sums of all atoms, or the block's refusal            | `sums_told`; `unique-vertex_sums`                       |
-- | `Reach g d sets`                   | the set of each atom has exactly the atoms at most d bonds away | `took_all`: one bond farther, by the neighbours         |
-- | `up_to g f d`                       | f summed over all ordered pairs at most d bonds apart           | `up_next`, `up_all`: in the end both ways round         |
pub mod Sums
pub mod Reach
pub mod Told
pub mod Unique
pub mod Examples
