-- A core with arms.
--
-- | notion              | meaning                                                        | the law that matters                                       |
-- | `opened`            | a block opened into an empty place                             | `opened_told`: what the place tells is the block's         |
-- | `arm_in`, `core_in`   | what is kept of an opened block as an arm, as a core           | `unique-arm_in`, `unique-core_in`                          |
-- | `six_of`, `stem_of`   | a core with its first arms, joined one by one                  | `arms-written`: the fields of the molecule written out     |
-- | `Keeps`             | the core and arms of an assembly whose placements join the first | `six_composed`: what composing says                      |
-- Definitions
pub mod Arms
-- Laws
pub mod Composed
pub mod Written
pub mod Unique
