-- Joining two parts by a bond, for any numbers.
--
-- | notion                         | meaning                                                                    | the law that matters                   |
-- | `Part`, `grow`, `join_six`     | what is kept of a block; how what an atom counts and the six fields grow   | `first_molecules`, `six_molecules`     |
-- | `far_in`, `sight_in`, `six_in` | the same of an assembly, one placement after the other                     | `fields_written`: of the molecule      |
-- | `Table`, `joined_by`           | an atom count and a number for each two atoms; two joined by a bond        | `seen_first`, `total-joined`           |
-- | `Told`, `Fits`                 | what is kept is what a table says; a placement is joined to an earlier one | `whole`: composing sums over all pairs |
-- | `SmallSight`, `SmallPart`      | numbers of a byte or two, composed, stay small                             | `sight_held`, `six_held`               |
-- | `grown_of`, `joined_of`        | the joining rules, large numbers cut down                                  | `grown_small`, `joined_small`          |
-- | `SmallCounts`, `SmallFields`   | numbers that are not cut down                                              | `grown_small`, `joined_small`          |
pub mod Parts
pub mod Joining
pub mod Table
pub mod Examples
pub mod Small
pub mod Rules
pub mod Grow
pub mod Bounds
pub mod Same
pub mod Unique
