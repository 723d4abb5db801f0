-- What a molfile says.
--
-- | notion         | meaning                                                      | the law that matters                |
-- | `lines_reply`   | refusals 25, 26 and 27 in file order                         | `unique-kept`                       |
-- | `rest_of`       | where the bond lines end; the length where lines are refused | `unique-rest_place`                 |
-- | `hydrogen_at`   | whether the symbol of an atom line is H                      | `h_none`                            |
-- | `is_dropped`    | a hydrogen with exactly one bond, to an atom that is none    | `number_is`: by weights of one pass |
-- | `new_number`    | an atom's number among those that are kept                   | `number_few`                        |
-- | `kept_bytes`    | the bonds between kept atoms, two bytes each                 | `kept_is`                           |
-- | `molfile_reply` | the lines' refusals, the block's over the kept bonds, then 9 | `unique-read` (blockfile)           |
pub mod Molfile
pub mod Said
pub mod Work
pub mod Unique
pub mod Examples
