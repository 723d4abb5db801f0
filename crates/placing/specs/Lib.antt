-- A row of values put into lent entries.
--
-- | notion              | meaning                                                              | the law that matters                                       |
-- | `place g x l`       | an entry behind all that are as good or better                       | `place_stable`: those of one value stay in order of coming |
-- | `put_all n g xs l`   | entries one after the other, and what falls beyond n dropped         | `first_of-sort`: the first n of the stable sort of all     |
-- | `sort g xs`         | all of them placed one after the other                               | `sorted_sort`, `sort_stable`, `only_sort`: the stable sort |
-- | `lost`              | what is dropped                                                      | `none_lost_better`, `each_once`                            |
-- | parts               | two rows one after the other; two rows ranked apart and put together | `in_parts`, `shards`                                       |
-- | `entries_in`, `laid` | entries as numbers, three for each                                   | `laid_back`, `laid_again`                                  |
-- | `put_row`           | a row put one after the other: `ranked_in`, `laid`                    | `unique-put`                                               |
-- | `moves_up`           | whether the last entry moves up behind a value                       | `moves_held`, `moves_not`                                  |
-- Definitions
pub mod Ranked
pub mod Entries
pub mod Sorting
pub mod Parts
-- Work
pub mod Examples
pub mod Way
pub mod Laid
pub mod Merging
-- Laws
pub mod Order
pub mod Unique
