-- The records of an SDF and the data items of a record.
--
-- | notion                      | meaning                                                                       | the law that matters                                                          |
-- | `until_line`, `line_from`     | where the first line begins that a test holds of                              | `from_is_line`, `from_holds`, `none_earlier`                                  |
-- | `step_at`                    | the record that begins at a place, or done                                    | `step_forward`, `no_marks`, `line_behind`; `whatever_follows`                    |
-- | `Walk`, `joined`            | record after record until done, and the bytes gone over                       | `all_of_it`: they are the text; `it_ends`; `one_walk`                         |
-- | `is_header`                  | a line that begins with > and has <NAME> in it                                | `first_least`, `second_least`                                                 |
-- | `is_some_header`              | a header of some name                                                         | `some_header`: exactly where it is a header of a name                         |
-- | `is_no_name`                  | no byte, or more than sixteen <                                               | `is_name`                                                                     |
-- | `HeaderAt`                  | a line behind M  END that is a header of a name                               | `one_header`: read where there is exactly one                                 |
-- | `value_reply`, `item_reply`   | the line behind the only header, empty for a header, or refusal 38 or 39      | `item_value`, `item_none`, `item_twice`                                       |
-- | `span_of`                    | the part of the record that is the value, empty at 0 where it is refused      | `unique-record`, `unique-item`, `unique-item_part`                            |
pub mod Sdf
pub mod Said
pub mod Walk
pub mod Headers
pub mod Laws
pub mod Lines
pub mod Whole
pub mod Ahead
pub mod Found
pub mod Named
pub mod Unique
pub mod Examples
