-- The sheet.
--
-- | notion                   | meaning                                              | the law that matters                                   |
-- | `all_fields`, `all_widths` | all fields in order, the bytes that each takes       |                                                        |
-- | `fields_of`, `widths`     | those that a sheet of either kind has                | `widths_fill`: together they are the payload; `fit_of` |
-- | `sheet_of`                | the sheet of a molecule                              |                                                        |
-- | `fields_at`               | numbers of some widths, read from a place on         | `fields_back`: what was written is read                |
-- | `claimed_at`              | what the sheet record at a place claims, by its kind | `fields_behind`: bytes before it do not matter         |
-- | `sheet_record`            | a sheet's record, byte by byte                       | `read_whole`                                           |
-- | `sheet_put`               | a buffer after a sheet was put into it               | `unique-put_sheet`                                     |
-- | `first_wrong`             | the first field in which two sheets differ           | `none_wrong`, `wrong_none`: none exactly where equal   |
pub mod Sheets
pub mod Along
pub mod Back
pub mod Unique
pub mod Examples
