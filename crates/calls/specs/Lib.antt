-- How the library replies to C.
--
-- | notion                         | meaning                                                     | the law that matters                                |
-- | `code`, `coded`, `reply_code`  | a refusal, an answer, a reply as one number                 | `Tells` (told): what the number tells; `coded_once` |
-- | `fitting`, `out_after`, `Lent` | 9 where the answer does not fit; the lent output afterwards | `lent_once`                                         |
-- | `number_list`, `counts_list`   | an answer that is one number or two, as it is lent out      | `lent_once`                                         |
-- | `with_room`, `Beside`          | two outputs, and 9 where the second has too few entries     | `beside_once`                                       |
-- | `fields_list`                  | the fields of a sheet, as they are lent out                 | `lent_once`                                         |
-- | `unlent_reply`, `sheet_for`    | a block without an output; the sheet that a number means    | `coded_once`, `unique-sheet_for`                    |
pub mod Convention
pub mod Beside
pub mod Blocks
pub mod Unique
