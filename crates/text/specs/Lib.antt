-- What bytes of text say, and what is put into them.
--
-- | notion                        | meaning                                                        | the law that matters                                  |
-- | `is_digit`, `is_blank`, `digit` | one byte                                                       | `unique-digit` ..                                     |
-- | `is_number`                    | blanks, then at least one digit                                | `three_below`: three characters say less than 1000    |
-- | `number_of`, `field_number`     | what they say                                                  | `three_back`: a number of three characters reads back |
-- | `three`, `decimal`            | a number as it is written                                      | `decimal_one`, `decimal_two`, `decimal_three`         |
-- | `line_end`, `line_at`           | where a line ends; its characters and where the next begins    | `end_within`, `next_later`                            |
-- | `line_chars`                   | the characters of a line, the CR before its line feed left out | `chars_within`                                        |
-- | `starts_with`, `line_starts`    | whether bytes begin with a word; whether one of the lines does | `starts_later`                                        |
-- | `Puts`                        | a word put into a lent output as far as there is room          | `both`: two words in a row are one; `at_front`        |
pub mod Text
pub mod Said
pub mod Put
pub mod Clear
pub mod Laws
pub mod Unique
pub mod Examples
