-- What the C functions for decks answer.
--
-- | notion                         | meaning                                                 | the law that matters                                   |
-- | `verdict_code`, `written_code` | a verdict, a sheet that is to be written, as one number | `Judges`, `zero_exactly` (told): what the number tells |
-- | `composed_list`, `placed_list` | the fields of a sheet, a distance, as they are lent out | `lent_once` (calls)                                    |
pub mod Replies
pub mod Unique
