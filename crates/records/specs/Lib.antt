-- What the bytes of a deck say, and its records one by one.
--
-- | notion                     | meaning                                                                       | the law that matters                          |
-- | `byte_at`, `little`, `part` | a byte, a little-endian number, a part of a list; 0 or fewer past the end     | `little_same`, `part_same`                    |
-- | `little_bytes`              | a number in so many bytes                                                     | `little_back`; `little_put`, `little_kept`    |
-- | `PartOf`                   | a returned part: its bytes and where it points                                | `unique-part`                                 |
-- | `Kind`                     | a kind's number, fixed bytes, where its count stands, bytes an item, or loose | `of_first`, `of_one`, `of_least`              |
-- | `Sheet`, `sheet_kind`       | a sheet of five fields or of six, and the kind of its record                  | `sheet_stands`, `sheet_told`                  |
-- | `record_reply kinds d at`   | refusals 11, 12, 13 of the record at a place                                  | `taken`: what holds of a record that is taken |
pub mod Bytes
pub mod Records
pub mod Words
pub mod Stored
pub mod Taken
pub mod Longer
pub mod Back
pub mod Unique
