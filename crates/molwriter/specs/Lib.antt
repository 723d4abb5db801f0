-- What is written for a block.
--
-- | notion                | meaning                                            | the law that matters                                        |
-- | `molfile_lines`       | the lines of a block's molfile                     | `lines_plain`: no line feed stands in one                   |
-- | `molfile_text`        | these lines, a line feed after each                | `reads_back`, `round_trip`: it reads back as the same block |
-- | `molfile_write_reply` | the block's refusals, then 9, or the text's length | `unique-write`                                              |
pub mod Written
pub mod Pieces
pub mod Length
pub mod Replies
pub mod Unlines
pub mod Threes
pub mod Listing
pub mod RoundTrip
pub mod Unique
pub mod Examples
