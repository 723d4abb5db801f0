-- A molfile read as a block. What is said of it stands in `molfile`.
--
-- | notion          | meaning                                                      | the law that matters |
-- | `molfile_reply` | the lines' refusals, the block's over the kept bonds, then 9 | `unique-read`        |
-- | `molfile_bytes` | the bonds' bytes at the front of what is lent                | `unique-bytes`       |
pub mod Bytes
pub mod Unique
