-- What the C functions for claims and for SDFs answer.
--
-- | notion                     | meaning                                                                      | the law that matters                                                      |
-- | `record_list`, `item_list` | where a record and its next one begin, or 254 for done; where a value stands | `Steps`, `sdf_record_tells`, `sdf_item_tells` (told); `lent_once` (calls) |
pub mod Spans
