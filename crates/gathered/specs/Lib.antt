-- Composing a sheet from a whole record over the blocks that a queue holds.
--
-- | notion                          | meaning                                                         | the law that matters                                          |
-- | `over_record`, `behind_head`    | what a record is told whose payload is told something           | `as_deck`: what the deck of the blocks and the record is told |
-- | `over_output`, `sheet_told`     | 9 for the table, 20, 9 for the output, then the record's        | `queue_sheet`: the sheet that writing gives for that deck     |
-- | `record_table`, `record_blocks` | the table where orders are composed, by its bytes and with none | `sheets_alone`: it depends only on the queue's own calls      |
-- | `block_records`, `further`      | a queue's blocks as records, and a place counted behind them    | `queue_accepted`: the sheet is accepted behind them           |
pub mod Gathered
pub mod Orders
pub mod Stacked
pub mod Examples
pub mod Alone
pub mod AsDeck
pub mod Accepted
pub mod Unique
