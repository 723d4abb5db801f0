-- The neighbour text: what it says, its refusals, the text of a block, and that the one undoes the other.
--
-- | notion                             | meaning                                                          | the law that matters                                 |
-- | `numbers text`                     | the longest runs of digits: what each says, and where it begins  | `capped`: the decimal value, however long            |
-- | `fault_at text`                    | 21: the first byte that may not stand there, or number above 999 | `looking_next`, `looking_end`                        |
-- | `shape_from`                       | 22: descriptions up to the last 0, and nothing after it          | `shaped_more`, `shaped_last`                         |
-- | `steps`                            | what the numbers ask for in turn: an atom described, or a bond   | `steps_until`                                        |
-- | `neighbours_reply text room`       | the block of a text, or its refusal                              | `read_fine`: what is read is a block                 |
-- | `written_text n bs`                | the text of a block                                              | `text_most`: how long it is                          |
-- | `neighbours_write_reply n xs room` | the same, or its refusal                                         | `round_trip`: over the lent bytes, there and back    |
-- | `canonical n bs`                   | a block's bonds in the order of its text, smaller end first      | `reads_back`: what was written is read in that order |
-- | `Rearranged bs cs`                 | one list is the other in another order, some ends turned         | `rearranged`: the canonical list and the block's     |
-- Definitions
pub mod Neighbours
pub mod Written
pub mod Canonical
pub mod RoundTrip
-- Work
pub mod Work
pub mod Examples
-- Laws
pub mod Capped
pub mod Scanning
pub mod Turns
pub mod Filling
pub mod Judging
pub mod Writing
pub mod Ends
pub mod Roomy
