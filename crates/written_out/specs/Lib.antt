-- Libraries and queues against decks written out.
--
-- | notion                 | meaning                                                                  | the law that matters                                                         |
-- | `product_deck` (catalogue) | the deck with a product's assembly where the library stood             | `product_sheet`: a step writes what writing gives for it; `product_accepted` |
-- | `walk_from`             | steps one after the other, each at the position that was handed back     | `whole_walk`: every product once, in order, and then done                    |
-- | `in_order`, `one_by_one`  | the sheets of so many products from a position on, and their bytes       | `whole_run`, `run_bytes`: a run's bytes are the steps' bytes                 |
-- | `blocks_left` (gathered) | the blocks that a queue's own calls left it | `queue_room`, `queue_room_again`, `sheet_any_order`, `queue_exactly` |
pub mod Walk
pub mod Product
pub mod Walked
pub mod Histories
pub mod QueueDecks
