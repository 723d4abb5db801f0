-- Two queues at one table.
--
-- | notion                           | meaning                                                             | the law that matters                                                                                        |
-- | `seek`, `holds`, `place_holding` | the first place that has a number                                   | `seek_found`, `seek_least`                                                                                  |
-- | `add_reply`, `added`             | what adding is told, and the shelf's bytes after it                 | `room_exactly`: 28 exactly when eight are held                                                              |
-- | `drop_reply`, `dropped`          | the same for dropping                                               | `same_place_again`: a dropped place is used again                                                           |
-- | `look_reply`                     | what looking up is told                                             | `same_look`: the fields of what was added                                                                   |
-- | `shelf`, `table_after`           | a queue's half of the table; the table after a call                 | `other_after`: no call changes the other queue's places                                                     |
-- | `Trade`, `Call`, `answers_to`    | what is stored, the calls, and what a queue is told while both call | `alone`: on any bytes, what its own calls are told by its half                                              |
-- | `Meaning`, `told_all`            | a queue with no bytes, and what its calls are told                  | `own_calls_only`                                                                                            |
-- | `HonestTrade`                    | the bytes say what the goods mean                                   | `own_calls_only`, `keeps_own`                                                                               |
-- | `add_told`, `table_added`        | what adding is told, and the table's bytes after it                 | `queue_alone`: what a queue is told depends on its own calls                                                |
-- | `drop_told`, `table_dropped`     | the same for dropping                                               | `queue_alone`                                                                                               |
-- | `look_told`                      | what looking up is told                                             | `queue_fields`: the fields of the block that was added                                                      |
-- | `compose_told`                   | what composing from an assembly's payload is told                   | `queue_composes`: those of the molecule written out                                                         |
-- | `table_answer`, `table_left`     | what `queue_alone` speaks of                                        | `add_told_lem`, `add_left`, `look_told_lem`, `drop_told_lem`, `drop_left`, `compose_told_lem`: the promises |
-- | `summary_table`, `blocks`        | the table by its bytes, and the queue's blocks with no bytes        | `tells_blocks`                                                                                              |
pub mod Shelf
pub mod Table
pub mod Calls
pub mod Model
pub mod Queues
pub mod Blocks
pub mod Keeps
pub mod Work
pub mod Seeks
pub mod Entries
pub mod Storage
pub mod Room
pub mod Examples
pub mod Told
pub mod Unique
