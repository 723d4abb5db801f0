-- What the C functions for two queues at one table answer.
--
-- | notion                 | meaning                                                          | the law that matters                             |
-- | `queue_for`, `look_list` | the queue that a number means; the six fields of a block it holds | `table_once`; `lent_once` (calls)                |
pub mod TwoQueues
