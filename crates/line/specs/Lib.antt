-- The text of each reply.
--
-- | notion                                                      | meaning                       | the law that matters |
-- | `measured_text`, `verdict_text`, `deck_text`, `unread_text` | the line for each reply       | `one_line`, `whole`  |
-- | `labelled`, `label_reply`                                   | a file's name before its line | `one_label`          |
pub mod Text
pub mod Label
pub mod Put
