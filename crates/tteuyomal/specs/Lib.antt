-- The exports. What each replies is said in the crate that it calls: block_calls, text_calls, deck_calls, library_calls, queue_calls, claim_calls, whole_calls over calls.
--
-- | notion    | meaning                                            | the law that matters |
-- | `version` | the version of the C functions as one number       | `unique-version`     |
pub mod Version
