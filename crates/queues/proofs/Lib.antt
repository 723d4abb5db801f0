-- The laws of what a queue is told.
pub mod Kept
pub mod OwnCalls
pub mod Alone
-- What the functions are proved by.
pub mod Steps
pub mod Answers
