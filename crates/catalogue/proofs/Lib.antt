-- The laws behind the proofs of a library's reader.
pub mod Turns
pub mod Reading
-- Laws of the definitions in specs/.
pub mod Choices
pub mod Sound
pub mod First
pub mod Fine
pub mod Written
