-- Laws of the index, of the work and of the reply.
pub mod Tree
pub mod Counting
pub mod Filling
pub mod Reply
pub mod Examples
