-- Laws of the roots, of the work, of the fineness and of the reply.
pub mod Squares
pub mod Blocks
pub mod Fineness
pub mod Reply
