-- What is lent out in each case, and how the code's replies are read.
pub mod Laws
pub mod Blocks
