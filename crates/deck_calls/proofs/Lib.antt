-- How the code's replies about a deck are read.
pub mod Laws
