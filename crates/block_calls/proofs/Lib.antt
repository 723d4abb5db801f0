-- How the code's replies about a block are read, and the two outputs of contributions and of Szeged terms.
pub mod Laws
pub mod Both
