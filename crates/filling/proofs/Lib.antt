-- What the functions are proved by.
pub mod Laws
pub mod Putting
pub mod Told
pub mod Places
