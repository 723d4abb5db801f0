-- Laws of putting.
pub mod Puts
