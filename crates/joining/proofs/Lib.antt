-- Laws of the definitions in specs/.
pub mod Whole
pub mod Written
pub mod Climb
