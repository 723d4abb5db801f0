-- Laws of lines.
pub mod Lines
pub mod Decimal
pub mod Fits
pub mod Labels
pub mod Whole
pub mod Examples
