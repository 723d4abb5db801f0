-- Laws of the definitions in specs/.
pub mod Blocks
pub mod Taken
pub mod Putting
pub mod Values
pub mod Shapes
pub mod Again
pub mod Degrees
pub mod Order
pub mod RoundTrip
pub mod Rearranged
