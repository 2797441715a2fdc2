pub mod Given
pub mod Leb128
pub mod Onward
pub mod Repeating
mod Vectors
mod Stretches
mod SizedSums
mod FourBytes
pub mod Texts
pub mod SignedLeb128
mod ExpressionBytes
pub mod ReadNumbers
mod Edits
