pub mod Behind
pub mod Expressions
pub mod ExpressionPlaces
pub mod InstructionLemmas
pub mod Walk
pub mod Visits
mod Vectors
pub mod PointerReads
