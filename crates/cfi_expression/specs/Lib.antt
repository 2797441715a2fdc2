pub mod Frames
pub mod Windows
pub mod Operations
pub mod Stacks
pub mod Arithmetic
pub mod Evaluation
