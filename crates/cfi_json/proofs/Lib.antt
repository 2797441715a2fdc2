pub mod Strings
pub mod Values
pub mod Printed
pub mod Building
pub mod Plain
pub mod OneLine
pub mod Depths
pub mod FrameValues
pub mod SampleValues
pub mod ThreadValues
pub mod CoreValues
pub mod ProfileValues
mod WorkedValues
mod WorkedStacks
