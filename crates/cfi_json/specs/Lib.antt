pub mod Json
pub mod Printed
pub mod FrameValues
pub mod SampleValues
pub mod ThreadValues
pub mod CoreValues
pub mod ProfileValues
