pub mod Reasons
pub mod Sequences
pub mod Outputs
pub mod FrameJson
