pub mod Cases
pub mod Shifts
pub mod Running
pub mod Worked
pub mod Laws
pub mod LesserFrames
