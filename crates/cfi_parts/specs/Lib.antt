pub mod Pointers
pub mod Instructions
pub mod InstructionReaders
pub mod ReadingParameters
pub mod InstructionIterators
pub mod InstructionVisits
