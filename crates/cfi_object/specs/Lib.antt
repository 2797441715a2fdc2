pub mod CallFrames
pub mod FileInputs
pub mod FileParts
pub mod NeededParts
pub mod Numbers
pub mod Targets
pub mod MachineNames
