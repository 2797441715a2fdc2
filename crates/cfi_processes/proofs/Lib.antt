mod RegisterTables
mod Unwinding
mod WorkedSamples
mod WorkedSites
pub mod CodeLemmas
pub mod ModuleLemmas
pub mod RoomLemmas
mod FrameLemmas
mod ProfileImages
mod ProfileLemmas
