pub mod Folders
pub mod Billionths
pub mod Times
pub mod Disks
pub mod Trees
pub mod Targets
pub mod NamedFiles
