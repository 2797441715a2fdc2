pub mod EntryReads
pub mod Within
pub mod EntryKinds
pub mod Announced
