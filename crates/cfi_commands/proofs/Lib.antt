mod FolderLemmas
pub mod NameLemmas
mod TargetLemmas
mod BillionthsLemmas
mod Worked
