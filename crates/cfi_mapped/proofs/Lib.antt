pub mod MappedOver
pub mod MappedOrder
pub mod MappedBeside
pub mod AfterChanges
pub mod ByPid
pub mod Worked
pub mod WorkedSymbols
pub mod CodeImages
mod ReadFiles
mod Missing
pub mod FileLemmas
mod FileListLemmas
mod SymbolLemmas
