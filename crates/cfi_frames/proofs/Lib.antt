pub mod JsonLemmas
mod Worked
pub mod InputLemmas
pub mod SaidLemmas
