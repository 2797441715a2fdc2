mod Computing
pub mod NumberLemmas
mod NumbersRead
pub mod InputLemmas
pub mod RunLemmas
mod Printed
pub mod WordLemmas
mod RowsPrinted
pub mod RowsCommandLineLemmas
pub mod RowsAnswerLemmas
mod RowsOnHeap
