pub mod AroundLemmas
pub mod AroundSteps
pub mod BuildSteps
pub mod ChainSteps
pub mod Chains
pub mod EntrySteps
pub mod EventSteps
pub mod FixedReads
pub mod IndexSteps
pub mod ItemReads
pub mod LostSums
pub mod RecordSteps
pub mod PieceSteps
pub mod PipeSteps
pub mod PlaceLemmas
pub mod WindowSteps
pub mod SortSteps
mod Registers
mod Worked
