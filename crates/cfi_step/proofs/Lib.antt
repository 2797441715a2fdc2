pub mod Recovering
pub mod Signatures
pub mod FirstRules
pub mod FoundFdes
pub mod AsScanned
pub mod SortedCode
pub mod WorkedModules
pub mod KeptRows
pub mod OrSteps
pub mod Walking
pub mod PackedKeeps
mod PlainFunctions
pub mod LesserWalks
