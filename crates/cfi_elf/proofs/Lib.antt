pub mod Cases
pub mod Chains
mod Contents
pub mod EntrySteps
mod Gathered
pub mod OrderedSteps
pub mod SameResults
pub mod ImageParts
pub mod Images
pub mod PltImages
pub mod FileImages
mod FoundSections
mod FunctionLists
pub mod NoteSteps
mod FileKinds
mod NearestFunctions
mod Worked
mod WorkedRelocations
mod WorkedLinks
mod WorkedPlt
