pub mod NumberLemmas
pub mod Splices
pub mod ReadParts
pub mod SameBuilds
pub mod SameFrames
pub mod WholeParts
pub mod SectionReads
mod NumbersRead
mod Lacking
