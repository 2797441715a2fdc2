pub mod FoundRow
pub mod CachedCalls
