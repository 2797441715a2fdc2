mod ObjectLemmas
pub mod StackLemmas
pub mod BoxLemmas
pub mod FlameLemmas
pub mod CountLemmas
pub mod TallyLemmas
pub mod TurnedLemmas
pub mod BeginLemmas
pub mod CommonLemmas
pub mod OpeningLemmas
pub mod PictureLemmas
pub mod Worked
pub mod SharesLemmas
pub mod LawLemmas
