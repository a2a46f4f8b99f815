pub mod BuilderLemmas
pub mod FoundLemmas
pub mod ReadLemmas
pub mod TaskLemmas
