pub mod WordLemmas
pub mod CommandLemmas
pub mod ReadLemmas
