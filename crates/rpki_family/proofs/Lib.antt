pub mod Common
pub mod FamilyCoverLemmas
pub mod FamilyLemmas
