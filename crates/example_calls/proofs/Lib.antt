pub mod Common
pub mod RouteLemmas
