-- Lemmas on the lines of routes.
pub mod Common
pub mod FieldLemmas
pub mod RouteLineLemmas
pub mod UsualRouteLemmas
