pub mod Families
pub mod Modes
pub mod Resources
pub mod ResourcesDer
pub mod ResourcesReadingLaws
pub mod SetDer
pub mod SetText
