pub mod BoxWords
pub mod Common
