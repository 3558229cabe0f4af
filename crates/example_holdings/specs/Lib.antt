pub mod Changes
pub mod Inputs
