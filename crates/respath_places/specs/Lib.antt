pub mod Checks
pub mod Places
