pub mod Plans
pub mod InTurn
