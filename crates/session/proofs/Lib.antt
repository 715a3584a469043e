pub mod Sessions
pub mod ByTurn
