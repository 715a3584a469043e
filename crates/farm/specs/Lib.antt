pub mod Pairs
pub mod Lent
pub mod Figures
