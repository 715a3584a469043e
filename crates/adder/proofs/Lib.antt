pub mod BinaryLaws
pub mod Computed
pub mod DigitLaws
pub mod Figures
