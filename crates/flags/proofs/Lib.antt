pub mod Figures
pub mod StatusLaws
