pub mod Brisk
pub mod Whole
