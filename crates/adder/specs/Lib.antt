pub mod Adder
pub mod Digits
