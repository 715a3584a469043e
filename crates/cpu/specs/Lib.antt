pub mod Registers
pub mod Record
