pub mod Stall
