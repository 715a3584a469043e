pub mod Slip
pub mod Steps
