pub mod Laws
pub mod Refused
pub mod Fields
