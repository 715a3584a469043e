pub mod Text
pub mod Places
