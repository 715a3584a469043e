pub mod Listed
pub mod Opcodes
