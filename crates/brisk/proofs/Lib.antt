pub mod Carrying
pub mod WholeLaws
