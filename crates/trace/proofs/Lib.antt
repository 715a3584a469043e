pub mod Decimal
pub mod Scaled
pub mod Laws
pub mod Figures
