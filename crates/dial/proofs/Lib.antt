pub mod Packing
pub mod Overlay
pub mod Front
pub mod Laws
pub mod Figures
