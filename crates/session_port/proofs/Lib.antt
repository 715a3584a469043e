pub mod Laws
pub mod Bytes
pub mod Courses
pub mod AsRun
pub mod Paces
