pub mod Hauls
