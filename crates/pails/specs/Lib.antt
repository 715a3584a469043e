pub mod Pails
