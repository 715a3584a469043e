pub mod Dial
