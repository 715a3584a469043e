pub mod Herdbook
