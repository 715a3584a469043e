pub mod Text
pub mod Form
pub mod State
pub mod Tally
