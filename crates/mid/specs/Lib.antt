pub mod Mid
