pub mod Keys
pub mod ListedRows
