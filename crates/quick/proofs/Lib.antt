pub mod SlowRows
