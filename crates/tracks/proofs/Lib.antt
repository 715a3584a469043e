pub mod InsideRows
