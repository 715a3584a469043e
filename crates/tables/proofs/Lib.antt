pub mod CountTable
