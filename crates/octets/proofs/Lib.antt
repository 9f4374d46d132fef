pub mod Alls
pub mod Blocks
pub mod Columns
pub mod Values
