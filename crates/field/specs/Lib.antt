pub mod Checks
pub mod Facts
pub mod Faults
pub mod Shapes
pub mod Symbols
