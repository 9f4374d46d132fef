pub mod Codes
pub mod Asked
