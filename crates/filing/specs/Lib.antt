pub mod Admitting
pub mod Filed
