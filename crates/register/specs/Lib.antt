pub mod Faults
pub mod Fives
pub mod Keys
pub mod Maps
