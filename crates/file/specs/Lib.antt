pub mod Records
pub mod Lengths
pub mod Openings
pub mod Counts
