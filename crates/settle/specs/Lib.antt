pub mod Faults
pub mod Originals
pub mod Relied
pub mod Entering
