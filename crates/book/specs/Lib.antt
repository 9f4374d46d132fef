pub mod Faults
pub mod Lists
pub mod Meaning
pub mod Told
pub mod Actions
pub mod Stands
pub mod Rows
