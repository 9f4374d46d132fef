pub mod Ascending
pub mod Shift
pub mod Arrive
pub mod Every
pub mod Adds
pub mod Searched
pub mod Kept
