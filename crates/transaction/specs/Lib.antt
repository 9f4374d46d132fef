pub mod Verdicts
pub mod Details
pub mod Headers
pub mod Checks
pub mod Layers
pub mod Sounds
pub mod Pairs
