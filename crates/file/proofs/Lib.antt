pub mod Feeds
pub mod Headers
pub mod Lines
pub mod Tallies
