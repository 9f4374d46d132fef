pub mod Keys
pub mod Joins
pub mod Tests
pub mod Blank
pub mod Open
pub mod Acts
pub mod Answered
mod Zeros
