mod Neighbours
mod Order
mod Search
mod Texts
pub mod Widths
