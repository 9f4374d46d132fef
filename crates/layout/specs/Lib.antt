pub mod Companions
pub mod Fields
pub mod Layouts
pub mod Letters
pub mod SetIds
pub mod Tables
