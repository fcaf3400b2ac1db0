pub mod Loads
pub mod Tables
