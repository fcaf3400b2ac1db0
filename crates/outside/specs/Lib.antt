pub mod Stores
pub mod Positions
