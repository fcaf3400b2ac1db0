pub mod Places
pub mod Fronts
pub mod Lines
