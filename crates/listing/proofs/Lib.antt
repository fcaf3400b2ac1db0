pub mod Texts
pub mod Lengths
