pub mod Writing
pub mod Texts
pub mod Areas
pub mod Lengths
pub mod Writers
