pub mod Meaning
pub mod Fields
pub mod Registers
