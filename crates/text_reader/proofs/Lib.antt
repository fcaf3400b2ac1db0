pub mod Parts
pub mod Fields
pub mod Lines
pub mod Scan
pub mod Answers
