pub mod Rules
pub mod Cases
pub mod Theorems
