pub mod Operands
pub mod Programs
