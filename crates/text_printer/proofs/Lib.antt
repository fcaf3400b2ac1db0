pub mod Operands
pub mod Programs
pub mod Calls
