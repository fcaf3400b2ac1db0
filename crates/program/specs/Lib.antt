pub mod Checks
pub mod Words
pub mod Programs
