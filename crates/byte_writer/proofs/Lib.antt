pub mod Laws
pub mod Digits
