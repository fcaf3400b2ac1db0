pub mod Laws
pub mod Told
