pub mod Laws
pub mod Found
pub mod Cycle
pub mod Counted
