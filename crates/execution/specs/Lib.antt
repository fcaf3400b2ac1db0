pub mod Next
pub mod Running
pub mod Starts
