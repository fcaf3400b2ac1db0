pub mod Layout
pub mod Words
pub mod Machines
pub mod Moves
