pub mod Lines
pub mod Traces
pub mod Lengths
