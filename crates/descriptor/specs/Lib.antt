pub mod Descriptors
pub mod Reading
pub mod Shapes
