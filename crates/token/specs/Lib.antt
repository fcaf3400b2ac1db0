pub mod Bytes
pub mod Meaning
pub mod Readable
pub mod Operators
