pub mod Numbers
pub mod Words
pub mod Given
