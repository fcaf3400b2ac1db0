pub mod Accepting
pub mod Answers
