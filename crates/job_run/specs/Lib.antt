pub mod Accepted
pub mod JobRuns
