pub mod Faults
pub mod FaultLaws
pub mod FaultCases
pub mod Fields
pub mod Reading
