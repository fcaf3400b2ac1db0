pub mod Reports
pub mod Recording
