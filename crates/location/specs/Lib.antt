pub mod Sets
pub mod SetLaws
pub mod Members
