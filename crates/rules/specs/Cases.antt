-- Tables of cases, computed by the prover: each row fails under some misreading of document 01 or document 02.
pub mod Files
pub mod Document01
pub mod Readings
pub mod Refusals
pub mod TestLoads
pub mod Outside
pub mod Firsts
pub mod Costs
pub mod Operators
pub mod Sets
pub mod Texts
