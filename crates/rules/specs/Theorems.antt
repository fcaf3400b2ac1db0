-- Definitions beside the rules that contracts speak of: the logic of readers, and the bounds of an accepted job. What is proved of them stands in
-- proofs/Theorems.
pub mod Readers
pub mod Bounds
