-- The demands of a call by its contract.
pub mod Demanded
