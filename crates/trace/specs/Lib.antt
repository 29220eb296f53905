-- In document 01's order: a trace and its validity map, then refusals; first how a contract names a slice.
pub mod Slices
pub mod Trace
pub mod Refusals
pub mod Outcomes
pub mod Lent
