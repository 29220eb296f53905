-- In document 01's order: plans, the bounds of fixed windows, what refuses a plan; apart from them what only the code needs.
pub mod Plan
pub mod Bounds
pub mod Refusals
pub mod Code
