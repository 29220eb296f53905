-- Document 01's weights; apart from them what only the code needs.
pub mod Weights
pub mod Code
