-- Laws that the crates above cite: cases, Bool, floats, tables, readings that are lent as bytes.
pub mod Cases
pub mod Booleans
pub mod Counts
pub mod Signs
pub mod Finiteness
pub mod Ordering
pub mod Patterns
pub mod Tables
pub mod Decoding
