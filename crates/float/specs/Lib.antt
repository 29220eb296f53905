-- The operators of 64-bit floats; lists as tables of their values; readings that are lent as bytes.
pub mod Operators
pub mod Tables
pub mod Bytes
