-- Laws that the crates above cite.
pub mod Checks
pub mod Lent
pub mod Accepted
pub mod Maps
