-- What only the code needs of a host call.
pub mod Checks
pub mod Hosts
