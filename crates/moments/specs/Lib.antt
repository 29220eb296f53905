-- What a host gets back: the host call of a plan, then states and figures; apart from them what only the code needs.
pub mod HostCall
pub mod Results
pub mod Code
