-- Laws of the host call.
pub mod HostCalls
