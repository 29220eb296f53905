-- In document 01's order: the moments of windows and what may be asked of them, the plan calls, fixed windows; apart from them what
-- only the code needs.
pub mod Moments
pub mod Calls
pub mod Fixed
pub mod Code
