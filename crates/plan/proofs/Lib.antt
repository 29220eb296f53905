-- Laws of plans, of the check of a call, and of the bounds of fixed windows.
pub mod Plans
pub mod Checks
pub mod Numbers
pub mod FixedWindows
