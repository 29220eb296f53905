-- In the order of documents 01 and 02: places, the window over any moment, what may befall its states, readings and pairs of them, what a
-- call may be given, rows, a window's lowest and highest reading, the lists that a call is lent; apart from them what only the code needs.
pub mod Places
pub mod Window
pub mod Histories
pub mod Readings
pub mod Pairs
pub mod Given
pub mod Rows
pub mod Extremes
pub mod Outputs
pub mod Code
