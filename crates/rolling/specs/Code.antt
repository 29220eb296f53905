-- What only the code needs of the moments: its contracts cite it, and no promise rests on it.
pub mod Ops
pub mod Extremes
pub mod Layouts
pub mod Rows
pub mod Slots
