-- What only the code needs of weights: its contracts cite it, and no promise rests on it.
pub mod Blocks
pub mod Sums
pub mod Rows
