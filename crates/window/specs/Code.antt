-- What only the code needs of windows: its contracts cite it, and no promise rests on it.
pub mod Memory
pub mod Stacks
pub mod Filling
pub mod Widening
