-- What only the code needs of plans: its contracts cite it, and no promise rests on it.
pub mod Accepted
pub mod Reaching
