-- Laws of places, stacks and moves, over any moment and any layout; of pairs; of rows; of the lists that are filled;
-- of what two moments keep alike.
pub mod Places
pub mod Stacks
pub mod Moves
pub mod Pairs
pub mod Rows
pub mod Extremes
pub mod Steps
pub mod Outputs
pub mod Related
