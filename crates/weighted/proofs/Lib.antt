-- Laws of the sums of a block of rows, and of the rows of a weighted call.
pub mod WeightedSums
pub mod WeightedRows
