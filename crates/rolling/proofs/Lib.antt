-- Laws of the rows of a call, of what the stacks of variance keep, of the slots of skewness, of the skewness in a kurtosis state, and of
-- the ends of a call.
pub mod Rolling
pub mod RowLoops
pub mod Counts
pub mod Slots
pub mod Blocks
pub mod LowestHighest
pub mod SkewInKurtosis
pub mod OneFigure
pub mod Calls
pub mod Lent
