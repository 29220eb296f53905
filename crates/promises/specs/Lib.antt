-- The Rust as functions on values: what is taken from Rust itself, the source's states, whole arrays and ranges, then its windows, rows and
-- weights; the kinds of call, and the three demands of them; the statement for pairs of traces; that of a window's lowest and highest
-- reading; the law of maps; the step from a row's bounds to the next row's; the skewness in a kurtosis state; last the table of the P
-- cases.
pub mod Rust
pub mod SourceStates
pub mod SourceArrays
pub mod SourceWindow
pub mod SourceRows
pub mod SourceFixed
pub mod SourceWeights
pub mod Calls
pub mod DemandOne
pub mod DemandTwo
pub mod DemandThree
pub mod TwoTraces
pub mod LowestHighest
pub mod Maps
pub mod KeptBounds
pub mod SkewInKurtosis
pub mod Table
