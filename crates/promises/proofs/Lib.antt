-- Laws by subject: the source's states, whole arrays and ranges; the account over a plan; the source's windows, marks and rows, its
-- fixed windows and its weights; then the demands, the statement for pairs of traces, that of the lowest and highest reading, the law of
-- maps, the step from row to row and the skewness in a kurtosis state, computed examples of the source, accepted and refused calls that
-- bear witness, maps of other lengths, and the table.
pub mod SourceStates
pub mod Spans
pub mod SourceArrays
pub mod Accounts
pub mod SourceWindow
pub mod Validity
pub mod SourceRows
pub mod SourceFixed
pub mod SourceWeights
pub mod DemandOne
pub mod Accepted
pub mod RowsSame
pub mod DemandTwo
pub mod TwoCalls
pub mod FigureRows
pub mod DemandThree
pub mod TwoTraces
pub mod LowestHighest
pub mod Maps
pub mod KeptBounds
pub mod SkewInKurtosis
pub mod Examples
pub mod Witnesses
pub mod PairWitnesses
pub mod ExtremeWitnesses
pub mod Refused
pub mod Padded
pub mod Table
