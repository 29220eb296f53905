-- Laws by subject. The crates above cite Pairs, Chunked, Weights and Figures. A function's own file answers what is asked of it in the
-- code's order: so a function is judged for itself, even where one that it calls is refused.
pub mod Folds
pub mod Pairs
pub mod Filling
pub mod Chunked
pub mod Answers
pub mod Lent
pub mod Weights
pub mod Figures
pub mod Floats
