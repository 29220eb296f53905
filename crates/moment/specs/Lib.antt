-- What the states hold and how it is brought up to date; then figures, the states in the source's order, whole arrays and ranges.
--
-- Of readings x[i] and y[i] with weights w[i], which are 1 but where they are combined:
--     weight = sum w[i]          mean_x = sum w[i] x[i] / weight
--     dp_xy  = sum w[i] (x[i] - mean_x) (y[i] - mean_y), of one series dp = dp_xx
--     mk     = sum w[i] (x[i] - mean)^k, so that m2 = dp
-- No sum of squares is kept, whose difference would cancel: each is about the mean so far, and is moved where the mean moves.
-- Parts a and b make the whole, with delta = mean_b - mean_a, by
--     weight = weight_a + weight_b          mean = mean_a + delta weight_b / weight
--     dp_xy  = dp_xy_a + dp_xy_b + weight_b (mean_x_b - mean_x) delta_y
--     m2     = m2_a + m2_b + u, where u = weight_b (mean_b - mean) delta
--     m3     = m3_a + m3_b + delta / weight (u (weight_a - weight_b) + 3 (weight_a m2_b - weight_b m2_a))
--     m4     = m4_a + m4_b + delta / weight (4 (weight_a m3_b - weight_b m3_a) + delta / weight
--              (u (weight_a (weight_a - weight_b) + weight_b^2) + 6 (weight_a^2 m2_b + weight_b^2 m2_a)))
-- An insert is the same with one reading as b: weight_b 1, mean_b the reading, its dp and mk 0.
-- Mean and dp are (17) and (23) of Schubert and Gertz, Numerically stable parallel computation of (co-)variance (2018); mk is (3.26)
-- and (3.27) of Pébay, Terriberry, Kolla and Bennett, Numerically stable, scalable formulas for parallel and online computation of
-- higher-order multivariate central moments with arbitrary weights (2016). The files below give them with every rounding.
-- Assumes nothing.
pub mod Figure
pub mod Sums
pub mod Updates
pub mod Var
pub mod Cov
pub mod Pearson
pub mod Skew
pub mod Kurtosis
pub mod Chunks
pub mod Arrays
pub mod Code
