-- The kinds of call that the demands speak of, each by the contract of its entries: what it answers and what it leaves in what it is lent.
-- A contract is on all inputs; a call is accepted where its number is 0. Assumes nothing.
use Rattle.std.specs.Prelude.{ℕ, Bool, List, Float, length, take, drop}
use Rattle.trace.specs.Trace.{Trace, valid_readings, valid_pairs}
use Rattle.moment.specs.Skew.{skew_new}
use Rattle.moment.specs.Kurtosis.{kurtosis_new}
use Rattle.moment.specs.Arrays.{var_list, cov_list, pearson_list, skew_list, kurtosis_list, range_readings}
use Rattle.moment.specs.Arrays.{var_whole, cov_whole, pearson_whole, skew_whole, kurtosis_whole}
use Rattle.moment.specs.Arrays.{var_answer, cov_answer, pearson_answer, skew_answer, skew_range, kurtosis_answer, kurtosis_range}
use Rattle.window.specs.Given.{Given}
use Rattle.window.specs.Outputs.{Lent, Answer, answers_in}
use Rattle.rolling.specs.Moments.{Statistic, Variance, Skewness, Kurtosis, Covariance, Correlation, kind_of, finals_of}
use Rattle.rolling.specs.Calls.{Query, GivenTo, Called}
use Rattle.rolling.specs.Fixed.{fixed_query, CalledFixed}
use Rattle.moments.specs.HostCall.{Host, decoded_of, ReadingLists, CalledBytes}
use Rattle.moments.specs.Results.{StateResult}

-- ---- whole arrays, pairs and ranges
-- the calls that hand out a state, each named as the entry is
pub data ArrayCall : Type 0 where
  of_var : Trace → ArrayCall
  of_skew : Trace → ArrayCall
  of_kurtosis : Trace → ArrayCall
  of_cov : Trace → Trace → ArrayCall
  of_pearson : Trace → Trace → ArrayCall
  of_skew_range : Trace → ℕ → ℕ → ArrayCall
  of_kurtosis_range : Trace → ℕ → ℕ → ArrayCall

-- what each does: `before` and `after` are the members that the lent state holds, r is what the call answers
abbrev pub CallsArray : ArrayCall → List Float → List Float → ℕ → Type 0
CallsArray (of_var t) before after r = StateResult var_list (var_answer t) before r after
CallsArray (of_skew t) before after r = StateResult skew_list (skew_answer t) before r after
CallsArray (of_kurtosis t) before after r = StateResult kurtosis_list (kurtosis_answer t) before r after
CallsArray (of_cov x y) before after r = StateResult cov_list (cov_answer x y) before r after
CallsArray (of_pearson x y) before after r = StateResult pearson_list (pearson_answer x y) before r after
CallsArray (of_skew_range t start len) before after r = StateResult skew_list (skew_range t start len) before r after
CallsArray (of_kurtosis_range t start len) before after r = StateResult kurtosis_list (kurtosis_range t start len) before r after

-- the valid readings of a trace and of a range of it, and the valid pairs of two traces
abbrev pub readings_of : Trace → List Float
readings_of t = valid_readings t.mapped t.map t.readings

abbrev pub readings_in : Trace → ℕ → ℕ → List Float
readings_in t start len = range_readings t.mapped t.map t.readings start len

abbrev pub pairs_of : Trace → Trace → List (Float × Float)
pairs_of x y = valid_pairs x.mapped x.map x.readings y.mapped y.map y.readings

-- the members of the state that an accepted one hands out, by document 01
abbrev pub members_of : ArrayCall → List Float
members_of (of_var t) = var_list (var_whole (readings_of t))
members_of (of_skew t) = skew_list (skew_whole (readings_of t))
members_of (of_kurtosis t) = kurtosis_list (kurtosis_whole (readings_of t))
members_of (of_cov x y) = cov_list (cov_whole (pairs_of x y))
members_of (of_pearson x y) = pearson_list (pearson_whole (pairs_of x y))
members_of (of_skew_range t start len) = skew_list (skew_new (readings_in t start len))
members_of (of_kurtosis_range t start len) = kurtosis_list (kurtosis_new (readings_in t start len))

-- ---- windows
-- "be it variance, skewness or kurtosis": the figures of one trace, of which document 01 speaks, and whose rows the Rust has
abbrev pub OfOneTrace : Statistic → Type 0
OfOneTrace (Variance ddof) = Unit {0}
OfOneTrace (Skewness bias) = Unit {0}
OfOneTrace (Kurtosis fisher bias) = Unit {0}
OfOneTrace (Covariance ddof) = ⊥
OfOneTrace Correlation = ⊥

-- Document 02, request 2: "rolling covariance and rolling correlation of two traces". The Rust has these of whole arrays only.
abbrev pub OfTwoTraces : Statistic → Type 0
OfTwoTraces (Variance ddof) = ⊥
OfTwoTraces (Skewness bias) = ⊥
OfTwoTraces (Kurtosis fisher bias) = ⊥
OfTwoTraces (Covariance ddof) = Unit {0}
OfTwoTraces Correlation = Unit {0}

-- row k's answers of the figures, which stand first in the lists; behind a variance stand its lowest and highest reading
abbrev pub figures_in : Statistic → Lent → ℕ → List Answer
figures_in a l k = take (length (finals_of a)) (answers_in l.outputs.answers k)

-- row k's answers behind them: of a variance the lowest and highest reading, of other figures none
abbrev pub extremes_in : Statistic → Lent → ℕ → List Answer
extremes_in a l k = drop (length (finals_of a)) (answers_in l.outputs.answers k)

-- An accepted call without weights, its number 0, on what is given with a plan and a setting q, that leaves the lists l: a plan call, a
-- host call or a call with fixed windows, whatever the lists held before. Answers that are equal here and no NaN have the same bits.
-- NaN is one value here: that its bits are 7FF8000000000000 is carried by the code, for `row::write` of `rolling`, and for skewness
-- `float::canonical`, store the constant 0.0 / 0.0, which the compiler folds to them, and is seen by the oracle's `fuzz`, which compares
-- bits.
pub data AcceptedCall : (q : Query) → GivenTo q → Lent → Type 0 where
  plan_call : {q : Query} {t : GivenTo q} {l₀ l : Lent} → Called q t l₀ l 0 → AcceptedCall q t l
  host_call : {q : Query} {h : Host (kind_of q.statistic)} {r₀ r : ReadingLists (kind_of q.statistic)} {l₀ l : Lent}
      → CalledBytes q h r₀ r l₀ l 0 → AcceptedCall q (decoded_of (kind_of q.statistic) h) l
  fixed_call : {center : Bool} {window_size min_periods : ℕ} {a : Statistic} {t : Given (kind_of a)} {l₀ l : Lent}
      → CalledFixed center window_size min_periods a t l₀ l 0 → AcceptedCall (fixed_query center window_size min_periods a t) t l
