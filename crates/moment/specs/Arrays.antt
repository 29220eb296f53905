-- Document 01, "Whole arrays (000)" and its ranges: what each call answers, on all inputs, and what the cases of an answer are
-- in the paper's number and values. Assumes nothing.
use Rattle.std.specs.Prelude.{ℕ, Bool, cond, List, [], ◌∷◌, length, take, drop, ◌==◌, Float, Result, Ok, Err}
use Rattle.trace.specs.declared.refusals.Refusal.{Refusal}
use Rattle.trace.specs.Outcomes.{number_of}
use Rattle.trace.specs.Trace.{Trace, valid_at, valid_from, valid_readings, valid_pairs}
use Rattle.trace.specs.Refusals.{trace_refusal, pair_refusal, range_refusal}
use Rattle.moment.specs.Chunks.{in_chunks}
use Rattle.moment.specs.Var.{var_empty, var_new, var_combine}
use Rattle.moment.specs.Cov.{cov_empty, cov_new, cov_combine}
use Rattle.moment.specs.Pearson.{pearson_empty, pearson_new, pearson_combine}
use Rattle.moment.specs.Skew.{skew_empty, skew_new, skew_combine}
use Rattle.moment.specs.Kurtosis.{kurtosis_empty, kurtosis_new, kurtosis_combine}
use Rattle.moment.specs.declared.var_state.VarState.{VarState}
use Rattle.moment.specs.declared.cov_state.CovState.{CovState}
use Rattle.moment.specs.declared.pearson_state.PearsonState.{PearsonState}
use Rattle.moment.specs.declared.skew_state.SkewState.{SkewState}
use Rattle.moment.specs.declared.kurtosis_state.KurtosisState.{KurtosisState}

-- ---- what a call answers: a state, or a refusal's number
pub data Answer (S : Type 0) : Type 0 where
  State : S → Answer S
  Refused : ℕ → Answer S

-- the state where no number applies, else the first that does
unfoldable pub answer : {S : Type 0} → ℕ → S → Answer S
answer number s = cond (number == 0) (State s) (Refused number)

-- the answer that a value of the code's type is
abbrev pub answered : {S : Type 0} → Result S Refusal → Answer S
answered (Ok s) = State s
answered (Err refusal) = Refused (number_of refusal)

-- "A refusal is its number alone"; an accepted call has the number 0
abbrev pub answer_number : {S : Type 0} → Answer S → ℕ
answer_number (State s) = 0
answer_number (Refused number) = number

-- a state's members, from how it lists them, or "each lent buffer then holds what it held before the call"
abbrev pub answer_members : {S : Type 0} → (S → List Float) → Answer S → List Float → List Float
answer_members list (State s) before = list s
answer_members list (Refused number) before = before

-- a state's members, in the order of the source's struct
abbrev pub var_list : VarState → List Float
var_list s = s.weight ∷ s.mean ∷ s.dp ∷ []

abbrev pub skew_list : SkewState → List Float
skew_list s = s.weight ∷ s.mean ∷ s.m2 ∷ s.m3 ∷ []

abbrev pub kurtosis_list : KurtosisState → List Float
kurtosis_list s = s.weight ∷ s.mean ∷ s.m2 ∷ s.m3 ∷ s.m4 ∷ []

abbrev pub cov_list : CovState → List Float
cov_list s = s.weight ∷ s.mean_x ∷ s.mean_y ∷ s.dp_xy ∷ []

abbrev pub pearson_list : PearsonState → List Float
pearson_list s = s.weight ∷ s.mean_x ∷ s.mean_y ∷ s.dp_xx ∷ s.dp_xy ∷ s.dp_yy ∷ []

-- ---- whole arrays
-- the state of a list of readings, or pairs, in chunks
abbrev pub var_whole : List Float → VarState
var_whole = in_chunks var_new var_combine var_empty

abbrev pub skew_whole : List Float → SkewState
skew_whole = in_chunks skew_new skew_combine skew_empty

abbrev pub kurtosis_whole : List Float → KurtosisState
kurtosis_whole = in_chunks kurtosis_new kurtosis_combine kurtosis_empty

abbrev pub cov_whole : List (Float × Float) → CovState
cov_whole = in_chunks cov_new cov_combine cov_empty

abbrev pub pearson_whole : List (Float × Float) → PearsonState
pearson_whole = in_chunks pearson_new pearson_combine pearson_empty

-- the answer for a trace, from the state of a list of readings, and for two traces, from that of a list of pairs
abbrev pub trace_answer : {S : Type 0} → (List Float → S) → Trace → Answer S
trace_answer whole t = answer (trace_refusal t) (whole (valid_readings t.mapped t.map t.readings))

abbrev pub pair_answer : {S : Type 0} → (List (Float × Float) → S) → Trace → Trace → Answer S
pair_answer whole x y =
    answer (pair_refusal (length x.readings) x.mapped x.map (length y.readings) y.mapped y.map)
    (whole (valid_pairs x.mapped x.map x.readings y.mapped y.map y.readings))

-- `var`
abbrev pub var_answer : Trace → Answer VarState
var_answer = trace_answer var_whole

-- `skew`
abbrev pub skew_answer : Trace → Answer SkewState
skew_answer = trace_answer skew_whole

-- `kurtosis`
abbrev pub kurtosis_answer : Trace → Answer KurtosisState
kurtosis_answer = trace_answer kurtosis_whole

-- `cov`
abbrev pub cov_answer : Trace → Trace → Answer CovState
cov_answer = pair_answer cov_whole

-- `pearson_corr`
abbrev pub pearson_answer : Trace → Trace → Answer PearsonState
pearson_answer = pair_answer pearson_whole

-- ---- ranges: "`from_array` makes one unchunked state of a range"
-- the valid readings of a range
abbrev pub range_readings : Bool → List ℕ → List Float → ℕ → ℕ → List Float
range_readings has map trace start len = valid_from (valid_at has map) start (take len (drop start trace))

-- the answer for a range, from the state of a list of readings
abbrev pub range_answer : {S : Type 0} → (List Float → S) → Trace → ℕ → ℕ → Answer S
range_answer new t start len =
    answer (range_refusal (length t.readings) t.mapped t.map start len) (new (range_readings t.mapped t.map t.readings start len))

-- `SkewState::from_array`
abbrev pub skew_range : Trace → ℕ → ℕ → Answer SkewState
skew_range = range_answer skew_new

-- `KurtosisState::from_array`
abbrev pub kurtosis_range : Trace → ℕ → ℕ → Answer KurtosisState
kurtosis_range = range_answer kurtosis_new
