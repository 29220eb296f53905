-- The code's refusals in document 01's terms. Assumes nothing.
use Rattle.std.specs.Prelude.{ℕ, Result, Ok, Err}
use Rattle.trace.specs.declared.refusals.Refusal.{Refusal}
use Rattle.trace.specs.declared.refusals.Refusal.TheVariants as refused

-- "Who can cause a refusal": the number of each
abbrev pub number_of : Refusal → ℕ
number_of refused.TooManyReadings = 1
number_of refused.LengthsDiffer = 2
number_of refused.MapTooShort = 3
number_of refused.WrongLists = 4
number_of refused.StartAboveEnd = 5
number_of refused.EndPastTrace = 6
number_of refused.BoundsFall = 7
number_of refused.WeightsWithMap = 8
number_of refused.WeightsSumToZero = 9
number_of refused.WeightCount = 10
number_of refused.RangePastTrace = 11
number_of refused.OutputTooShort = 12
number_of refused.WorkTooShort = 13
number_of refused.BytesNotWhole = 14

-- "A refusal is its number alone"; an accepted call has the number 0
abbrev pub outcome_number : {A : Type 0} → Result A Refusal → ℕ
outcome_number (Ok x) = 0
outcome_number (Err refusal) = number_of refusal
