-- What the check of a host call answers before anything is decoded: why it is refused, or how many readings its trace has. Assumes nothing.
use Rattle.std.specs.Prelude.{◌≡◌, ℕ, ◌≤◌, Bool, false, ◌||◌, ltb, Result, IfOk}
use Rattle.trace.specs.Refusals.{refusal, ◌or_else◌}
use Rattle.trace.specs.Outcomes.{outcome_number}
use Rattle.trace.specs.declared.refusals.Refusal.{Refusal}
use Rattle.plan.specs.Plan.{Plan}
use Rattle.plan.specs.Refusals.{plan_refusal}
use Rattle.window.specs.Given.{Kind, Readings, Pairs, places_of, given_refusal}
use Rattle.moments.specs.HostCall.{ByteTrace, BytePair, Host, decoded_of, odd_bytes, reading_count}

-- the number of a plan call on what is decoded
abbrev pub ByPlan : (kind : Kind) → Host kind → Plan → ℕ → ℕ → ℕ → Bool → ℕ
ByPlan kind h p outputs width work short =
    plan_refusal (given_refusal kind (decoded_of kind h)) p (places_of kind (decoded_of kind h)) short outputs width work

-- of any kind of entry: `short` says that a list of readings is too short
pub record ChecksHost (kind : Kind) (h : Host kind) (p : Plan) (short : Bool) (outputs width work : ℕ) (Room : ℕ → Type 0)
    (result : Result ℕ Refusal) : Type 0 where
  pub number_is : outcome_number result ≡ refusal 14 (odd_bytes kind h) or_else ByPlan kind h p outputs width work short
  pub accepted : IfOk result (λ n. Room n × (ByPlan kind h p outputs width work false ≡ 0))

-- of one trace, whose list of readings has room for so many
abbrev pub ChecksBytes : ByteTrace → Plan → ℕ → ℕ → ℕ → ℕ → Result ℕ Refusal → Type 0
ChecksBytes h p room outputs width work result =
    ChecksHost Readings h p (ltb room (reading_count h)) outputs width work (λ n. (n ≡ reading_count h) × (n ≤ room)) result

-- of two
abbrev pub ChecksBytePair : BytePair → Plan → ℕ → ℕ → ℕ → ℕ → ℕ → Result ℕ Refusal → Type 0
ChecksBytePair h p room room' outputs width work result =
    ChecksHost Pairs h p (ltb room (reading_count h.x) || ltb room' (reading_count h.y)) outputs width work
    (λ n. (n ≡ reading_count h.x) × (n ≡ reading_count h.y) × (n ≤ room) × (n ≤ room')) result
