-- What a host call does before its plan call, and with it. Assumes nothing.
use Rattle.std.specs.Prelude.{◌≡◌, ℕ, Bool, false, List}
use Rattle.float.specs.Tables.{table}
use Rattle.float.specs.Bytes.{reading_at}
use Rattle.trace.specs.Lent.{traced, MapAs, LentAs}
use Rattle.trace.specs.Refusals.{refusal, ◌or_else◌}
use Rattle.trace.specs.declared.Trace as code_trace
use Rattle.trace.specs.declared.Pair as code_pair
use Rattle.plan.specs.Plan.{Plan}
use Rattle.window.specs.Given.{Kind}
use Rattle.moments.specs.HostCall.{ByteTrace, BytePair, Host, odd_bytes, reading_count, ReadingLists, short_lists, decoded_lists}
use Rattle.moments.specs.Code.Checks.{ByPlan}
use Rattle.moments.specs.declared.ByteTrace as code_bytes
use Rattle.moments.specs.declared.BytePair as code_byte_pair

-- what holds of a trace as bytes, by whatever flag and bytes of a map it is lent
abbrev pub Lends : code_bytes.ByteTrace → (ByteTrace → Type 0) → Type 0
Lends x P = (has : Bool) (map : List ℕ) → MapAs has map x.map → P (record { bytes = x.bytes.now; mapped = has; map = map })

-- of two
abbrev pub LendsPair : code_byte_pair.BytePair → (BytePair → Type 0) → Type 0
LendsPair t P = Lends t.x (λ x. Lends t.y (λ y. P (record { x = x; y = y })))

-- a call is made of what is decoded: `Made x` says that it is made of x
abbrev pub CallOn : ByteTrace → (code_trace.Trace → Type 0) → Type 0
CallOn h Made = (x : code_trace.Trace) × LentAs (table (reading_at h.bytes) (reading_count h)) h.mapped h.map (traced x) × Made x

-- of two traces
abbrev pub CallOnPair : BytePair → (code_pair.Pair → Type 0) → Type 0
CallOnPair h Made = (xy : code_pair.Pair)
    × LentAs (table (reading_at h.x.bytes) (reading_count h.x)) h.x.mapped h.x.map (traced xy.x)
    × LentAs (table (reading_at h.y.bytes) (reading_count h.y)) h.y.mapped h.y.map (traced xy.y) × Made xy

-- the first number of a host call, before anything is decoded
abbrev pub first_number : (kind : Kind) → Host kind → Plan → ℕ → ℕ → ℕ → ReadingLists kind → ℕ
first_number kind h p outputs width work r = refusal 14 (odd_bytes kind h) or_else ByPlan kind h p outputs width work (short_lists kind h r)

-- It refuses before anything is decoded, and what it has in hand is as it was (`Same`), or it decodes and makes the plan call (`Made`).
pub data Hosts (kind : Kind) (h : Host kind) (p : Plan) (outputs width work : ℕ) (Made Same : Type 0) (before after : ReadingLists kind)
    (number : ℕ) : Type 0 where
  refused : (number ≡ 0 → ⊥) → number ≡ first_number kind h p outputs width work before → after ≡ before → Same
      → Hosts kind h p outputs width work Made Same before after number
  made : 0 ≡ first_number kind h p outputs width work before → ByPlan kind h p outputs width work false ≡ 0
      → after ≡ decoded_lists kind 0 h before → Made → Hosts kind h p outputs width work Made Same before after number
