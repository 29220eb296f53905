-- A host call is the plan call on what is decoded: its own check has the plan call's number but for the list of readings, and what is
-- decoded is the trace. Assumes nothing.
use Rattle.std.proofs.Common.{◌≡◌, ℕ, ◌/◌, ◌≤◌, min, Bool, true, not, eqb, List, [], ◌∷◌, ◌++◌, length, take, drop, refl, sym, ap, ◌∙◌, subst, arith}
use borrow.Author.Tests.{ne_eqb}
use Rattle.std.specs.Prelude.{Result, Ok, Err, IsErrAnd, IfOk, Option}
use Rattle.std.specs.Borrow.{Bor}
use lib.Seq.{take_at}
use lib.Ieee.{Float}
use Rattle.float.specs.Tables.{table}
use Rattle.float.specs.Bytes.{reading_at, decoded_into}
use Rattle.float.proofs.Tables.{table-length}
use Rattle.trace.specs.Lent.{mapped, bytes_of, MapAs}
use Rattle.trace.specs.Outcomes.{number_of, outcome_number}
use Rattle.trace.specs.Refusals.{refusal, ◌or_else◌, array_refusal, trace_refusal, pair_refusal}
use Rattle.trace.specs.declared.refusals.Refusal.{Refusal}
use Rattle.trace.proofs.Checks.{number_above, stops, goes_on, handed_on}
use Rattle.trace.proofs.Lent.{map_wrong}
use Rattle.plan.specs.Plan.{Plan}
use Rattle.plan.specs.Code.Accepted.{ChecksPlan}
use Rattle.window.specs.Given.{Kind, Readings, Pairs, places_of, given_refusal}
use Rattle.window.specs.Outputs.{Lent, filled, column, outputs_of, shortest_output}
use Rattle.window.proofs.Outputs.{unfilled}
use Rattle.rolling.specs.Moments.{kind_of, work_width}
use Rattle.rolling.specs.Calls.{Query, GivenTo, Fits, Left, Called}
use Rattle.rolling.proofs.Calls.{refused_left}
use Rattle.moments.specs.HostCall.{ByteTrace, reading_count, decoded, BytePair, Host, decoded_of, odd_bytes, ReadingLists, decoded_lists, CalledBytes}
use Rattle.moments.specs.Code.Checks.{ByPlan, ChecksHost}
use Rattle.moments.specs.Code.Hosts.{Hosts, first_number}

if_ok_of : {A : Type 0} (r : Result A Refusal) (e : Refusal) (P : A → Type 0) → IsErrAnd r (λ x. x ≡ e) → IfOk r P
if_ok_of {A = A} (Ok _) e P h = elim h [ ]
if_ok_of (Err _) e P h = tt

-- no refusal has the number of an accepted call
pub not_accepted : (e : Refusal) → number_of e ≡ 0 → ⊥
not_accepted e z = let above = number_above e in omega (arith, above, z)

-- ---- the check, of any kind of entry
module _ (kind : Kind) (h : Host kind) (p : Plan) (short : Bool) (outputs width work : ℕ) (Room : ℕ → Type 0) where
  -- 14 before all
  pub stops_odd : (r : Result ℕ Refusal) (e : Refusal) → IsErrAnd r (λ x. x ≡ e) → number_of e ≡ refusal 14 (odd_bytes kind h)
      → ChecksHost kind h p short outputs width work Room r
  stops_odd r e i n = record { number_is = stops r e _ _ i n; accepted = if_ok_of r e _ i }

  module _ {given n : ℕ} (whole : 0 ≡ refusal 14 (odd_bytes kind h)) (given_is : given ≡ given_refusal kind (decoded_of kind h))
      (n_is : n ≡ places_of kind (decoded_of kind h)) where
    pub stops_plan : {e : Refusal} → ChecksPlan given p n short outputs width work (Err e) → (r : Result ℕ Refusal) → IsErrAnd r (λ x. x ≡ e)
        → ChecksHost kind h p short outputs width work Room r
    stops_plan {e} k r i =
        let number_is = rw (given_is, n_is) at k.number_is in
        record { number_is = goes_on _ _ _ whole (handed_on r e i ∙ number_is); accepted = if_ok_of r e _ i }

    pub passes : {wide : ℕ} → ChecksPlan given p n short outputs width work (Ok wide) → (m : ℕ) → Room m
        → ChecksHost kind h p short outputs width work Room (Ok m)
    passes k m room =
        let number_is = rw (given_is, n_is) at k.number_is in
        record {
          number_is = goes_on _ _ _ whole number_is;
          accepted = (room, ap (ByPlan kind h p outputs width work) (sym k.accepted.readings_fit) ∙ sym number_is);
        }

-- as many readings as are decoded
pub decoded_many : (t : ByteTrace) → reading_count t ≡ length (decoded t).readings
decoded_many t = sym (table-length (reading_at t.bytes) (reading_count t))

-- the number of a trace, and of two, by the maps that the flags tell
pub trace_given : (t : ByteTrace) (m : Option (Bor (List ℕ))) → MapAs t.mapped t.map m
    → array_refusal (reading_count t) (mapped m) (bytes_of m) ≡ trace_refusal (decoded t)
trace_given t m a = rw (map_wrong (reading_count t) t.mapped t.map m a, ← decoded_many t)

pub pair_given : (t : BytePair) (m m' : Option (Bor (List ℕ))) → MapAs t.x.mapped t.x.map m → MapAs t.y.mapped t.y.map m'
    → pair_refusal (reading_count t.x) (mapped m) (bytes_of m) (reading_count t.y) (mapped m') (bytes_of m')
    ≡ given_refusal Pairs (decoded_of Pairs t)
pair_given t m m' a b =
    rw (map_wrong (reading_count t.x) t.x.mapped t.x.map m a, map_wrong (reading_count t.y) t.y.mapped t.y.map m' b, ← decoded_many t.x, ← decoded_many t.y)

-- a map that is there or not is lent with the flag that says so
pub map_as : (m : Option (Bor (List ℕ))) → MapAs (mapped m) (bytes_of m) m
map_as m = record { mapped_is = refl; map_is = λ e. refl }

-- what is decoded into a list with room for all
pub decoded_all : (bytes : List ℕ) (l l' : List Float) (n : ℕ) → n ≡ length bytes / 8 → n ≤ length l → l' ≡ decoded_into bytes l →
    (l' ≡ filled 0 (reading_at bytes) (length bytes / 8) l) × (take n l' ≡ table (reading_at bytes) (length bytes / 8))
unfolding decoded_into filled
decoded_all bytes l l' n e h d =
    let all = length bytes / 8 in
    let m : min all (length l) ≡ all = omega arith in
    let f : l' ≡ table (reading_at bytes) all ++ drop all l = d ∙ rw m in
    (f, rw e (ap (take all) f ∙ take_at (table (reading_at bytes) all) (drop all l) all (table-length (reading_at bytes) all)))

-- two lists that are decoded into
pub both_lists : {a b a' b' : List Float} → a ≡ a' → b ≡ b' → ◌≡◌ {A = List Float × List Float} (a, b) (a', b')
both_lists e f = rw (e, f)

-- what a host call says where its check refuses it
pub refuses : (kind : Kind) (h : Host kind) (p : Plan) (outputs width work : ℕ) {A Made Same : Type 0} {r₀ r₁ : ReadingLists kind} (r : Result A Refusal)
    (e : Refusal) → IsErrAnd r (λ x. x ≡ e) → number_of e ≡ first_number kind h p outputs width work r₀ → r₁ ≡ r₀ → Same
    → Hosts kind h p outputs width work Made Same r₀ r₁ (outcome_number r)
refuses kind h p outputs width work r e i n k s =
    let o = handed_on r e i in
    Hosts.refused (λ z. not_accepted e (sym o ∙ z)) (o ∙ n) k s

-- a refused call leaves the lists of readings as they were
unlisted : (kind : Kind) (h : Host kind) (r : ReadingLists kind) (number : ℕ) → (number ≡ 0 → ⊥) → r ≡ decoded_lists kind number h r
unlisted Readings h r number z = unfilled _ _ _ _ z
unlisted Pairs h r number z = both_lists (unfilled _ _ _ _ z) (unfilled _ _ _ _ z)

-- What a host call does with its plan call is what the host asked for: for what the plan call says where it is made, and for what is
-- left where it is not.
pub host_called : (q : Query) (h : Host (kind_of q.statistic)) {outputs number : ℕ} {l₀ l₁ : Lent} {r₀ r₁ : ReadingLists (kind_of q.statistic)}
    {Made Same : Type 0} → outputs ≡ shortest_output l₀.outputs → Fits q (decoded_of (kind_of q.statistic) h) l₀.outputs
    → (Made → Called q (decoded_of (kind_of q.statistic) h) l₀ l₁ number) → (Same → l₁ ≡ l₀)
    → Hosts (kind_of q.statistic) h q.plan outputs (work_width q.statistic) (length l₀.work) Made Same r₀ r₁ number
    → CalledBytes q h r₀ r₁ l₀ l₁ number
host_called q h {number = number} {l₀ = l₀} {r₀ = r₀} o fits made same (Hosts.refused z n r s) =
    record {
      number_is = rw o at n;
      readings_are = r ∙ unlisted (kind_of q.statistic) h r₀ number z;
      left = subst (λ l. Left q (decoded_of (kind_of q.statistic) h) l₀ l number) (sym (same s)) (refused_left _ _ _ _ fits z);
    }
host_called q h {number = number} {r₀ = r₀} o fits made same (Hosts.made n p r m) =
    let by = made m in
    let zero : number ≡ 0 = by.number_is ∙ rw o at p in
    record {
      number_is = zero ∙ rw o at n;
      readings_are = r ∙ ap (λ (k : ℕ). decoded_lists (kind_of q.statistic) k h r₀) (sym zero);
      left = by.left;
    }

-- a plan call leaves the lists that it is found to leave
pub leaves : {q : Query} {t : GivenTo q} {l₀ l₁ l₂ : Lent} {number : ℕ} → Called q t l₀ l₁ number → l₂ ≡ l₁ → Called q t l₀ l₂ number
leaves {q} {t} {l₀ = l₀} {number = number} m e = subst (λ l. Called q t l₀ l number) (sym e) m

-- lists that are left as they were are what was lent
pub same_column : {d d' w w' : List Float} {b b' : List ℕ} → w' ≡ w → d' ≡ d → b' ≡ b
    → ◌≡◌ {A = Lent} (record { outputs = outputs_of (column d' b' ∷ []) []; work = w' }) (record { outputs = outputs_of (column d b ∷ []) []; work = w })
same_column e f g = rw (e, f, g)

pub same_columns : {d d' l l' u u' w w' : List Float} {b b' m m' v v' : List ℕ} → w' ≡ w → d' ≡ d → b' ≡ b → l' ≡ l → m' ≡ m → u' ≡ u → v' ≡ v
    → ◌≡◌ {A = Lent} (record { outputs = outputs_of (column d' b' ∷ column l' m' ∷ column u' v' ∷ []) []; work = w' })
    (record { outputs = outputs_of (column d b ∷ column l m ∷ column u v ∷ []) []; work = w })
same_columns e f g h i j k = rw (e, f, g, h, i, j, k)

-- ---- of numbers alone, which no code needs any more
odd_number : (odd : Bool) (b : ℕ) → odd ≡ true → 14 ≡ refusal 14 odd or_else b
unfolding refusal ◌or_else◌
odd_number odd b h = rw h

pub odd_bytes_lem : (rest b : ℕ) → (rest ≡ 0 → ⊥) → 14 ≡ refusal 14 (not (eqb rest 0)) or_else b
odd_bytes_lem rest b h = odd_number _ b (rw (ne_eqb rest 0 h))

pub filled_by : {number : ℕ} (f : ℕ → Float) (n : ℕ) (l l' : List Float) → number ≡ 0 → l' ≡ filled 0 f n l → l' ≡ filled number f n l
filled_by f n l l' z e = e ∙ ap (λ (k : ℕ). filled k f n l) (sym z)

-- a plan call on a list that is the trace
pub called_on : (q : Query) (give : List Float → GivenTo q) {l l' : List Float} {l₀ l₁ : Lent} {number : ℕ} → l ≡ l' → Called q (give l) l₀ l₁ number → Called q (give l') l₀ l₁ number
called_on q give {l₀ = l₀} {l₁ = l₁} {number = number} e w = subst (λ (k : List Float). Called q (give k) l₀ l₁ number) e w

-- on two lists that are the traces
pub called_on_both : (q : Query) (give : List Float → List Float → GivenTo q) {x x' y y' : List Float} {l₀ l₁ : Lent} {number : ℕ}
    → x ≡ x' → y ≡ y' → Called q (give x y) l₀ l₁ number → Called q (give x' y') l₀ l₁ number
called_on_both q give {x' = x'} {y = y} e f w = called_on q (give x') f (called_on q (λ (l : List Float). give l y) e w)
