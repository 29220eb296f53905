-- The two stacks in the work slice: what a window's numbers, its state and the work slice say of the split account, and where each
-- part of a move may begin. Assumes nothing.
use Rattle.std.specs.Prelude.{ℕ, ◌+◌, ◌-◌, ◌*◌, ◌^◌, ◌≤◌, ◌<◌, max, ◌≡◌, Bool, false, cond, List, [], ◌∷◌, ◌++◌, eqb, leb, ltb, length, take, drop}
use Rattle.moment.specs.declared.Figure.{Figure}
use Rattle.moment.specs.declared.Figure.TheVariants.{Missing}
use Rattle.plan.specs.Plan.{Plan, rows, row_start, row_end}
use Rattle.plan.specs.Code.Accepted.{Planned}
use Rattle.window.specs.Places.{Places, Series, entries, valid_count, nonfinite_count}
use Rattle.window.specs.Window.{Account, Moment, restarted, trimmed, extended, moved, front, back, rising, falling, or_nan}
use Rattle.window.specs.Rows.{account_at, stepped}
use Rattle.window.specs.Code.Memory.{Stored, in_memory}
use Rattle.window.specs.declared.Window.{Window}

-- the front stack of a list of entries, its bottom first: the state of the last entry alone, .., on the top that of all
unfoldable pub front_stack : {A : Type 0} → (M : Moment A) → List A → List M.State
front_stack M [] = []
front_stack M (x ∷ l) = front_stack M l ++ (M.insert (falling M l) x ∷ [])

-- an empty window that starts at place s: fresh at 0
abbrev pub empty_at : ℕ → Window
empty_at s = record { start = s; end = s; split = s; front = 0; back = 0; nonfinite = 0 }

-- a window that ends later, with so many entries in its back stack
abbrev pub grown : Window → ℕ → ℕ → ℕ → Window
grown w end back nonfinite =
    record { start = w.start; end = end; split = w.split; front = w.front; back = back; nonfinite = nonfinite }

-- the split account of a window
abbrev pub account : Window → Account
account w = record { start = w.start; end = w.end; split = w.split }

-- the numbers of a window count what they should
pub record Counted (t : Places) (w : Window) : Type 0 where
  pub start_le : w.start ≤ w.end
  pub split_le : w.split ≤ w.end
  pub front_is : w.front ≡ valid_count t w.start w.split
  pub back_is : w.back ≡ valid_count t (max w.start w.split) w.end
  pub nonfinite_is : w.nonfinite ≡ nonfinite_count t w.start w.end

-- The window w' that is left of w without the places below s. `flips` says that the back stack went to the front: the window
-- does not start anew, and more valid places leave than the front stack holds
pub record Trims (t : Places) (w : Window) (s : ℕ) (w' : Window) (flips : Bool) : Type 0 where
  pub to : account w' ≡ trimmed t.valid (restarted (account w) s) s
  pub numbers : Counted t w'
  pub flips_is : flips ≡ cond (leb w.end s) false (ltb w.front (valid_count t w.start s))

-- a window with its state and its stacks: the front stack at the beginning of the work slice, the back stack from base on
pub record Held {C A : Type 0} (M : Stored C A) (t : Series A) (base : ℕ) (w : Window) (agg : M.moment.State) (work : List C) : Type 0 where
  pub numbers : Counted t.places w
  pub agg_is : agg ≡ rising M.moment M.moment.empty (back t (account w))
  pub front_at : take (M.in_front.width * w.front) work ≡ in_memory M.in_front (front_stack M.moment (front t (account w)))
  pub back_at : take (M.in_back.width * w.back) (drop base work) ≡ in_memory M.in_back (back t (account w))

-- The entries of the places from a up to e, appended to the n that stand in the list l₀ and inserted into the state s₀, leave
-- l, `many` entries, `nonfinite` that are not finite, and the state s
pub record Appended {C A : Type 0} (M : Stored C A) (t : Series A) (l₀ : List C) (n nonfinite₀ : ℕ) (s₀ : M.moment.State) (a e : ℕ)
    (l : List C) (many nonfinite : ℕ) (s : M.moment.State) : Type 0 where
  pub list_is : l
      ≡ take (M.in_back.width * n) l₀ ++ in_memory M.in_back (entries t.places.valid t.entry a e)
      ++ drop (M.in_back.width * (n + valid_count t.places a e)) l₀
  pub many_is : many ≡ n + valid_count t.places a e
  pub nonfinite_is : nonfinite ≡ nonfinite₀ + nonfinite_count t.places a e
  pub agg_is : s ≡ rising M.moment s₀ (entries t.places.valid t.entry a e)

-- the state on the top of the front stack's n, or the empty one
unfoldable pub top_of : {C A : Type 0} → (M : Stored C A) → List C → ℕ → M.moment.State
top_of M work n = cond (eqb n 0) M.moment.empty (M.in_front.load (drop (M.in_front.width * (n - 1)) work))

-- a row's answer by the window's numbers, of the state of its two parts
abbrev pub answer_from : {S : Type 0} → (S → Figure) → Bool → ℕ → ℕ → ℕ → Window → S → Figure
answer_from final mapped min_periods s e w state =
    cond (leb min_periods (cond mapped (w.front + w.back) (e - s))) (or_nan w.nonfinite (final state)) Missing

-- that state: the back state combined with the state on the front stack's top
abbrev pub state_by : {C A : Type 0} → (M : Stored C A) → Window → M.moment.State → List C → M.moment.State
state_by M w agg work = M.moment.combine agg (top_of M work w.front)

-- a row's answer by the window's numbers and the stacks
abbrev pub answer_by : {C A : Type 0} → (M : Stored C A) → (M.moment.State → Figure) → Bool → ℕ → ℕ → ℕ → Window → M.moment.State → List C → Figure
answer_by M final mapped min_periods s e w agg work = answer_from final mapped min_periods s e w (state_by M w agg work)

-- a window over n places can move to the row from s up to e, and neither is wider than `widest`
pub record Ready (w : Window) (s e n widest : ℕ) : Type 0 where
  pub starts : w.start ≤ s
  pub row : s ≤ e
  pub ends : w.end ≤ e
  pub within : e ≤ n
  pub old : w.end ≤ w.start + widest
  pub new : e ≤ s + widest

-- the cells of a place in both stacks, and where the back stack begins behind a front stack for `widest` places
abbrev pub place_width : {C A : Type 0} → Stored C A → ℕ
place_width M = M.in_front.width + M.in_back.width

abbrev pub base_of : {C A : Type 0} → Stored C A → ℕ → ℕ
base_of M widest = M.in_front.width * widest

-- Where a step may begin: the window is held, and can move to the row from s up to e within the work slice. The places are so few that
-- the weights of its states count them
pub record Movable {C A : Type 0} (M : Stored C A) (t : Series A) (s e n widest : ℕ) (w : Window) (agg : M.moment.State) (work : List C) : Type 0 where
  pub held : Held M t (base_of M widest) w agg work
  pub ready : Ready w s e n widest
  pub room : place_width M * widest ≤ length work
  pub few : n ≤ 2 ^ 53

-- where the n entries of a back stack from base on may become the front stack
pub record Flippable {C A : Type 0} (M : Stored C A) (base n : ℕ) (work : List C) : Type 0 where
  pub front_room : M.in_front.width * n ≤ base
  pub back_room : base + M.in_back.width * n ≤ length work
  pub few : n ≤ 2 ^ 53

-- they have: whatever entries stood in the back stack, their states stand in the front stack, the last entry's at its bottom
abbrev pub Flipped : {C A : Type 0} (M : Stored C A) → ℕ → ℕ → List C → List C → Type 0
Flipped {C} {A} M base n work₀ work =
    (B : List A) → take (M.in_back.width * n) (drop base work₀) ≡ in_memory M.in_back B
    → work ≡ in_memory M.in_front (front_stack M.moment B) ++ drop (M.in_front.width * n) work₀

-- where a window may lose the places below s: a flip of its back stack has room
pub record Trimmable {C A : Type 0} (M : Stored C A) (t : Series A) (base s n : ℕ) (w : Window) (agg : M.moment.State) (work : List C) : Type 0 where
  pub held : Held M t base w agg work
  pub starts : w.start ≤ s
  pub start_in : s ≤ n
  pub end_in : w.end ≤ n
  pub flippable : Flippable M base w.back work

-- where a window may gain the places up to e: the back stack has room
pub record Extendable {C A : Type 0} (M : Stored C A) (t : Series A) (base widest e n : ℕ) (w : Window) (agg : M.moment.State) (work : List C) : Type 0 where
  pub held : Held M t base w agg work
  pub ends : w.end ≤ e
  pub end_in : e ≤ n
  pub wide : e ≤ w.start + widest
  pub front_room : M.in_front.width * widest ≤ base
  pub back_room : base + M.in_back.width * widest ≤ length work
  pub few : n ≤ 2 ^ 53

-- where the entries of the places from a up to b may be written behind the n that stand in a back stack
pub record Appendable {C A : Type 0} (M : Stored C A) (t : Series A) (a b places n nonfinite : ℕ) (back : List C) : Type 0 where
  pub rises : a ≤ b
  pub inside : b ≤ places
  pub room : M.in_back.width * (n + valid_count t.places a b) ≤ length back
  pub nonfinite_le : nonfinite ≤ a
  pub many_le : n ≤ a
  pub few : b ≤ 2 ^ 53

-- what a move leaves: a window that is held for the account a, and the work slice as it was from `kept` on
pub record Moves {C A : Type 0} (M : Stored C A) (t : Series A) (base kept : ℕ) (a : Account) (work₀ : List C)
    (w : Window) (agg : M.moment.State) (work : List C) : Type 0 where
  pub held : Held M t base w agg work
  pub to : account w ≡ a
  pub rest : drop kept work ≡ drop kept work₀

-- the window w without the places below s
abbrev pub Trimmed : {C A : Type 0} (M : Stored C A) → Series A → ℕ → ℕ → Window → List C → Window → M.moment.State → List C → Type 0
Trimmed M t base s w work₀ w' agg' work = Moves M t base base (trimmed t.places.valid (restarted (account w) s) s) work₀ w' agg' work

-- the window w with the places up to e
abbrev pub Extended : {C A : Type 0} (M : Stored C A) → Series A → ℕ → ℕ → ℕ → Window → List C → Window → M.moment.State → List C → Type 0
Extended M t base widest e w work₀ w' agg' work =
    Moves M t base (base + M.in_back.width * widest) (extended (account w) e) work₀ w' agg' work

-- the window w moved to the row from s up to e
abbrev pub Updated : {C A : Type 0} (M : Stored C A) → Series A → ℕ → ℕ → ℕ → Window → List C → Window → M.moment.State → List C → Type 0
Updated M t widest s e w work₀ w' agg' work =
    Moves M t (base_of M widest) (place_width M * widest) (moved t.places.valid (account w) s e) work₀ w' agg' work

-- the window w after row k's part in it
abbrev pub Stepped : {C A : Type 0} (M : Stored C A) → Series A → ℕ → ℕ → ℕ → ℕ → ℕ → Window → List C → Window → M.moment.State → List C → Type 0
Stepped M t widest min_periods k s e w work₀ w' agg' work =
    Moves M t (base_of M widest) (place_width M * widest) (stepped t.places.valid t.places.mapped min_periods k s e (account w)) work₀ w' agg' work

-- how many of the places from a up to b are valid, and how many of those are not finite
pub record Tallied (t : Places) (a b valid nonfinite : ℕ) : Type 0 where
  pub valid-is : valid ≡ valid_count t a b
  pub nonfinite_is : nonfinite ≡ nonfinite_count t a b

-- a tally of the places below s that is within the window, where the window does not start anew there
abbrev pub TallyFits : Window → ℕ → ℕ → ℕ → Type 0
TallyFits w s valid nonfinite = s < w.end → (valid ≤ w.front + w.back) × (nonfinite ≤ w.nonfinite) × (w.front + w.back ≤ w.end)

-- by their tally the places below s leave the window, whatever its places are
abbrev pub TrimsBy : Window → ℕ → ℕ → ℕ → Window → Bool → Type 0
TrimsBy w s valid nonfinite w' flips =
    (t : Places) → Counted t w → w.start ≤ s → (s < w.end → Tallied t w.start s valid nonfinite) → Trims t w s w' flips

-- Before row k of a plan over n places: the window is held, its account is the one after the rows before, it is no wider than
-- `widest`, and no row from k on starts or ends before it
pub record Standing {C A : Type 0} (M : Stored C A) (t : Series A) (min_periods n widest : ℕ) (p : Plan)
    (w : Window) (agg : M.moment.State) (work : List C) (k : ℕ) : Type 0 where
  pub upto : k ≤ rows p
  pub held : Held M t (base_of M widest) w agg work
  pub at : account w ≡ account_at t.places.valid t.places.mapped min_periods p k
  pub wide : w.end ≤ w.start + widest
  pub inside : w.end ≤ n
  pub ahead : (j : ℕ) → k ≤ j → j < rows p → (w.start ≤ row_start p j) × (w.end ≤ row_end p j)

-- where the rows of a plan over n places may be worked from row `first` up to row `until`, into lists that hold `outputs` rows
pub record Workable {C A : Type 0} (M : Stored C A) (t : Series A) (min_periods n widest : ℕ) (p : Plan) (outputs first until : ℕ)
    (w : Window) (agg : M.moment.State) (work : List C) : Type 0 where
  pub plan : Planned n widest p
  pub standing : Standing M t min_periods n widest p w agg work first
  pub rises : first ≤ until
  pub listed : until ≤ rows p
  pub outputs_fit : rows p ≤ outputs
  pub room : place_width M * widest ≤ length work
  pub few : n ≤ 2 ^ 53

-- they have been: the window stands before row `until`, and the work slice is as it was past what is needed
pub record Worked {C A : Type 0} (M : Stored C A) (t : Series A) (min_periods n widest : ℕ) (p : Plan) (until : ℕ) (work₀ : List C)
    (w : Window) (agg : M.moment.State) (work : List C) : Type 0 where
  pub standing : Standing M t min_periods n widest p w agg work until
  pub rest : drop (place_width M * widest) work ≡ drop (place_width M * widest) work₀
