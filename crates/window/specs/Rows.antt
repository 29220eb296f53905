-- Document 01, Rows (002, 003): which rows move the window, and each row's answer. Assumes nothing.
use Rattle.std.specs.Prelude.{ℕ, zero, suc, ◌-◌, Bool, cond, ◌||◌, leb, eqb}
use Rattle.moment.specs.declared.Figure.{Figure}
use Rattle.moment.specs.declared.Figure.TheVariants.{Missing}
use Rattle.plan.specs.Plan.{Plan, row_start, row_end}
use Rattle.window.specs.Places.{Places, Series, valid_count}
use Rattle.window.specs.Window.{Account, fresh, moved, Moment, figure_of}

-- Whether row k, from s up to e, moves the window. "With a map, every row moves the window .. Without one, a row shorter than the
-- minimum .. doesn't move the window, except that row 0 always has."
abbrev pub moves : Bool → ℕ → ℕ → ℕ → ℕ → Bool
moves mapped min_periods k s e = mapped || (eqb k 0 || leb min_periods (e - s))

-- the account after row k's part in it: "a row that by Rows doesn't move the window leaves it so"
abbrev pub stepped : (ℕ → Bool) → Bool → ℕ → ℕ → ℕ → ℕ → Account → Account
stepped valid mapped min_periods k s e a = cond (moves mapped min_periods k s e) (moved valid a s e) a

-- the account after the first k rows: "fresh before a plan's row 0. Each row takes it as the row before left it"
unfoldable pub account_at : (ℕ → Bool) → Bool → ℕ → Plan → ℕ → Account
account_at valid mapped min_periods p zero = fresh
account_at valid mapped min_periods p (suc k) = stepped valid mapped min_periods k (row_start p k) (row_end p k) (account_at valid mapped min_periods p k)

-- what the minimum is compared with: with a map the valid count, without one the row's length
abbrev pub counted : Places → ℕ → ℕ → ℕ
counted t s e = cond t.mapped (valid_count t s e) (e - s)

-- the answer of a row from s up to e, with the account after its move
unfoldable pub answer_of : {A : Type 0} → (M : Moment A) → (M.State → Figure) → Series A → ℕ → ℕ → ℕ → Account → Figure
unfolding figure_of
answer_of M final t min_periods s e a = cond (leb min_periods (counted t.places s e)) (figure_of M final t a) Missing

-- row k's answer: "The account yields this figure, or missing where `finalize` or Rows says so."
unfoldable pub answer_at : {A : Type 0} → (M : Moment A) → (M.State → Figure) → Series A → ℕ → Plan → ℕ → Figure
unfolding answer_of account_at
answer_at M final t min_periods p k =
    answer_of M final t min_periods (row_start p k) (row_end p k) (account_at t.places.valid t.places.mapped min_periods p (suc k))
