-- A kurtosis state holds the skewness state of the same readings: no operation reads m4 but the one that makes m4, and both states branch
-- on the weight alone. So a row of skewness may be finalised from kurtosis states, by the law of what two moments keep alike. Assumes
-- nothing.
use Rattle.std.proofs.Common.{◌≡◌, ℕ, Bool, true, false, cond, List, refl, ap, ◌∙◌}
use lib.Ieee.{Float, eq}
use Rattle.float.specs.Operators.{◌⊕◌, zero64, one64}
use Rattle.moment.specs.declared.skew_state.SkewState.{SkewState}
use Rattle.moment.specs.declared.kurtosis_state.KurtosisState.{KurtosisState}
use Rattle.moment.specs.Skew.{skew_clear, skew_insert, skew_merge, skew_combine, skew_finalize}
use Rattle.moment.specs.Kurtosis.{skew_part, kurtosis_clear, kurtosis_insert, kurtosis_merge, kurtosis_combine}
use Rattle.plan.specs.Plan.{Plan}
use Rattle.window.specs.Window.{as_nan}
use Rattle.window.specs.Readings.{places_by, series, inserted_at}
use Rattle.window.specs.Rows.{answer_at}
use Rattle.window.proofs.Related.{Related, related-rows}
use Rattle.rolling.specs.Moments.{skewness, kurtosis}

-- whichever way a branch goes
of_branch : (b : Bool) (k l : KurtosisState) → skew_part (cond b k l) ≡ cond b (skew_part k) (skew_part l)
of_branch true k l = refl
of_branch false k l = refl

part_inserts : (s : KurtosisState) (x : Float) → skew_part (kurtosis_insert s x) ≡ skew_insert (skew_part s) x
unfolding kurtosis_clear skew_clear
part_inserts s x = of_branch (eq (s.weight ⊕ one64) zero64) _ _

part_merges : (s o : KurtosisState) → skew_part (kurtosis_merge s o) ≡ skew_merge (skew_part s) (skew_part o)
unfolding kurtosis_clear skew_clear
part_merges s o = of_branch (eq (s.weight ⊕ o.weight) zero64) _ _

part_combines : (s o : KurtosisState) → skew_part (kurtosis_combine s o) ≡ skew_combine (skew_part s) (skew_part o)
unfolding kurtosis_combine skew_combine
part_combines s o =
    of_branch (eq o.weight zero64) s _
    ∙ ap (cond (eq o.weight zero64) (skew_part s))
    (of_branch (eq s.weight zero64) o _ ∙ ap (cond (eq s.weight zero64) (skew_part o)) (part_merges s o))

pub keeps_skewness : Related kurtosis skewness (λ n. Unit {0}) (◌≡◌ {A = Float}) (λ n k s. skew_part k ≡ s)
keeps_skewness =
    record {
      smaller = λ a b h u. tt;
      empties = refl;
      inserts = λ n k s x y u e f. part_inserts k x ∙ (λ j. skew_insert (e j) (f j));
      combines = λ a b k l s o u e f. part_combines k l ∙ (λ j. skew_combine (e j) (f j));
    }

pub skewness_row : (bias has : Bool) (map : List ℕ) (values : List Float) (min_periods : ℕ) (p : Plan) (k : ℕ)
    → answer_at kurtosis (λ z. skew_finalize (skew_part z) bias) (series has map values) min_periods p k
    ≡ answer_at skewness (λ z. skew_finalize z bias) (series has map values) min_periods p k
skewness_row bias has map values min_periods p k =
    related-rows keeps_skewness (places_by has map values) (inserted_at values) (inserted_at values) (λ i v. refl) (λ n. tt)
    (λ f g. f ≡ g) refl (λ x y e. ap as_nan e) (λ z. skew_finalize (skew_part z) bias) (λ z. skew_finalize z bias)
    (λ n s s' e. ap (λ (z : SkewState). skew_finalize z bias) e) min_periods p k
