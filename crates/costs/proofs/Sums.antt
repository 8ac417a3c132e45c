-- The running sums step by step, and an array that is filled with them from the front.
use mathlib.Core.Path.{◌≡◌, refl, ap, ◌∙◌}
use mathlib.Core.Bool.{Bool, true, false, cond}
use mathlib.Core.List.{List, [], ◌∷◌}
use Prim.Native.Nat.{ℕ, zero, suc, ◌+◌, ◌-◌, ◌*◌, ◌≤◌, ◌<◌}
use native.Mathlib.Omega.{arith}
use lib.ListN.{length, get_or, set, length-set}
use lib.Seq.{slice, slice-cons, slice_empty, get_or-set_same, get_or-set_other}
use borrow.Author.Count.{below_more}
use Rattle.theory.specs.Route.{path, reverse_if}
use Rattle.theory.specs.Costs.{inner, forward, backward}
use Rattle.theory.proofs.Delta.{placed_inner}
use Rattle.costs.specs.RouteCosts.{leg, running, InnerLeg}

pub running_first : (b : Bool) (d : ℕ → ℕ → ℕ) (r : List ℕ) → 0 ≡ running b d r 0
unfolding forward backward inner path
running_first true d [] = refl
running_first false d [] = refl
running_first true d (x ∷ r) = refl
running_first false d (x ∷ r) = refl

-- The leg from stop t to stop t + 1, or back.
abbrev pub leg_between : Bool → (ℕ → ℕ → ℕ) → ℕ → ℕ → ℕ
leg_between b d x y = cond b (d y x) (d x y)

inner_two : (b : Bool) (d : ℕ → ℕ → ℕ) (x y : ℕ) → inner d (reverse_if b (x ∷ y ∷ [])) ≡ leg_between b d x y
unfolding inner path reverse_if
inner_two true d x y = omega arith
inner_two false d x y = omega arith

two : (r : List ℕ) (t : ℕ) → suc t < length r → slice t (suc (suc t)) r ≡ get_or r t 0 ∷ get_or r (suc t) 0 ∷ []
two r t h =
    slice-cons t (suc (suc t)) r 0 (omega arith) (omega arith)
    ∙ ap (λ l. get_or r t 0 ∷ l) (slice-cons (suc t) (suc (suc t)) r 0 (omega arith) (omega arith) ∙ ap (λ l. get_or r (suc t) 0 ∷ l) (slice_empty (suc (suc t)) r))

running_next : (b : Bool) (d : ℕ → ℕ → ℕ) (r : List ℕ) (t : ℕ) → 1 ≤ t → t < length r →
    running b d r (t - 1) + leg_between b d (get_or r (t - 1) 0) (get_or r t 0) ≡ running b d r t
running_next b d r zero h k = absurd (omega arith)
running_next b d r (suc t) h k =
    let e : suc t - 1 ≡ t = omega arith in
    rw (e, ← (inner_two b d (get_or r t 0) (get_or r (suc t) 0)), ← (two r t k)) (placed_inner d r b t (suc t) (omega arith) k)

-- One arm of the choice of a direction.
pub inner_leg_in : (b : Bool) (locations : ℕ) (legs route : List ℕ) (t : ℕ) (backwards : Bool) (v : ℕ) → backwards ≡ b → 1 ≤ t → t < length route →
    v ≡ leg_between b (leg locations legs) (get_or route (t - 1) 0) (get_or route t 0) → v ≤ 1000000 → InnerLeg locations legs route t backwards v
inner_leg_in b locations legs route t backwards v e h k f s = record { adds = rw (e, f) (running_next b (leg locations legs) route t h k); small = s }

-- The first t places of `sums` hold the sums, and the others what they held before.
pub record Written (sum : ℕ → ℕ) (before sums : List ℕ) (t : ℕ) : Type 0 where
  pub places : length sums ≡ 512
  pub each : (j : ℕ) → j < t → get_or sums j 0 ≡ sum j
  pub small : (j : ℕ) → j < t → get_or sums j 0 ≤ 1000000 * j
  pub beyond : (j : ℕ) → t ≤ j → get_or sums j 0 ≡ get_or before j 0

pub written_none : (sum : ℕ → ℕ) (before : List ℕ) → length before ≡ 512 → Written sum before before 0
written_none sum before h = record { places = h; each = λ j k. absurd (omega arith); small = λ j k. absurd (omega arith); beyond = λ j k. refl }

pub written_next : (sum : ℕ → ℕ) {before sums : List ℕ} {t : ℕ} (v : ℕ) → t < 512 → Written sum before sums t → v ≡ sum t → v ≤ 1000000 * t →
    Written sum before (set sums t v) (t + 1)
written_next sum {before} {sums} {t} v h w e s =
    let same : get_or (set sums t v) t 0 ≡ v = get_or-set_same sums t v 0 (omega arith) in
    record {
      places = length-set sums t v ∙ w.places;
      each = below_more (λ j. get_or (set sums t v) j 0 ≡ sum j) t (λ j k. get_or-set_other sums t j v 0 (λ q. omega arith) ∙ w.each j k) (same ∙ e);
      small = below_more (λ j. get_or (set sums t v) j 0 ≤ 1000000 * j) t (λ j k. rw (get_or-set_other sums t j v 0 (λ q. omega arith)) (w.small j k)) (rw same s);
      beyond = λ j k. get_or-set_other sums t j v 0 (λ q. omega arith) ∙ w.beyond j (omega arith);
    }

-- With the first place counted as what stood there before.
pub written_first : (sum : ℕ → ℕ) {before sums : List ℕ} → Written sum before sums 1 → Written sum sums sums 1
written_first sum w = record { places = w.places; each = w.each; small = w.small; beyond = λ j k. refl }
