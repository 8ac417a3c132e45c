-- The rows and the passes in the steps of the code: what is left of a row at a pair, and of a pass at a row. Assumes nothing.
use mathlib.Core.Path.{◌≡◌, refl, sym, ap, ◌∙◌}
use mathlib.Core.Bool.{Bool, true, false, cond}
use mathlib.Core.List.{List, [], ◌∷◌, foldl}
use Prim.Native.Nat.{ℕ, suc, ◌+◌, ◌-◌, ◌≤◌, ◌<◌}
use native.Mathlib.Omega.{arith}
use native.Mathlib.Numerals.{add-one}
use borrow.Author.Tests.{eq-eqb, ne_eqb}
use lib.ListN.{get_or}
use Rattle.theory.specs.Moves.{upfrom}
use Rattle.theory.specs.Route.{Problem}
use Rattle.theory.specs.Scan.{Reply}
use Rattle.pair_loop.specs.declared.PairLoop.{PairLoop}
use Rattle.pair_reversal.specs.Reversal.{turned, accepts, Tried}
use Rattle.pair_loop.specs.PairLoop.{reply_so_far, stop_before, so_far, spent, examine, pair, sweep, pass}

-- An answer while the allowance lasts.
pub going_is : (counted : PairLoop) (r : List ℕ) → counted.finished ≡ true → reply_so_far counted r ≡ so_far counted.examined counted.accepted r
going_is counted r e = ap (λ (f : Bool). record { finished = f; examined = counted.examined; accepted = counted.accepted; route = r }) e

-- The count after a pair, as the code leaves it.
pub counted_one : {answer : Bool} (c : ℕ) {c' : ℕ} → answer ≡ true → c' ≡ c + 1 → c' ≡ c + cond answer 1 0
counted_one c t e = rw t e

pub counted_none : {answer : Bool} (c : ℕ) {c' : ℕ} → answer ≡ false → c' ≡ c → c' ≡ c + cond answer 1 0
counted_none c t e = rw t (omega (arith, e))

pub at_most_one : (answer : Bool) → cond answer 1 0 ≤ 1
at_most_one true = omega arith
at_most_one false = omega arith

-- Those from `from` up to `end`, the first taken.
upfrom_cons : (from end : ℕ) → from < end → upfrom from (end - from) ≡ from ∷ upfrom (suc from) (end - suc from)
unfolding upfrom
upfrom_cons from end h = let e : end - from ≡ suc (end - suc from) = omega arith in rw e

upfrom_none : (from end : ℕ) → end ≤ from → upfrom from (end - from) ≡ []
unfolding upfrom
upfrom_none from end h = let e : end - from ≡ 0 = omega arith in rw e

fold_same : (f : Reply (List ℕ) → ℕ → Reply (List ℕ)) (s : Reply (List ℕ)) → ((x : ℕ) → f s x ≡ s) → (l : List ℕ) → foldl f s l ≡ s
fold_same f s same [] = refl
fold_same f s same (x ∷ l) = ap (λ (t : Reply (List ℕ)). foldl f t l) (same x) ∙ fold_same f s same l

module _ (P : Problem) (allowance n : ℕ) where
  -- What is left of the row of i at j.
  unfoldable pub sweep_left : (a b i : ℕ) → Reply (List ℕ) → (j : ℕ) → Reply (List ℕ)
  sweep_left a b i s j = foldl (pair P allowance a b i) s (upfrom j (n - j))

  pub sweep_first : (s : Reply (List ℕ)) (i : ℕ) {a : ℕ} → a ≡ stop_before P.depot s.route i → sweep_left a (get_or s.route i 0) i s (i + 1) ≡ sweep P allowance n s i
  unfolding sweep_left sweep
  sweep_first s i e = rw (add-one i, e)

  pub sweep_ended : (a b i : ℕ) (s : Reply (List ℕ)) (j : ℕ) → n ≤ j → sweep_left a b i s j ≡ s
  unfolding sweep_left
  sweep_ended a b i s j h = rw (upfrom_none j n h)

  sweep_next : (a b i : ℕ) (s : Reply (List ℕ)) (j : ℕ) → j < n → sweep_left a b i s j ≡ sweep_left a b i (pair P allowance a b i s j) (suc j)
  unfolding sweep_left
  sweep_next a b i s j h = rw (upfrom_cons j n h)

  pair_spent : (a b i : ℕ) (s : Reply (List ℕ)) (j : ℕ) → s.finished ≡ false → pair P allowance a b i s j ≡ spent s
  unfolding pair
  pair_spent a b i s j e = rw e

  sweep_stays : (a b i : ℕ) (s : Reply (List ℕ)) (l : List ℕ) → foldl (pair P allowance a b i) (spent s) l ≡ spent s
  sweep_stays a b i s l = fold_same (pair P allowance a b i) (spent s) (λ j. pair_spent a b i (spent s) j refl) l

  pair_reached : (a b i e c : ℕ) (r : List ℕ) (j : ℕ) → e ≡ allowance → pair P allowance a b i (so_far e c r) j ≡ spent (so_far e c r)
  unfolding pair
  pair_reached a b i e c r j h = rw (eq-eqb e allowance h)

  -- "At the allowance the answer is spent."
  pub sweep_spent : (a b i e c : ℕ) (r : List ℕ) (j : ℕ) → j < n → e ≡ allowance → sweep_left a b i (so_far e c r) j ≡ spent (so_far e c r)
  unfolding sweep_left
  sweep_spent a b i e c r j h k =
      sweep_next a b i (so_far e c r) j h
      ∙ ap (λ (s : Reply (List ℕ)). sweep_left a b i s (suc j)) (pair_reached a b i e c r j k)
      ∙ sweep_stays a b i (so_far e c r) (upfrom (suc j) (n - suc j))

  pair_allowed : (a b i e c : ℕ) (r : List ℕ) (j : ℕ) {answer : Bool} {r' : List ℕ} → e < allowance → Tried P a b i j r answer r' →
      pair P allowance a b i (so_far e c r) j ≡ so_far (e + 1) (c + cond answer 1 0) r'
  unfolding pair examine
  pair_allowed a b i e c r j h t = rw (ne_eqb e allowance (λ k. omega (arith, h, k)), t.is, t.route_is, add-one e) (by (accepts P a b i r j))
    where
      by : (x : Bool) → cond x (so_far (suc e) (suc c) (turned i j r)) (so_far (suc e) c r) ≡ so_far (suc e) (c + cond x 1 0) (cond x (turned i j r) r)
      by true = rw (add-one c)
      by false = let z : c + 0 ≡ c = omega arith in rw z

  -- A pair that the code tried and counted.
  pub sweep_tried : (a b i e c : ℕ) (r : List ℕ) (j : ℕ) {answer : Bool} {r' : List ℕ} {c' : ℕ} → j < n → e < allowance → Tried P a b i j r answer r' → c' ≡ c + cond answer 1 0 →
      sweep_left a b i (so_far (e + 1) c' r') (j + 1) ≡ sweep_left a b i (so_far e c r) j
  sweep_tried a b i e c r j h k t counted =
      rw (add-one j, counted) (sym (sweep_next a b i (so_far e c r) j h ∙ ap (λ (s : Reply (List ℕ)). sweep_left a b i s (suc j)) (pair_allowed a b i e c r j k t)))

  -- What is left of a pass at i.
  unfoldable pub pass_left : Reply (List ℕ) → (i : ℕ) → Reply (List ℕ)
  pass_left s i = foldl (sweep P allowance n) s (upfrom i (n - 1 - i))

  pub pass_first : (s : Reply (List ℕ)) → pass_left s 0 ≡ pass P allowance n s
  unfolding pass_left pass
  pass_first s = let e : n - 1 - 0 ≡ n - 1 = omega arith in rw e

  pub pass_ended : (s : Reply (List ℕ)) (i : ℕ) → n ≤ i + 1 → pass_left s i ≡ s
  unfolding pass_left
  pass_ended s i h = rw (upfrom_none i (n - 1) (omega arith))

  pass_sweep : (s : Reply (List ℕ)) (i : ℕ) → i + 1 < n → pass_left s i ≡ pass_left (sweep P allowance n s i) (i + 1)
  unfolding pass_left
  pass_sweep s i h = rw (upfrom_cons i (n - 1) (omega arith), add-one i)

  sweep_of_spent : (s : Reply (List ℕ)) (i : ℕ) → sweep P allowance n (spent s) i ≡ spent s
  unfolding sweep
  sweep_of_spent s i = sweep_stays (stop_before P.depot s.route i) (get_or s.route i 0) i s (upfrom (suc i) (n - suc i))

  pass_spent : (s : Reply (List ℕ)) (i : ℕ) → s.finished ≡ false → pass_left s i ≡ s
  unfolding pass_left
  pass_spent s i e =
      let same : spent s ≡ s = ap (λ (f : Bool). record { finished = f; examined = s.examined; accepted = s.accepted; route = s.route }) (sym e) in
      ap (λ (t : Reply (List ℕ)). pass_left t i) (sym same) ∙ fold_same (sweep P allowance n) (spent s) (sweep_of_spent s) (upfrom i (n - 1 - i)) ∙ same

  -- A row that the code tried, on a route of n stops.
  pub pass_tried : (s t : Reply (List ℕ)) (i : ℕ) {m : ℕ} → m ≡ n → i + 1 < n → t ≡ sweep P allowance m s i → pass_left t (i + 1) ≡ pass_left s i
  pass_tried s t i size h e = rw (e, size) (sym (pass_sweep s i h))

  pub pass_stopped : (s t : Reply (List ℕ)) (i : ℕ) {m : ℕ} → m ≡ n → i + 1 < n → t ≡ sweep P allowance m s i → t.finished ≡ false → t ≡ pass_left s i
  pass_stopped s t i size h e f = sym (pass_spent t (i + 1) f) ∙ pass_tried s t i size h e
