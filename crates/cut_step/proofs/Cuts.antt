-- Facts on the cuts, over plain lists. Assumes nothing.
use mathlib.Core.Path.{◌≡◌, refl, sym, ap, ◌∙◌}
use mathlib.Core.List.{List, ◌∷◌, ◌++◌, append_assoc, append-nil}
use Prim.Native.Nat.{ℕ, suc, ◌+◌, ◌-◌, ◌≤◌, ◌<◌}
use native.Mathlib.Omega.{arith}
use native.Mathlib.Numerals.{add-one}
use lib.ListN.{length, get_or, take, drop, set, length-append, length-drop, take-append-drop}
use lib.Seq.{drop-cons, set_at, length-take-le, drop-length}
use mathlib.Core.Option.{none, some}
use Rattle.theory.specs.Moves.{upfrom, next_cuts}
use Rattle.theory.proofs.Walk.{next_stuck, next_moves, next_under}
use Rattle.theory.proofs.Moves.{length_upfrom}
use Rattle.theory.proofs.Delta.{upfrom_snoc}

-- The cuts with the places from `from` up to q written.
unfoldable pub written : List ℕ → ℕ → ℕ → ℕ → List ℕ
written old from first q = (take from old ++ upfrom first (q - from)) ++ drop q old

pub written_none : (old : List ℕ) (from first : ℕ) → old ≡ written old from first from
unfolding written upfrom
written_none old from first =
    let z : from - from ≡ 0 = omega arith in
    rw (z, append-nil (take from old), take-append-drop from old)

pub written_one : (old : List ℕ) (from first q : ℕ) → from ≤ q → q < length old →
    set (written old from first q) q (first + (q - from)) ≡ written old from first (q + 1)
unfolding written
written_one old from first q h k =
    let e : suc q - from ≡ suc (q - from) = omega arith in
    rw (drop-cons old q 0 k, add-one q)
    (set_at (take from old ++ upfrom first (q - from)) (get_or old q 0) (drop (suc q) old) (first + (q - from)) q
    (length-append (take from old) (upfrom first (q - from)) ∙ omega (arith, length-take-le from old (omega arith), length_upfrom first (q - from)))
    ∙ rw (e, ← (upfrom_snoc first (q - from) (first + (q - from)) refl)) (simp append_assoc))

pub written_all : (old : List ℕ) (from first : ℕ) → written old from first (length old) ≡ take from old ++ upfrom first (length old - from)
unfolding written
written_all old from first = rw (drop-length old) (append-nil (take from old ++ upfrom first (length old - from)))

-- ---- the step down from the last cut

module _ (n : ℕ) (cs : List ℕ) (q : ℕ) (h : q < length cs) (none_yet : next_cuts n (drop (q + 1) cs) ≡ none) where
  after : List ℕ
  after = drop (suc q) cs

  size : suc (length after) ≡ length cs - q
  unfolding after
  size = rw (length-drop (suc q) cs) (omega arith)

  here : drop q cs ≡ get_or cs q 0 ∷ after
  unfolding after
  here = drop-cons cs q 0 h

  yet : next_cuts n after ≡ none
  unfolding after
  yet = rw (add-one q) at none_yet

  pub stuck : n < get_or cs q 0 + (length cs - q) → next_cuts n (drop q cs) ≡ none
  stuck k = rw here (next_stuck n (get_or cs q 0) after yet (rw size k))

  pub moved : get_or cs q 0 + (length cs - q) ≤ n → next_cuts n cs ≡ some (take q cs ++ upfrom (get_or cs q 0 + 1) (length cs - q))
  moved k =
      let e : next_cuts n (drop q cs) ≡ some (upfrom (get_or cs q 0 + 1) (length cs - q)) =
      rw (here, add-one (get_or cs q 0), ← size) (next_moves n (get_or cs q 0) after yet (rw size k)) in
      ap (next_cuts n) (sym (take-append-drop q cs)) ∙ next_under n (take q cs) (drop q cs) (upfrom (get_or cs q 0 + 1) (length cs - q)) e

-- The same at p - 1, where p is not 0, and of the cuts cs₀ that cs still is.
module _ (n : ℕ) (cs₀ cs : List ℕ) (p : ℕ) (e : cs ≡ cs₀) (pos : 0 < p) (h : p ≤ length cs) (none_yet : next_cuts n (drop p cs) ≡ none) where
  below : p - 1 < length cs
  below = omega arith

  none_there : next_cuts n (drop (p - 1 + 1) cs) ≡ none
  none_there = let z : p - 1 + 1 ≡ p = omega arith in rw z none_yet

  pub stuck_down : n < get_or cs (p - 1) 0 + (length cs - (p - 1)) → next_cuts n (drop (p - 1) cs) ≡ none
  stuck_down = stuck n cs (p - 1) below none_there

  pub moved_down : get_or cs (p - 1) 0 + (length cs - (p - 1)) ≤ n → next_cuts n cs₀ ≡ some (take (p - 1) cs ++ upfrom (get_or cs (p - 1) 0 + 1) (length cs - (p - 1)))
  moved_down k = ap (next_cuts n) (sym e) ∙ moved n cs (p - 1) below none_there k
