-- Place by place, what is drawn so far and what is still to be drawn are the whole. Assumes nothing.
use mathlib.Core.Path.{◌≡◌, sym, ◌∙◌}
use mathlib.Core.List.{List, [], ◌∷◌, ◌++◌, append-nil, append_assoc}
use Prim.Native.Nat.{ℕ, suc, ◌+◌, ◌-◌, ◌<◌}
use native.Mathlib.Numerals.{add-one}
use native.Mathlib.Omega.{arith}
use lib.ListN.{length, take, set}
use lib.Seq.{take-suc-set, take_all}
use Rattle.replay_drawing.specs.Draw.{following, drawn, all_drawn}

module _ {A : Type 0} (f : ℕ → A) (span seed state n i : ℕ) (l : List A) (so_far : all_drawn f span seed n ≡ take i l ++ all_drawn f span state (n - i)) where
  pub one_more : i < n → length l ≡ n → all_drawn f span seed n ≡ take (i + 1) (set l i (f (drawn span (following state)))) ++ all_drawn f span (following state) (n - (i + 1))
  unfolding all_drawn
  one_more h long =
      let e : n - i ≡ suc (n - suc i) = omega arith in
      (rw e at so_far)
      ∙ rw (add-one i, take-suc-set l i (f (drawn span (following state))) (omega arith)) (sym (append_assoc (take i l) (f (drawn span (following state)) ∷ []) (all_drawn f span (following state) (n - suc i))))

  pub all_there : n ≡ i → length l ≡ n → l ≡ all_drawn f span seed n
  unfolding all_drawn
  all_there h long =
      let e : n - i ≡ 0 = omega arith in
      sym ((rw e at so_far) ∙ append-nil (take i l) ∙ take_all i l (omega arith))
