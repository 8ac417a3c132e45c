-- A slice in turns, each from a pattern at a cut set along the last cuts behind it: the loop's state, and one law for each way that a turn ends. Assumes nothing.
use mathlib.Core.Path.{◌≡◌, refl, ◌∙◌}
use mathlib.Core.Bool.{true, false}
use mathlib.Core.Option.{none, some}
use mathlib.Core.List.{List, [], ◌∷◌, ◌++◌}
use Prim.Native.Nat.{ℕ, suc, ◌+◌, ◌-◌, ◌*◌, ◌/◌, ◌%◌, ◌≤◌, ◌<◌}
use native.Mathlib.Omega.{arith}
use lib.ListN.{length}
use Rattle.theory.specs.Scan.{improves}
use Rattle.theory.specs.Moves.{Pattern, upfrom, total, next_cuts}
use Rattle.theory.specs.Route.{Problem, reconnected}
use Rattle.theory.specs.Polish.{search_of, move_at, ForCuts}
use Rattle.theory.specs.Tables.{CutSet}
use Rattle.theory.proofs.Index.{mem_get_or}
use Rattle.theory.proofs.Route.{total_reconnected}
use Rattle.theory.proofs.Stops.{as_many}
use Rattle.theory.proofs.Cuts.{first_set, next_set, enough}
use Rattle.theory.proofs.Walk.{rest}
use Rattle.slices.specs.Places.{Place, first_place, IsPlace}
use Rattle.slices.specs.Slices.{slice}
use Rattle.slices.proofs.Places.{from_is_rest}
use Rattle.slices.proofs.Steps.{Left, begins, Idle, stretch_place, spent_along, taken_along, through_next, through_last}

module _ (P : Problem) (ps : List Pattern) (k A : ℕ) (p₀ : Place) (r₀ : List ℕ) where
  -- At the cuts and the index, with e examined and c accepted: what is left from the route r is the whole slice, and r is a rearrangement of the route handed in.
  pub record Slicing (cuts : List ℕ) (i e c : ℕ) (r : List ℕ) : Type 0 where
    pub at : Left P ps k A p₀ r₀ (rest ps (length r₀) cuts i) e c r
    pub cut_set : CutSet k (length r₀) cuts
    pub known : i < length ps
    pub same : (g : ℕ → ℕ) → total g r ≡ total g r₀
    pub counted : c ≤ e

  pub starts : 2 ≤ k → k ≤ 5 → length r₀ ≤ 512 → IsPlace ps k (length r₀) p₀ → Slicing p₀.cuts p₀.index 0 0 r₀
  starts a b c is =
      record {
        at = rw (from_is_rest ps k (length r₀) p₀ is) at (begins P ps k A p₀ r₀);
        cut_set = record { least = a; most = b; short = c; many = is.many; rising = is.rising };
        known = is.known;
        same = λ g. refl;
        counted = omega arith;
      }

  pub within : (cuts : List ℕ) (i e c : ℕ) (r : List ℕ) → Slicing cuts i e c r → e ≤ A
  within cuts i e c r now = omega (arith, now.at.allowance)

  pub as_long : (cuts : List ℕ) (i e c : ℕ) (r : List ℕ) → Slicing cuts i e c r → length r ≡ length r₀
  as_long cuts i e c r now = as_many r₀ r now.same

  module _ (pre : List ℕ) (t i e c : ℕ) (r : List ℕ) (now : Slicing (pre ++ (t ∷ [])) i e c r) where
    is : IsPlace ps k (length r₀) (record { cuts = pre ++ (t ∷ []); index = i })
    is = record { many = now.cut_set.many; rising = now.cut_set.rising; known = now.known }

    -- The first d candidates do not improve the route, and the one behind them does, pattern x at the last cut t + h.
    pub gained : ForCuts k ps → (d h x : ℕ) → x < length ps → i + d ≡ h * length ps + x → t + h ≤ length r₀ → Idle P ps k (length r₀) pre t i r d → e + d < A →
        improves (search_of P ps k (length r₀)) r (move_at ps (pre ++ ((t + h) ∷ [])) x) ≡ true →
        Slicing (upfrom 0 k) 0 (e + d + 1) (c + 1) (reconnected (move_at ps (pre ++ ((t + h) ∷ [])) x) r)
    gained good d h x few z l idle room gain =
        let s = now.cut_set in
        let fits : k ≤ length r₀ + 1 = omega (arith, enough k (length r₀) (pre ++ (t ∷ [])) s) in
        let q = stretch_place ps k (length r₀) pre t i (t + h) x is (omega arith) l few in
        record {
          at = taken_along P ps k A p₀ r₀ pre t i is e c r now.at d h x few z l idle room gain;
          cut_set = first_set k (length r₀) s.least s.most s.short fits;
          known = omega (arith, few);
          same = λ g.
              total_reconnected g (length r₀) (move_at ps (pre ++ ((t + h) ∷ [])) x) r q.rising (λ f. rw q.many (good (move_at ps (pre ++ ((t + h) ∷ [])) x).pattern (mem_get_or ps x _ few) f))
              ∙ now.same g;
          counted = omega (arith, now.counted);
        }

    -- No more are allowed.
    pub is_spent : (left : ℕ) → e + left ≡ A → i + left < (suc (length r₀) - t) * length ps → Idle P ps k (length r₀) pre t i r left →
        slice P ps k A p₀ r₀
        ≡ record { reply = record { finished = false; examined = e + left; accepted = c; route = r }; place = record { cuts = pre ++ ((t + (i + left) / length ps) ∷ []); index = (i + left) % length ps } }
    is_spent left z few idle = spent_along P ps k A p₀ r₀ pre t i is e c r now.at left z few idle

    -- They are all patterns up to the last cut t + h: the next cut set is at hand, or there is none.
    module _ (d h : ℕ) (all : i + d ≡ suc h * length ps) (l : t + h ≤ length r₀) (idle : Idle P ps k (length r₀) pre t i r d) (room : e + d ≤ A) where
      pub passed : (cs : List ℕ) → next_cuts (length r₀) (pre ++ ((t + h) ∷ [])) ≡ some cs → Slicing cs 0 (e + d) c r
      passed cs z =
          let s = now.cut_set in
          let some_patterns : 0 < length ps = omega (arith, now.known) in
          let q = stretch_place ps k (length r₀) pre t i (t + h) 0 is (omega arith) l some_patterns in
          record {
            at = through_next P ps k A p₀ r₀ pre t i is e c r now.at d h all l idle room cs z;
            cut_set = next_set k (length r₀) (pre ++ ((t + h) ∷ [])) cs (record { least = s.least; most = s.most; short = s.short; many = q.many; rising = q.rising }) z;
            known = some_patterns;
            same = now.same;
            counted = omega (arith, now.counted);
          }

      pub finishes : next_cuts (length r₀) (pre ++ ((t + h) ∷ [])) ≡ none →
          slice P ps k A p₀ r₀ ≡ record { reply = record { finished = true; examined = e + d; accepted = c; route = r }; place = first_place k }
      finishes z = through_last P ps k A p₀ r₀ pre t i is e c r now.at d h all l idle room z
