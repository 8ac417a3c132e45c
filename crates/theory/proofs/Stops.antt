-- Stops by their positions: a rearranged route has as many stops, and all of them are known locations. Assumes nothing.
use mathlib.Core.Path.{◌≡◌, sym, ◌∙◌}
use mathlib.Core.Bool.{cond}
use mathlib.Core.Logic.{⊎_elim}
use mathlib.Core.List.{List, [], ◌∷◌, Memᴰ}
use Prim.Native.Nat.{ℕ, suc, ◌<◌}
use native.Mathlib.Omega.{arith}
use lib.Dec.{eqb}
use lib.ListN.{length, get_or}
use Rattle.theory.specs.Moves.{total}
use Rattle.theory.specs.Route.{count}
use Rattle.theory.specs.Tables.{Stops}
use Rattle.theory.proofs.Moves.{total_ones}
use Rattle.theory.proofs.Orders.{count_mem, mem_count}
use Rattle.theory.proofs.Index.{mem_get_or}

-- What stands in a list stands at a position (and the other way round, `mem_get_or` of Index).
pub position_of : (x : ℕ) (l : List ℕ) → Memᴰ x l → (i : ℕ) × (i < length l) × (get_or l i 0 ≡ x)
position_of x [] m = absurd (mathlib.Core.List.Memᴰ.not-nil m)
position_of x (y ∷ l) m = ⊎_elim (λ e. (0, omega arith, sym e)) (λ n. let t = position_of x l n in (suc t.0, omega (arith, t.1), t.2)) (mathlib.Core.List.Memᴰ.cases_cons m)

same_count : (r r' : List ℕ) → ((g : ℕ → ℕ) → total g r' ≡ total g r) → (x : ℕ) → count x r' ≡ count x r
unfolding count
same_count r r' same x = same (λ y. cond (eqb x y) 1 0)

module _ (r r' : List ℕ) (same : (g : ℕ → ℕ) → total g r' ≡ total g r) where
  pub as_many : length r' ≡ length r
  as_many = sym (total_ones r') ∙ same (λ x. 1) ∙ total_ones r

  pub stops_rearranged : (locations : ℕ) → Stops locations r → Stops locations r'
  stops_rearranged locations s = record { short = omega (arith, as_many, s.short); known = known }
    where
      known : (i : ℕ) → i < length r' → get_or r' i 0 < locations
      known i h =
          let x = get_or r' i 0 in
          let m : Memᴰ x r = mem_count x r (omega (arith, same_count r r' same x, count_mem x r' (mem_get_or r' i 0 h))) in
          let t = position_of x r m in
          rw (← t.2) (s.known t.0 t.1)
