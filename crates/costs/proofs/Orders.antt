-- The middle segments of an order: those of a pattern for k cuts, and those of the order that changes nothing.
use mathlib.Core.Path.{◌≡◌, sym, ap, ◌∙◌}
use mathlib.Core.List.{List, [], ◌∷◌, ◌++◌}
use Prim.Native.Nat.{ℕ, zero, suc, ◌+◌, ◌-◌, ◌≤◌, ◌<◌}
use native.Mathlib.Nat.{zero-add}
use native.Mathlib.Omega.{arith}
use lib.ListN.{length, get_or, length-append, get_or-append}
use lib.Seq.{slice, take_at}
use Rattle.theory.specs.Moves.{upfrom}
use Rattle.theory.specs.Tables.{ForK}
use Rattle.theory.proofs.Moves.{total_ones, length_upfrom}
use Rattle.theory.proofs.Orders.{in_range}
use Rattle.costs.specs.RouteCosts.{Middle}
use Rattle.theory.proofs.Index.{take_upfrom, get_or_upfrom, mem_get_or}

-- ---- a pattern's order

module _ (k : ℕ) (order : List ℕ) (mask : ℕ) (two : 2 ≤ k) (f : ForK k order mask) where
  length_middle : length f.middle ≡ k - 1
  length_middle = sym (total_ones f.middle) ∙ f.once (λ x. 1) ∙ total_ones (upfrom 1 (k - 1)) ∙ length_upfrom 1 (k - 1)

  pub middle_is : slice 1 k order ≡ f.middle
  middle_is =
      let e : k ≡ suc (k - 1) = omega arith in
      rw f.order_is (ap (λ n. slice 1 n (0 ∷ (f.middle ++ (k ∷ [])))) e ∙ take_at f.middle (k ∷ []) (k - 1) length_middle)

  at_place : (p : ℕ) → 1 ≤ p → p < k → (1 ≤ get_or order p 0) × (get_or order p 0 < 1 + (k - 1))
  at_place zero h l = absurd (omega arith)
  at_place (suc p) h l =
      let i : p < length f.middle = omega (arith, length_middle) in
      rw (f.order_is, get_or-append f.middle (k ∷ []) 0 p i) (in_range f.middle 1 (k - 1) f.once (get_or f.middle p 0) (mem_get_or f.middle p 0 i))

  pub pattern_middle : Middle k order
  pattern_middle =
      record {
        long = rw f.order_is (omega (arith, length-append f.middle (k ∷ []), length_middle));
        least = λ p h l. (at_place p h l).0;
        most = λ p h l. omega (arith, at_place p h l);
      }

-- ---- the order that changes nothing

abbrev pub standing : List ℕ
standing = 0 ∷ 1 ∷ 2 ∷ 3 ∷ 4 ∷ 5 ∷ []

standing_at : (p : ℕ) → p < 6 → get_or standing p 0 ≡ p
unfolding upfrom
standing_at p h = get_or_upfrom 0 6 p 0 h ∙ zero-add p

pub standing_middle : (k : ℕ) → 2 ≤ k → k ≤ 5 → slice 1 k standing ≡ upfrom 1 (k - 1)
unfolding upfrom
standing_middle k h l =
    let e : k ≡ suc (k - 1) = omega arith in
    ap (λ n. slice 1 n standing) e ∙ take_upfrom 1 5 (k - 1) (omega arith)
