-- The candidate of a pattern: its order as code lends it, and the route that it makes, which has the same stops. Assumes nothing.
use mathlib.Core.Path.{◌≡◌, sym, ap, ◌∙◌}
use mathlib.Core.List.{List, []}
use Prim.Native.Nat.{ℕ}
use native.Mathlib.Omega.{arith}
use lib.ListN.{length, get_or}
use Rattle.theory.specs.Moves.{Move, total}
use Rattle.theory.specs.Route.{reconnected}
use Rattle.theory.specs.Polish.{move_at}
use Rattle.theory.specs.Tables.{Order, pattern_rows}
use Rattle.theory.proofs.Route.{total_reconnected}
use Rattle.theory.proofs.Rows.{lent_row, lent_at, listed_for_k}
use Rattle.theory.proofs.ForK.{for_k_order}
use Rattle.theory.proofs.Stops.{as_many}
use Rattle.candidates.specs.Candidate.{candidate, Candidate, BuildableFront}

module _ {r cs orders masks : List ℕ} {i : ℕ} (given : Candidate r cs orders masks i) where
  abbrev move : Move
  move = move_at (pattern_rows (length cs) orders masks) cs i

  -- As code lends the order and the mask.
  lent_pattern : move.pattern ≡ record { order = lent_row (length cs) orders i; mask = get_or masks i 0 }
  lent_pattern = lent_at (length cs) orders masks i (record { order = []; mask = 0 }) given.listed

  order_of : Order (length cs) move.pattern.order
  order_of = for_k_order (length cs) _ _ (omega (arith, given.cut_set.least)) (listed_for_k (length cs) orders masks given.patterns i _ given.listed)

  pub lent_once : Order (length cs) (lent_row (length cs) orders i)
  lent_once = rw (ap (λ p. p.order) lent_pattern) at order_of

  pub lent_candidate : reconnected (record { cuts = cs; pattern = record { order = lent_row (length cs) orders i; mask = get_or masks i 0 } }) r ≡ candidate r cs orders masks i
  lent_candidate = ap (λ p. reconnected (record { cuts = cs; pattern = p }) r) (sym lent_pattern)

  pub same_stops : (g : ℕ → ℕ) → total g (candidate r cs orders masks i) ≡ total g r
  same_stops g = total_reconnected g (length r) move r given.cut_set.rising order_of.once

  as_long : length (candidate r cs orders masks i) ≡ length r
  as_long = as_many r _ same_stops

-- Built at the front of the spare array.
module _ {r cs orders masks : List ℕ} {i : ℕ} {spare : List ℕ} (given : BuildableFront r cs orders masks i spare) where
  module _ {out : List ℕ} (e : out ≡ candidate r cs orders masks i) where
    out_length : length out ≡ length r
    out_length = ap length e ∙ as_long given.of
