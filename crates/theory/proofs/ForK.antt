-- A pattern of document 01 is one for k cuts, as the code is handed it; and what such a pattern is. Assumes nothing.
use mathlib.Core.Path.{◌≡◌, ap}
use mathlib.Core.List.{List, Memᴰ}
use Prim.Native.Nat.{ℕ, suc, ◌-◌, ◌≤◌}
use native.Mathlib.Omega.{arith}
use Rattle.theory.specs.Moves.{Pattern, patterns}
use Rattle.theory.specs.Tables.{Order, ForK, PatternRows, pattern_rows}
use Rattle.theory.specs.Polish.{ForCuts}
use Rattle.theory.proofs.Moves.{Shape, pattern_shape, rearranges_shape}

pub shape_for_k : (m : ℕ) (p : Pattern) → Shape m p → ForK (suc m) p.order p.mask
shape_for_k m p s =
    let one_less : suc m - 1 ≡ m = omega arith in
    record {
      middle = s.middle;
      bits = s.bits;
      order_is = ap (λ q. q.order) s.is;
      once = λ g. rw one_less (s.once g);
      mask_is = ap (λ q. q.mask) s.is;
      few = rw one_less s.few;
    }

pub pattern_for_k : (m : ℕ) (p : Pattern) → Memᴰ p (patterns (suc m)) → ForK (suc m) p.order p.mask
pattern_for_k m p i = shape_for_k m p (pattern_shape m p i)

-- The other way round.
abbrev pub for_k_shape : (k m : ℕ) (order : List ℕ) (mask : ℕ) → k ≡ suc m → ForK k order mask → Shape m (record { order = order; mask = mask })
for_k_shape k m order mask e f =
    let less : k - 1 ≡ m = omega arith in
    record {
      middle = f.middle;
      bits = f.bits;
      few = rw less at f.few;
      once = λ g. rw less at (f.once g);
      is = rw (f.order_is, f.mask_is, e);
    }

pub for_k_order : (k : ℕ) (order : List ℕ) (mask : ℕ) → 1 ≤ k → ForK k order mask → Order k order
for_k_order k order mask h f =
    let e : k ≡ suc (k - 1) = omega arith in
    record { once = λ g. rw (← e) at (rearranges_shape (k - 1) (record { order = order; mask = mask }) (for_k_shape k (k - 1) order mask e f) g) }

-- Lent rows of patterns for k cuts are a list of patterns for k cuts.
pub rows_for_cuts : (k : ℕ) (orders masks : List ℕ) → 1 ≤ k → PatternRows k orders masks → ForCuts k (pattern_rows k orders masks)
rows_for_cuts k orders masks h rows p i = (for_k_order k p.order p.mask h (rows.each p i)).once
