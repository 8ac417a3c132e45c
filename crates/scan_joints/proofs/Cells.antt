-- A row of the joint table, filled cell by cell. Assumes nothing.
use mathlib.Core.Path.{◌≡◌, refl, ◌∙◌}
use mathlib.Core.Logic.{◌≢◌, ◌⊎◌, inl, inr}
use mathlib.Core.List.{List}
use Prim.Native.Nat.{ℕ, ◌+◌, ◌*◌, ◌^◌, ◌≤◌, ◌<◌}
use native.Mathlib.Omega.{arith}
use borrow.Author.Count.{below_more}
use lib.ListN.{get_or, set}
use lib.Seq.{get_or-set_same, get_or-set_other}
use Rattle.costs.specs.RouteCosts.{leg}
use Rattle.scan_joints.specs.JointTable.{cell, Padded, RowFilled}
use Rattle.scan_joints.proofs.Rows.{padded_set}

pub none_filled : (locations : ℕ) (legs : List ℕ) (from : ℕ) (entries inside : List ℕ) (a : ℕ) (table : List ℕ) → Padded table → RowFilled locations legs from 0 entries inside a table table
none_filled locations legs from entries inside a table p = record { padded = p; next = λ b h. absurd (omega arith); others = λ c h. refl }

pub more_filled : {locations : ℕ} {legs : List ℕ} {from : ℕ} {entries inside : List ℕ} {a b : ℕ} {before table : List ℕ} → RowFilled locations legs from b entries inside a before table →
    (v : ℕ) → a < 10 → a ≢ 8 → b < 8 → v ≤ 2 ^ 40 → v ≡ leg locations legs from (get_or entries b 0) + get_or inside b 0 → RowFilled locations legs from (b + 1) entries inside a before (set table (16 * a + b) v)
more_filled {locations} {legs} {from} {entries} {inside} {a} {b} {before} {table} w v l n h s e =
    record {
      padded = padded_set table a b v w.padded n (omega arith) s;
      next = below_more (λ x. cell (set table (16 * a + b) v) a x ≡ leg locations legs from (get_or entries x 0) + get_or inside x 0) b
          (λ x k. get_or-set_other table (16 * a + b) (16 * a + x) v 0 (λ q. omega arith) ∙ w.next x k)
          (get_or-set_same table (16 * a + b) v 0 (omega (arith, w.padded.places)) ∙ e);
      others = λ c k. get_or-set_other table (16 * a + b) c v 0 (λ q. apart c k q) ∙ w.others c (wider c k);
    }
  where
    apart : (c : ℕ) → (c < 16 * a) ⊎ (16 * a + (b + 1) ≤ c) → c ≡ 16 * a + b → ⊥
    apart c (inl k) q = omega arith
    apart c (inr k) q = omega arith

    wider : (c : ℕ) → (c < 16 * a) ⊎ (16 * a + (b + 1) ≤ c) → (c < 16 * a) ⊎ (16 * a + b ≤ c)
    wider c (inl k) = inl k
    wider c (inr k) = inr (omega arith)
