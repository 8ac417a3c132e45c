-- A lent list of patterns and its rows of states. Assumes nothing.
use mathlib.Core.List.{List}
use Prim.Native.Nat.{ℕ}
use native.Mathlib.Omega.{arith}
use lib.ListN.{length}
use Rattle.theory.specs.Tables.{PatternRows, pattern_rows}
use Rattle.theory.proofs.Rows.{length_rows, listed_for_k}
use Rattle.scan_joints.specs.States.{StateRows}
use Rattle.scan_step.specs.Stepping.{Listed}

pub listed_rows : (k : ℕ) (orders masks rows : List ℕ) → PatternRows k orders masks → StateRows k orders masks (length masks) rows → Listed k (length masks) rows (pattern_rows k orders masks)
listed_rows k orders masks rows p s =
    let many = length_rows k orders masks in
    record {
      patterned = record {
        few = omega (arith, many, p.few);
        places = s.places;
        for_k = λ i h. listed_for_k k orders masks p i _ (omega (arith, many));
        each = λ i h. s.each i (omega (arith, many));
        small = λ c h. s.small c (omega (arith, many));
      };
      many = many;
    }
