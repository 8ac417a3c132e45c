-- The first pattern on one cut set, from the table's rows. Assumes nothing.
use mathlib.Core.Path.{◌≡◌, sym, ap, ◌∙◌, subst}
use mathlib.Core.Bool.{Bool, cond}
use mathlib.Core.List.{List, [], ◌∷◌}
use mathlib.Core.Option.{none, some}
use Prim.Native.Nat.{ℕ}
use native.Mathlib.Omega.{arith}
use lib.Dec.{ltb}
use lib.ListN.{length, take}
use Rattle.theory.specs.Moves.{Pattern, patterns}
use Rattle.theory.specs.Route.{reconnected}
use Rattle.theory.specs.Polish.{move_at}
use Rattle.theory.specs.Tables.{CutSet, PatternRows, pattern_rows}
use Rattle.theory.proofs.Rows.{length_rows}
use Rattle.pattern_table.specs.Table.{all_orders, all_masks, part, RowsFor, PartFor}
use Rattle.pattern_table.specs.declared.Part.{Part}
use Rattle.first_move.specs.FirstMove.{first_that, same_route, numbered, turns_into}
use Rattle.find_move.specs.Search.{Tryable, turned, FirstOf, FoundAt, WholeCuts, FirstPattern}
use Rattle.first_move.specs.declared.FoundMove.{FoundMove}
use Rattle.std.specs.Prelude.{Some, None}
use Rattle.std.specs.Prelude as Rust
use borrow.Author.Tests.{lt-ltb, le-ltb}
use Rattle.find_move.proofs.Routes.{first_on}

-- The part of the table for k, as it is read.
pub lent_rows : {k : ℕ} {r : Part} {orders masks : List ℕ} → PartFor k r → orders ≡ all_orders → masks ≡ all_masks →
    RowsFor k (part r.orders r.orders_end orders) (part r.masks r.masks_end masks)
lent_rows p eo em = rw (eo, em) p.holds

module _ {k : ℕ} {old wanted cuts orders masks : List ℕ} (whole : WholeCuts k old wanted cuts) (rows : RowsFor k orders masks) where
  pub tryable : Tryable old wanted (take k cuts) orders masks
  tryable =
      let e = sym whole.cut_set.many in
      record {
        pair = whole.sought.pair;
        cut_set = subst (λ (x : ℕ). CutSet x (length old) (take k cuts)) e whole.cut_set;
        rows = subst (λ (x : ℕ). PatternRows x orders masks) e rows.rows;
      }

  are : pattern_rows (length (take k cuts)) orders masks ≡ patterns k
  are = ap (λ (x : ℕ). pattern_rows x orders masks) whole.cut_set.many ∙ rows.are

  as_many : length masks ≡ length (patterns k)
  as_many = sym (length_rows k orders masks) ∙ ap length rows.are

  of_patterns : (index : ℕ) → FirstOf (turned old wanted (take k cuts) orders masks) (length masks) index → FirstOf (λ i. turns_into k old wanted (take k cuts, i)) (length (patterns k)) index
  of_patterns index f =
      subst (λ (n : ℕ). FirstOf (λ i. turns_into k old wanted (take k cuts, i)) n index) as_many
      (subst (λ (ps : List Pattern). FirstOf (λ i. same_route (reconnected (move_at ps (take k cuts) i) old) wanted) (length masks) index) are f)

  abbrev at : Rust.Option ℕ → Rust.Option FoundMove
  at None = None
  at (Some index) = Some (record { index = index; cuts = cuts })

  abbrev t : ℕ → Bool
  t = turned old wanted (take k cuts) orders masks

  first_of : (index : ℕ) → FirstOf t (length masks) index →
      first_that (turns_into k old wanted) (numbered (length (patterns k)) (take k cuts ∷ [])) ≡ cond (ltb index (length masks)) (some (take k cuts, index)) none
  first_of index f = rw as_many (first_on (turns_into k old wanted) (take k cuts) (length (patterns k)) index (of_patterns index f))

  pub first_found : (found : Rust.Option ℕ) → FoundAt t (length masks) found → FirstPattern k old wanted cuts (at found)
  first_found None f = record { is = sym (first_of (length masks) f ∙ rw (le-ltb (length masks) (length masks) (omega arith))) }
  first_found (Some index) f = record { is = sym (first_of index f.0 ∙ rw (lt-ltb index (length masks) f.1)) }
