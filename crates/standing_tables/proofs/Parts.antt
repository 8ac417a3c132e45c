-- The tables of ends, both ways together, and of the ends of later parts. Assumes nothing.
use mathlib.Core.Path.{◌≡◌}
use mathlib.Core.Logic.{⊎_elim}
use mathlib.Core.List.{List}
use Prim.Native.Nat.{ℕ, suc, ◌+◌, ◌*◌, ◌<◌}
use native.Mathlib.Omega.{arith}
use native.Mathlib.Decide.{ℕ_discrete}
use lib.Bits.{bit_or}
use lib.ListN.{get_or}
use Rattle.standing.specs.Places.{Has}
use Rattle.standing.specs.Standing.{Pair, EndsTable, PartsTable}
use Rattle.standing.proofs.Places.{has_first, has_second}
use Rattle.standing_tables.specs.Filling.{SameTable, AlongTable, AgainstTable, Merged, PartsGood, PartsFrom}

-- Both ways together: where the parts that begin at a end.
pub ends_table : (n : ℕ) (old wanted same along against table : List ℕ) → Pair n old wanted → SameTable old wanted same → AlongTable same along → AgainstTable same against →
    Merged 2401 along against table → EndsTable n old wanted table
ends_table n old wanted same along against table pair sames f g merged =
    record {
      marked = λ a s y h p q t.
          let e = merged (a * 49 + y) (omega (arith, pair.few)) in
          rw e
          (⊎_elim
          (λ u. has_first (get_or along (a * 49 + y) 0) (get_or against (a * 49 + y) 0) (y + s) (f n old wanted pair sames a y (omega (arith, pair.few)) (omega arith) s h p q u))
          (λ u. has_second (get_or along (a * 49 + y) 0) (get_or against (a * 49 + y) 0) (y + s) (g n old wanted pair sames a y (omega (arith, pair.few)) (omega arith) s h p q u))
          t);
    }

pub parts_cell : (n : ℕ) (old wanted ends table : List ℕ) (i : ℕ) → Pair n old wanted → EndsTable n old wanted ends → PartsFrom n old wanted table (suc i) →
    (c y : ℕ) → y < 49 → c * 49 + y ≡ i → PartsGood n old wanted (bit_or (get_or table (i + 49) 0) (get_or ends i 0)) c y
parts_cell n old wanted ends table i pair marks behind c y l e a s b h p q t = by (ℕ_discrete a c)
  where
    by : Dec (a ≡ c) → Has (bit_or (get_or table (i + 49) 0) (get_or ends i 0)) (y + s)
    by (yes d) =
        let f : a * 49 + y ≡ i = omega arith in
        let m : Has (get_or ends i 0) (y + s) = rw f at (marks.marked a s y h p q t) in
        has_second (get_or table (i + 49) 0) (get_or ends i 0) (y + s) m
    by (no d) =
        let f : suc c * 49 + y ≡ i + 49 = omega arith in
        let m : Has (get_or table (i + 49) 0) (y + s) = rw f at (behind (suc c) y l (omega arith) a s (omega arith) h p q t) in
        has_first (get_or table (i + 49) 0) (get_or ends i 0) (y + s) m

pub parts_table : (n : ℕ) (old wanted table : List ℕ) → Pair n old wanted → PartsFrom n old wanted table 0 → PartsTable n old wanted table
parts_table n old wanted table pair f = record { marked = λ c a s y b h p q t. f c y (omega (arith, pair.few)) (omega arith) a s b h p q t }
