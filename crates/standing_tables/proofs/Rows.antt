-- A row of the table of where parts stand, one stop longer at a time. Assumes nothing.
use mathlib.Core.Path.{◌≡◌, refl, ◌∙◌}
use mathlib.Core.Logic.{⊎_elim}
use mathlib.Core.List.{List}
use Prim.Native.Nat.{ℕ, ◌+◌, ◌-◌, ◌*◌, ◌/◌, ◌^◌, ◌≤◌, ◌<◌}
use native.Mathlib.Omega.{arith}
use native.Mathlib.Nat.{add-zero, add_comm}
use native.Mathlib.Decide.{ℕ_discrete}
use lib.Bits.{bit_and, bit_or}
use lib.ListN.{length, get_or, set, length-set}
use lib.Seq.{get_or-set_same, get_or-set_other}
use Rattle.standing.specs.Places.{Has}
use Rattle.standing.specs.Standing.{Against, Stands, Pair}
use Rattle.standing.proofs.Places.{has_first, has_second, has_both, has_lower}
use Rattle.standing_tables.specs.Filling.{SameTable, AlongAt, AgainstAt, RowTo, RowsBelow, RowKept, RowRoom, RowFilled}

module _ (n : ℕ) (old wanted same : List ℕ) (pair : Pair n old wanted) (sames : SameTable old wanted same) (a : ℕ) where
  -- One stop.
  pub along_one : AlongAt n old wanted (get_or same a 0) a 1
  along_one y p q t =
      let f = t 0 (omega arith) in
      let e : get_or wanted y 0 ≡ get_or old a 0 = rw (add-zero y, add-zero a) at f in
      sames a y (omega (arith, pair.olds)) (omega (arith, pair.wanteds)) e

  pub against_one : AgainstAt n old wanted (get_or same a 0) a 1
  against_one y p q t =
      let f = t 0 0 (omega arith) in
      let e : get_or wanted y 0 ≡ get_or old a 0 = rw (add-zero y, add-zero a) at f in
      sames a y (omega (arith, pair.olds)) (omega (arith, pair.wanteds)) e

  -- One stop more.
  pub along_more : (word s : ℕ) → AlongAt n old wanted word a s → AlongAt n old wanted (bit_and word (get_or same (a + s) 0 / 2 ^ s)) a (s + 1)
  along_more word s f y p q t =
      let e : get_or wanted (y + s) 0 ≡ get_or old (a + s) 0 = t s (omega arith) in
      let m : Has (get_or same (a + s) 0) (y + s) = sames (a + s) (y + s) (omega (arith, pair.olds)) (omega (arith, pair.wanteds)) e in
      has_both word (get_or same (a + s) 0 / 2 ^ s) y (f y (omega arith) (omega arith) (λ i l. t i (omega arith))) (has_lower (get_or same (a + s) 0) s y (rw (add_comm y s) at m))

  pub against_more : (word s : ℕ) → AgainstAt n old wanted word a s → AgainstAt n old wanted (bit_and (get_or same (a + s) 0) (word / 2)) a (s + 1)
  against_more word s f y p q t =
      let r = t 0 s (omega arith) in
      let e : get_or wanted y 0 ≡ get_or old (a + s) 0 = rw (add-zero y) at r in
      let m : Has (get_or same (a + s) 0) y = sames (a + s) y (omega (arith, pair.olds)) (omega (arith, pair.wanteds)) e in
      let u : Against old wanted a s (1 + y) = λ i j l. let w : y + (i + 1) ≡ 1 + y + i = omega arith in let v = t (i + 1) j (omega arith) in rw w at v in
      has_both (get_or same (a + s) 0) (word / 2) y m (has_lower word 1 y (f (1 + y) (omega arith) (omega arith) u))

  -- The column of the s stops from a on.
  pub row_put : (table : List ℕ) (along against s : ℕ) → a * 49 + (a + s) < length table → AlongAt n old wanted along a s → AgainstAt n old wanted against a s →
      RowTo n old wanted table a (a + s) → RowTo n old wanted (set table (a * 49 + (a + s)) (bit_or along against)) a (a + s + 1)
  row_put table along against s room f g done t y h l p q st = by (ℕ_discrete t s)
    where
      by : Dec (t ≡ s) → Has (get_or (set table (a * 49 + (a + s)) (bit_or along against)) (a * 49 + (a + t)) 0) y
      by (yes e) =
          let z : Stands old wanted a s y = rw e at st in
          rw (e, get_or-set_same table (a * 49 + (a + s)) (bit_or along against) 0 room)
          (⊎_elim (λ u. has_first along against y (f y (omega arith) (omega arith) u)) (λ u. has_second along against y (g y (omega arith) (omega arith) u)) z)
      by (no d) =
          let k : a * 49 + (a + t) ≡ a * 49 + (a + s) → ⊥ = λ e. d (omega arith) in
          rw (get_or-set_other table (a * 49 + (a + s)) (a * 49 + (a + t)) (bit_or along against) 0 k) (done t y h (omega arith) p q st)

  pub row_begun : (table : List ℕ) → RowTo n old wanted table a (a + 1)
  row_begun table s y h l p q t = absurd (omega arith)

-- ---- a row as the code fills it

pub row_start : (same table : List ℕ) (n a : ℕ) → RowRoom n a table → RowKept same table n a (get_or same a 0) (get_or same a 0) table (a + 1)
row_start same table n a room =
    let e : a + 1 - a ≡ 1 = omega arith in
    record {
      starts = omega arith;
      ends = omega (arith, room.within);
      few = room.few;
      long = room.long;
      straight = λ old wanted pair sames. rw e (along_one n old wanted same pair sames a);
      reversed = λ old wanted pair sames. rw e (against_one n old wanted same pair sames a);
      row = λ old wanted pair sames. row_begun n old wanted same pair sames a table;
      before = λ x l. refl;
    }

pub row_turn : (same table₀ : List ℕ) (n a along against : ℕ) (table : List ℕ) (e : ℕ) → RowKept same table₀ n a along against table e → e ≤ n →
    RowKept same table₀ n a (bit_and along (get_or same e 0 / 2 ^ (e - a))) (bit_and (get_or same e 0) (against / 2)) (set table (a * 49 + e) (bit_or along against)) (e + 1)
row_turn same table₀ n a along against table e kept l =
    let s = e - a in
    let d : a + (e - a) ≡ e = omega (arith, kept.starts) in
    let f : e + 1 - a ≡ (e - a) + 1 = omega (arith, kept.starts) in
    let room : a * 49 + (a + s) < length table = omega (arith, kept.long, kept.few, kept.starts) in
    record {
      starts = omega (arith, kept.starts);
      ends = omega arith;
      few = kept.few;
      long = length-set table (a * 49 + e) (bit_or along against) ∙ kept.long;
      straight = λ old wanted pair sames. rw f (rw d at (along_more n old wanted same pair sames a along s (kept.straight old wanted pair sames)));
      reversed = λ old wanted pair sames. rw f (rw d at (against_more n old wanted same pair sames a against s (kept.reversed old wanted pair sames)));
      row = λ old wanted pair sames.
          let r : RowTo n old wanted table a (a + s) = rw d (kept.row old wanted pair sames) in
          rw d at (row_put n old wanted same pair sames a table along against s room (kept.straight old wanted pair sames) (kept.reversed old wanted pair sames) r);
      before = λ x b. get_or-set_other table (a * 49 + e) x (bit_or along against) 0 (λ q. omega arith) ∙ kept.before x b;
    }

-- ---- row after row

abbrev pub Below : (same table : List ℕ) (n a : ℕ) → Type 0
Below same table n a = (old wanted : List ℕ) → Pair n old wanted → SameTable old wanted same → RowsBelow n old wanted table a

pub rows_more : (same table₀ : List ℕ) (n a : ℕ) (table : List ℕ) → Below same table₀ n a → a < n → n ≤ 48 → RowFilled same table₀ n a table → Below same table n (a + 1)
rows_more same table₀ n a table f l m filled old wanted pair sames x b = by (ℕ_discrete x a)
  where
    by : Dec (x ≡ a) → RowTo n old wanted table x 50
    by (yes e) = rw e (filled.row old wanted pair sames)
    by (no d) = λ s y h c p q t. rw (filled.before (x * 49 + (x + s)) (omega arith)) (f old wanted pair sames x (omega arith) s y h c p q t)
