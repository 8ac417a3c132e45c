-- One place of the tables of ends from those behind it. Assumes nothing.
use mathlib.Core.Path.{◌≡◌}
use mathlib.Core.List.{List}
use Prim.Native.Nat.{ℕ, zero, suc, ◌+◌, ◌*◌, ◌/◌, ◌%◌, ◌^◌, ◌≤◌, ◌<◌}
use native.Mathlib.Omega.{arith}
use native.Mathlib.Nat.{add-zero}
use native.Mathlib.Decide.{ℕ_discrete}
use lib.Bits.{bit_and, bit_or}
use lib.ListN.{length, get_or, set}
use lib.Seq.{get_or-set_same, get_or-set_other}
use Rattle.standing.specs.Places.{Has}
use Rattle.standing.specs.Standing.{Along, Against, Pair}
use Rattle.standing.proofs.Places.{has_first, has_second, has_both, has_higher}
use Rattle.standing_tables.specs.Filling.{SameTable, AlongGood, AgainstGood}

module _ (n : ℕ) (old wanted same : List ℕ) (pair : Pair n old wanted) (sames : SameTable old wanted same) (a y : ℕ) where
  -- The stops at a and at y are the same.
  here : (s : ℕ) → a + s ≤ n → y + s ≤ n → 0 < s → get_or wanted y 0 ≡ get_or old a 0 → Has (get_or same a 0) y
  here s p q h e = sames a y (omega (arith, pair.olds)) (omega (arith, pair.wanteds)) e

  along_starts : (s : ℕ) → 0 < s → Along old wanted a s y → get_or wanted y 0 ≡ get_or old a 0
  along_starts s h t = let f = t 0 h in rw (add-zero y, add-zero a) at f

  pub along_none : (Has (get_or same a 0) y → ⊥) → (word : ℕ) → AlongGood n old wanted word a y
  along_none d word s h p q t = absurd (d (here s p q h (along_starts s h t)))

  pub along_some : (one next : ℕ) → Has one (y + 1) → AlongGood n old wanted next (suc a) (suc y) → AlongGood n old wanted (bit_or one next) a y
  along_some one next o g zero h p q t = absurd (omega arith)
  along_some one next o g (suc zero) h p q t = has_first one next (y + 1) o
  along_some one next o g (suc (suc s)) h p q t =
      let e : y + suc (suc s) ≡ suc y + suc s = omega arith in
      let u : Along old wanted (suc a) (suc s) (suc y) = λ i l.
      let w : y + suc i ≡ suc y + i = omega arith in
      let v : a + suc i ≡ suc a + i = omega arith in
      let r = t (suc i) (omega arith) in
      rw (w, v) at r
      in
      rw e (has_second one next (suc y + suc s) (g (suc s) (omega arith) (omega arith) (omega arith) u))

  pub against_next : (one next : ℕ) → Has one y → AgainstGood n old wanted next (suc a) y → AgainstGood n old wanted ((bit_and (get_or same a 0) (bit_or one next) * 2) % 2 ^ 64) a y
  against_next one next o g zero h p q t = absurd (omega arith)
  against_next one next o g (suc zero) h p q t =
      let f = t 0 0 (omega arith) in
      let e : get_or wanted y 0 ≡ get_or old a 0 = rw (add-zero y, add-zero a) at f in
      let w : y + 1 ≡ 1 + y = omega arith in
      rw w (has_higher (bit_and (get_or same a 0) (bit_or one next)) 1 y (omega (arith, pair.few)) (has_both _ _ y (here 1 p q h e) (has_first one next y o)))
  against_next one next o g (suc (suc s)) h p q t =
      let u : Against old wanted (suc a) (suc s) y = λ i j l.
      let v : a + suc j ≡ suc a + j = omega arith in
      let r = t i (suc j) (omega arith) in
      rw v at r
      in
      let f = t (suc s) 0 (omega arith) in
      let e : get_or wanted (y + suc s) 0 ≡ get_or old a 0 = rw (add-zero a) at f in
      let m : Has (get_or same a 0) (y + suc s) = sames a (y + suc s) (omega (arith, pair.olds)) (omega (arith, pair.wanteds)) e in
      let w : y + suc (suc s) ≡ 1 + (y + suc s) = omega arith in
      rw w (has_higher (bit_and (get_or same a 0) (bit_or one next)) 1 (y + suc s) (omega (arith, pair.few)) (has_both _ _ (y + suc s) m (has_second one next (y + suc s) (g (suc s) (omega arith) (omega arith) (omega arith) u))))

-- ---- the tables, from the last place up

-- Place i is put, those behind it were good.
module _ (G : (word a y : ℕ) → Type 0) (table : List ℕ) (i r : ℕ) (room : i < length table) where
  pub put_good : ((a y : ℕ) → y < 49 → suc i ≤ a * 49 + y → G (get_or table (a * 49 + y) 0) a y) → ((a y : ℕ) → y < 49 → a * 49 + y ≡ i → G r a y) →
      (a y : ℕ) → y < 49 → i ≤ a * 49 + y → G (get_or (set table i r) (a * 49 + y) 0) a y
  put_good behind this a y l h = by (ℕ_discrete (a * 49 + y) i)
    where
      by : Dec (a * 49 + y ≡ i) → G (get_or (set table i r) (a * 49 + y) 0) a y
      by (yes e) = rw (e, get_or-set_same table i r 0 room) (this a y l e)
      by (no d) = rw (get_or-set_other table i (a * 49 + y) r 0 d) (behind a y l (omega arith))

-- Row and column of a place.
pub row_of : (a y i : ℕ) → y < 49 → a * 49 + y ≡ i → i / 49 ≡ a
row_of a y i l e = omega arith

pub column_of : (a y i : ℕ) → y < 49 → a * 49 + y ≡ i → i % 49 ≡ y
column_of a y i l e = omega arith

-- One place more of those that hold the stop.
pub one_more : (wanted : List ℕ) (stop places new z : ℕ) → ((x : ℕ) → x < z → get_or wanted x 0 ≡ stop → Has places x) → (get_or wanted z 0 ≡ stop → Has new z) →
    (x : ℕ) → x < z + 1 → get_or wanted x 0 ≡ stop → Has (bit_or places new) x
one_more wanted stop places new z old this x l e = by (ℕ_discrete x z)
  where
    by : Dec (x ≡ z) → Has (bit_or places new) x
    by (yes q) = has_second places new x (rw q (this (rw q at e)))
    by (no d) = has_first places new x (old x (omega arith) e)
