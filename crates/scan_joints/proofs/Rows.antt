-- A row of states, read, and a store into a list of small numbers. Assumes nothing.
use mathlib.Core.Path.{◌≡◌, ◌∙◌}
use mathlib.Core.Logic.{◌≢◌}
use mathlib.Core.List.{List, [], ◌∷◌}
use Prim.Native.Nat.{ℕ, suc, ◌+◌, ◌*◌, ◌≤◌, ◌<◌, ◌^◌}
use native.Mathlib.Omega.{arith}
use native.Mathlib.Numerals.{add-one}
use native.Mathlib.Decide.{ℕ_discrete, dec_lt}
use lib.ListN.{length, get_or, set, get_or-eq_default, length-set}
use lib.Seq.{slice, slice-cons, slice_empty, set_out, get_or-set_same, get_or-set_other}
use Rattle.scan_joints.specs.States.{row}
use Rattle.scan_joints.specs.JointTable.{chain, Padded}

-- A store keeps every entry small.
pub set_small : (l : List ℕ) (j v c bound : ℕ) → v ≤ bound → (c ≢ j → get_or l c 0 ≤ bound) → get_or (set l j v) c 0 ≤ bound
set_small l j v c bound h k = by (ℕ_discrete c j) (dec_lt j (length l))
  where
    by : Dec (c ≡ j) → Dec (j < length l) → get_or (set l j v) c 0 ≤ bound
    by (no n) d = rw (get_or-set_other l j c v 0 n) (k n)
    by (yes e) (yes i) = rw (e, get_or-set_same l j v 0 i) h
    by (yes e) (no i) = rw (e, set_out l j v (omega arith), get_or-eq_default l 0 {n = j} (omega arith)) (omega arith)

-- A row read state by state.
pub row_read : (rows : List ℕ) (at : ℕ) → at + 4 ≤ length rows → slice at (at + 4) rows ≡ get_or rows at 0 ∷ get_or rows (at + 1) 0 ∷ get_or rows (at + 2) 0 ∷ get_or rows (at + 3) 0 ∷ []
row_read rows at h =
    let two : at + 2 ≡ suc (suc at) = omega arith in
    let three : at + 3 ≡ suc (suc (suc at)) = omega arith in
    let four : at + 4 ≡ suc (suc (suc (suc at))) = omega arith in
    let n : suc (suc (suc (suc at))) ≤ length rows = omega arith in
    rw (
      add-one at,
      two,
      three,
      four,
      slice-cons at (suc (suc (suc (suc at)))) rows 0 (omega arith) n,
      slice-cons (suc at) (suc (suc (suc (suc at)))) rows 0 (omega arith) n,
      slice-cons (suc (suc at)) (suc (suc (suc (suc at)))) rows 0 (omega arith) n,
      slice-cons (suc (suc (suc at))) (suc (suc (suc (suc at)))) rows 0 (omega arith) n,
      slice_empty (suc (suc (suc (suc at)))) rows,
    )

pub row_chain : (J rows : List ℕ) (i v : ℕ) {a b c d : ℕ} → length rows ≡ 1532 → i < 383 →
    a ≡ get_or rows (4 * i) 0 → b ≡ get_or rows (4 * i + 1) 0 → c ≡ get_or rows (4 * i + 2) 0 → d ≡ get_or rows (4 * i + 3) 0 →
    v ≡ chain J 9 (a ∷ b ∷ c ∷ d ∷ []) → v ≡ chain J 9 (row rows i)
row_chain J rows i v n h ea eb ec ed e = rw (row_read rows (4 * i) (omega arith), ← ea, ← eb, ← ec, ← ed) e

-- A cell stored in a joint table.
pub padded_set : (table : List ℕ) (a b v : ℕ) → Padded table → a ≢ 8 → b < 16 → v ≤ 2 ^ 40 → Padded (set table (16 * a + b) v)
padded_set table a b v p n h s =
    record {
      places = length-set table (16 * a + b) v ∙ p.places;
      padding = get_or-set_other table (16 * a + b) 136 v 0 (λ q. n (omega arith)) ∙ p.padding;
      small = λ c. set_small table (16 * a + b) v c (2 ^ 40) s (λ q. p.small c);
    }
