-- What a turn of the enumeration reads and writes: the pattern at an index. Assumes nothing.
use mathlib.Core.Path.{◌≡◌, sym, ap, ◌∙◌}
use mathlib.Core.List.{List, [], ◌∷◌, ◌++◌, flatten}
use Prim.Native.Nat.{ℕ, zero, suc, ◌+◌, ◌-◌, ◌*◌, ◌/◌, ◌%◌, ◌^◌, ◌≤◌, ◌<◌}
use native.Mathlib.Numerals.{add-one}
use native.Mathlib.Nat.{suc-mul, mul-le-mul_right, div-lt_iff_lt-mul}
use native.Mathlib.Omega.{arith}
use lib.ListN.{length, get_or, take, drop, set, length-append, take-append-drop}
use lib.Seq.{sets}
use lib.Pow.{pow_pos}
use Rattle.theory.specs.Moves.{Pattern, patterns, factorial}
use Rattle.theory.proofs.Index.{pattern_at}
use Rattle.theory.proofs.Stores.{sets_append}
use Rattle.patterns.specs.Enumeration.{no_pattern, pattern}
use Rattle.patterns.specs.Turn.{middle_orders, Ready}
use Rattle.patterns.proofs.Strides.{length_flatten, row_at}
use Rattle.patterns.proofs.Counts.{each_middle, count_middle, count_patterns}

-- `pattern_at` of the theory, for k cuts: the order of the row at (index + 1) / 2 ^ (k - 1), the mask of the rest.
closed : (k index : ℕ) → 0 < k → index < length (patterns k) →
    pattern k index ≡ record { order = 0 ∷ (get_or (middle_orders k) ((index + 1) / 2 ^ (k - 1)) [] ++ (k ∷ [])); mask = 2 * ((index + 1) % 2 ^ (k - 1)) }
closed zero index h l = absurd (omega arith)
closed (suc m) index h l = let e : suc m - 1 ≡ m = omega arith in rw (e, add-one index) (pattern_at m index no_pattern l)

-- A turn, with r for the number of reversals.
module _ (k index r : ℕ) (permutations orders₀ masks₀ : List ℕ) (ready : Ready k index permutations orders₀ masks₀) (er : r ≡ 2 ^ (k - 1)) where
  pub some_reversal : 0 < r
  some_reversal = rw er (pow_pos (k - 1))

  abbrev rest : List ℕ
  rest = drop (length (flatten (middle_orders k))) permutations

  parts : permutations ≡ flatten (middle_orders k) ++ rest
  parts = sym (take-append-drop (length (flatten (middle_orders k))) permutations) ∙ ap (λ (l : List ℕ). l ++ rest) ready.permuted

  is : pattern k index ≡ record { order = 0 ∷ (get_or (middle_orders k) ((index + 1) / 2 ^ (k - 1)) [] ++ (k ∷ [])); mask = 2 * ((index + 1) % 2 ^ (k - 1)) }
  is = closed k index (omega (arith, ready.listed.cuts.least)) ready.listed.known

  row_known : (index + 1) / r < length (middle_orders k)
  row_known =
      let n : index + 1 < factorial (k - 1) * 2 ^ (k - 1) = omega (arith, ready.listed.known, count_patterns k ready.listed.cuts) in
      rw (er, count_middle k) ((div-lt_iff_lt-mul (pow_pos (k - 1))).1 n)

  pub row_room : (index + 1) / r * (k - 1) + (k - 1) ≤ length permutations
  row_room =
      omega (
        arith,
        suc-mul ((index + 1) / r) (k - 1),
        mul-le-mul_right (k - 1) row_known,
        length_flatten (k - 1) (middle_orders k) (each_middle k),
        ap length parts,
        length-append (flatten (middle_orders k)) rest,
      )

  row_is : take (k - 1) (drop ((index + 1) / r * (k - 1)) permutations) ≡ get_or (middle_orders k) ((index + 1) / r) []
  row_is = rw parts (row_at (k - 1) (middle_orders k) (each_middle k) ((index + 1) / r) row_known rest)

  pub order_is : 0 ∷ (take ((index + 1) / r * (k - 1) + (k - 1) - (index + 1) / r * (k - 1)) (drop ((index + 1) / r * (k - 1)) permutations) ++ (k ∷ [])) ≡ (pattern k index).order
  order_is =
      let w : (index + 1) / r * (k - 1) + (k - 1) - (index + 1) / r * (k - 1) ≡ k - 1 = omega arith in
      rw (w, row_is, er) (sym (ap (λ (p : Pattern). p.order) is))

  pub mask_is : 2 * ((index + 1) % r) ≡ (pattern k index).mask
  mask_is = rw er (sym (ap (λ (p : Pattern). p.mask) is))

-- An order: segment 0, the middle ones, segment k.
pub stored_order : (out middle : List ℕ) (at k : ℕ) → length middle + 1 ≡ k →
    set (sets (set out at 0) (at + 1) middle) (at + k) k ≡ sets out at (0 ∷ (middle ++ (k ∷ [])))
stored_order out middle at k h =
    let e : at + k ≡ suc at + length middle = omega arith in
    rw (add-one at) (ap (λ (i : ℕ). set (sets (set out at 0) (suc at) middle) i k) e ∙ sym (sets_append (set out at 0) (suc at) middle (k ∷ [])))
