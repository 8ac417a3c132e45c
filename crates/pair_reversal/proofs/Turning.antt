-- Turning a part of a route: in place, and back again. Assumes nothing.
use mathlib.Core.Path.{◌≡◌, refl, ap, ◌∙◌}
use mathlib.Core.List.{List, [], ◌∷◌, ◌++◌, append_assoc, reverse, reverse-cons, reverse-reverse}
use Prim.Native.Nat.{ℕ, zero, suc, ◌+◌, ◌-◌, ◌≤◌, ◌<◌}
use native.Mathlib.Omega.{arith}
use native.Mathlib.Nat.{le_of_suc-le-suc}
use native.Mathlib.Numerals.{add-one}
use lib.ListN.{length, take, drop, length-append, length-reverse, take-append-drop}
use lib.Seq.{length-take-le, length-slice, slice, take_at, drop_at, drop-drop}
use Rattle.theory.specs.Moves.{total}
use Rattle.theory.proofs.Moves.{total_append}
use Rattle.theory.proofs.Stops.{as_many}
use Rattle.pair_reversal.specs.Reversal.{turned}

-- ---- of the whole route

-- As code lends the part, with `end` for j + 1.
pub lent_part : (i end : ℕ) (r : List ℕ) → i ≤ end → take (end - i) (drop i r) ≡ slice i end r
lent_part zero end r h = let e : end - 0 ≡ end = omega arith in ap (λ (m : ℕ). take m r) e
lent_part (suc i) zero r h = absurd (omega arith)
lent_part (suc i) (suc end) [] h = lib.Seq.take-nil (suc end - suc i)
lent_part (suc i) (suc end) (x ∷ r) h = let e : suc end - suc i ≡ end - i = omega arith in ap (λ (m : ℕ). take m (drop i r)) e ∙ lent_part i end r (le_of_suc-le-suc h)

-- Before i, from i to j, and from there on.
parts : (i end : ℕ) (r : List ℕ) → i ≤ end → take i r ++ (slice i end r ++ drop end r) ≡ r
parts zero end r h = take-append-drop end r
parts (suc i) zero r h = absurd (omega arith)
parts (suc i) (suc end) [] h = refl
parts (suc i) (suc end) (x ∷ r) h = ap (λ (l : List ℕ). x ∷ l) (parts i end r (le_of_suc-le-suc h))

-- A turn of a middle, by its parts.
turned_of : (front middle back : List ℕ) (i j : ℕ) → length front ≡ i → length (front ++ middle) ≡ suc j → turned i j (front ++ (middle ++ back)) ≡ front ++ (reverse middle ++ back)
unfolding turned
turned_of front middle back i j f m =
    rw (take_at front (middle ++ back) i f, ← (append_assoc front middle back), take_at (front ++ middle) back (suc j) m, drop_at (front ++ middle) back (suc j) m, drop_at front middle i f)

module _ (i j : ℕ) (r : List ℕ) (rising : i ≤ j) (inside : j < length r) where
  -- "Turn back": a turn made twice is none.
  pub turned_back : turned i j (turned i j r) ≡ r
  unfolding turned
  turned_back =
      let middle : List ℕ = slice i (suc j) r in
      let front_length : length (take i r) ≡ i = length-take-le i r (omega arith) in
      let middle_length : length (reverse middle) ≡ suc j - i = length-reverse middle ∙ length-slice i (suc j) r (omega arith) in
      turned_of (take i r) (reverse middle) (drop (suc j) r) i j front_length (length-append (take i r) (reverse middle) ∙ omega (arith, front_length, middle_length))
      ∙ rw (reverse-reverse middle) (parts i (suc j) r (omega arith))

  -- As code leaves the route, with the lent part reversed.
  pub turned_lent : {part : List ℕ} → part ≡ reverse (take (j + 1 - i) (drop i r)) → take i r ++ (part ++ drop (j + 1 - i) (drop i r)) ≡ turned i j r
  unfolding turned
  turned_lent e =
      let end : i + (j + 1 - i) ≡ suc j = omega arith in
      rw (e, drop-drop (j + 1 - i) i r, end, add-one j, lent_part i (suc j) r (omega arith))

total_reverse : (g : ℕ → ℕ) (l : List ℕ) → total g (reverse l) ≡ total g l
unfolding total
total_reverse g [] = refl
total_reverse g (x ∷ l) = ap (total g) (reverse-cons x l) ∙ total_append g (reverse l) (x ∷ []) ∙ omega (arith, total_reverse g l)

-- Every sum over the stops is kept.
pub total_turned : (g : ℕ → ℕ) (i j : ℕ) (r : List ℕ) → i ≤ j → total g (turned i j r) ≡ total g r
unfolding turned
total_turned g i j r rising =
    let middle : List ℕ = slice i (suc j) r in
    total_append g (take i r) (reverse middle ++ drop (suc j) r)
    ∙ omega (arith, total_append g (reverse middle) (drop (suc j) r), total_reverse g middle, total_append g middle (drop (suc j) r), total_append g (take i r) (middle ++ drop (suc j) r), ap (total g) (parts i (suc j) r (omega arith)))

-- "Turn back", as code leaves the route.
pub turned_again : (i j : ℕ) (r : List ℕ) {once part : List ℕ} → i ≤ j → j < length r → once ≡ turned i j r → part ≡ reverse (take (j + 1 - i) (drop i once)) →
    take i once ++ (part ++ drop (j + 1 - i) (drop i once)) ≡ r
turned_again i j r {once} rising inside e p =
    let many : length once ≡ length r = as_many r once (λ g. ap (total g) e ∙ total_turned g i j r rising) in
    turned_lent i j once rising (omega (arith, many)) p ∙ ap (turned i j) e ∙ turned_back i j r rising inside
