-- A candidate that turns one route into the other lays its middle segments from its first cut to its last. Assumes nothing.
use mathlib.Core.Path.{◌≡◌, refl, sym, ap, ◌∙◌}
use mathlib.Core.Bool.{Bool, true, false, cond}
use mathlib.Core.Logic.{inl, inr}
use mathlib.Core.List.{List, [], ◌∷◌, ◌++◌, flatten, append_assoc, Memᴰ}
use Prim.Native.Nat.{ℕ, zero, suc, ◌+◌, ◌-◌, ◌*◌, ◌≤◌, ◌<◌}
use native.Mathlib.Omega.{arith}
use native.Mathlib.Nat.{add-zero, zero-add, pow-succ'}
use native.Mathlib.Decide.{ℕ_discrete, dec_lt}
use lib.Dec.{leb, eqb}
use lib.ListN.{length, get_or, take, drop, length-append, length-drop, get_or-append}
use lib.Seq.{slice, length-slice, get_or-append-add, get_or-drop, get_or-take}
use borrow.Author.Tests.{eq-eqb, ne_eqb, le-leb, lt-leb}
use Rattle.theory.specs.Moves.{upfrom, total, Pattern, Rising}
use Rattle.theory.specs.Route.{segments, reverses, reverse_if, placed, joined, reconnected, count}
use Rattle.theory.proofs.Moves.{Shape, length_upfrom, total_ones}
use Rattle.theory.proofs.Orders.{in_range, count_other}
use Rattle.theory.proofs.Cuts.{rising_below}
use Rattle.theory.proofs.Delta.{length_reverse_if, joined_split, even_head, small_tail, straight}
use Rattle.std.proofs.lemmas.List.{get_or-reverse}
use Rattle.standing.specs.Places.{Has}
use Rattle.standing.specs.Standing.{Stands, TailSet}
use Rattle.prefixes.specs.Ways.{size_of, known_size, Laid, Way}
use Rattle.prefixes.proofs.Ways.{middle_filled, middle_within}

-- ---- parts of lists by their elements

part_at : (a b : ℕ) (l : List ℕ) (t : ℕ) → a + t < b → get_or (slice a b l) t 0 ≡ get_or l (a + t) 0
part_at a b l t h = get_or-drop a (take b l) t 0 ∙ get_or-take b l (a + t) 0 h

within_at : (front q back : List ℕ) (t : ℕ) → t < length q → get_or (front ++ (q ++ back)) (length front + t) 0 ≡ get_or q t 0
within_at front q back t h = get_or-append-add front (q ++ back) t 0 ∙ get_or-append q back 0 t h

segment_at : (from : ℕ) (cs r : List ℕ) (i : ℕ) → i < length cs → get_or (segments from cs r) i [] ≡ slice (get_or (from ∷ cs) i 0) (get_or cs i 0) r
unfolding segments
segment_at from [] r i h = absurd (omega arith)
segment_at from (c ∷ cs) r zero h = refl
segment_at from (c ∷ cs) r (suc i) h = segment_at c cs r i (omega arith)

middle_at : (cs r : List ℕ) (i : ℕ) → 1 ≤ i → i < length cs → get_or (segments 0 cs r) i [] ≡ slice (get_or cs (i - 1) 0) (get_or cs i 0) r
middle_at cs r zero l h = absurd (omega arith)
middle_at cs r (suc i) l h =
    let e : suc i - 1 ≡ i = omega arith in
    segment_at 0 cs r (suc i) h ∙ ap (λ (x : ℕ). slice (get_or cs x 0) (get_or cs (suc i) 0) r) (sym e)

last_at : (from : ℕ) (cs r : List ℕ) → get_or (segments from cs r) (length cs) [] ≡ drop (get_or (from ∷ cs) (length cs) 0) r
unfolding segments
last_at from [] r = refl
last_at from (c ∷ cs) r = last_at c cs r

-- A part of the old route, reversed or not, among the stops of the wanted one stands there.
stands_there : (old wanted front back : List ℕ) (a b : ℕ) (f : Bool) → a ≤ b → b ≤ length old → wanted ≡ front ++ (reverse_if f (slice a b old) ++ back) →
    Stands old wanted a (b - a) (length front)
unfolding reverse_if
stands_there old wanted front back a b false h l e =
    inl (λ i s. ap (λ w. get_or w (length front + i) 0) e ∙ within_at front (slice a b old) back i (omega (arith, length-slice a b old l)) ∙ part_at a b old i (omega arith))
stands_there old wanted front back a b true h l e =
    inr (λ i j s.
    let n = length-slice a b old l in
    let q = mathlib.Core.List.reverse (slice a b old) in
    let m : length q ≡ length (slice a b old) = length_reverse_if true (slice a b old) in
    let x : length (slice a b old) - 1 - i ≡ j = omega (arith, n, s) in
    ap (λ w. get_or w (length front + i) 0) e
    ∙ within_at front q back i (omega (arith, n, m, s))
    ∙ get_or-reverse (slice a b old) i 0 (omega (arith, n, s))
    ∙ ap (λ z. get_or (slice a b old) z 0) x
    ∙ part_at a b old j (omega arith))

-- ---- segment after segment

module _ (n k mask : ℕ) (old wanted cs : List ℕ) (olds : length old ≡ n) (wanteds : length wanted ≡ n) (many : length cs ≡ k) (rising : Rising 0 cs n) where
  pub laid_out : (o front back : List ℕ) → ((i : ℕ) → Memᴰ i o → (1 ≤ i) × (i < k)) → wanted ≡ front ++ (flatten (placed mask (segments 0 cs old) o) ++ back) →
      Laid n old wanted cs (length front) o (length front + length (flatten (placed mask (segments 0 cs old) o)))
  unfolding placed flatten
  laid_out [] front back within e = sym (add-zero (length front))
  laid_out (i ∷ o) front back within e =
      let w = within i (Memᴰ.head refl) in
      let filled = middle_filled n k cs many rising i w.0 w.1 in
      let below = middle_within n k cs many rising i w.0 w.1 in
      let seg : get_or (segments 0 cs old) i [] ≡ slice (get_or cs (i - 1) 0) (get_or cs i 0) old = middle_at cs old i w.0 (omega (arith, many)) in
      let q = reverse_if (reverses mask i) (get_or (segments 0 cs old) i []) in
      let rest = flatten (placed mask (segments 0 cs old) o) in
      let size : length q ≡ size_of cs i = length_reverse_if (reverses mask i) (get_or (segments 0 cs old) i []) ∙ ap length seg ∙ length-slice (get_or cs (i - 1) 0) (get_or cs i 0) old (omega (arith, below, olds)) in
      let e₁ : wanted ≡ front ++ (q ++ (rest ++ back)) = e ∙ ap (λ l. front ++ l) (append_assoc q rest back) in
      let e₂ : wanted ≡ (front ++ q) ++ (rest ++ back) = e₁ ∙ sym (append_assoc front q (rest ++ back)) in
      let total_size : length wanted ≡ length front + (length q + length (rest ++ back)) = ap length e₁ ∙ length-append front (q ++ (rest ++ back)) ∙ ap (λ x. length front + x) (length-append q (rest ++ back)) in
      let longer : length (front ++ q) ≡ length front + size_of cs i = length-append front q ∙ ap (λ x. length front + x) size in
      let whole : length front + size_of cs i + length rest ≡ length front + length (q ++ rest) = omega (arith, length-append q rest, size) in
      let s : wanted ≡ front ++ (reverse_if (reverses mask i) (slice (get_or cs (i - 1) 0) (get_or cs i 0) old) ++ (rest ++ back)) = rw seg at e₁ in
      let more = rw (longer, whole) at (laid_out o (front ++ q) back (λ x m. within x (Memᴰ.tail m)) e₂) in (
        stands_there old wanted front (rest ++ back) (get_or cs (i - 1) 0) (get_or cs i 0) (reverses mask i) (omega (arith, filled)) (omega (arith, below, olds)) s,
        omega (arith, total_size, wanteds, size),
        more,
      )

-- ---- the order of the middle segments

count_below : (x f n : ℕ) → x < f → count x (upfrom f n) ≡ 0
unfolding count total upfrom
count_below x f zero h = refl
count_below x f (suc n) h = rw (ne_eqb x f (λ e. omega arith)) (omega (arith, count_below x (suc f) n (omega arith)))

count_once : (x f n : ℕ) → count x (upfrom f n) ≤ 1
unfolding upfrom
count_once x f zero = unfold count total in omega arith
count_once x f (suc n) = by (ℕ_discrete x f) (count_once x (suc f) n)
  where
    by : Dec (x ≡ f) → count x (upfrom (suc f) n) ≤ 1 → count x (f ∷ upfrom (suc f) n) ≤ 1
    by (yes e) g = let z = count_below x (suc f) n (omega arith) in unfold count total in rw (eq-eqb x f e) (omega (arith, z))
    by (no d) g = rw (count_other x f (upfrom (suc f) n) d) g

one_or_none : (b : Bool) → cond b 1 0 ≤ 1
one_or_none true = omega arith
one_or_none false = omega arith

no_more : (j f n : ℕ) → total (λ i. cond (leb j i) 1 0) (upfrom f n) ≤ n
unfolding total upfrom
no_more j f zero = omega arith
no_more j f (suc n) = omega (arith, one_or_none (leb j f), no_more j (suc f) n)

strangers : (j f n : ℕ) → total (λ i. cond (leb j i) 1 0) (upfrom f n) ≤ f + n - j
unfolding total upfrom
strangers j f zero = omega arith
strangers j f (suc n) = by (dec_lt f j) (strangers j (suc f) n)
  where
    by : Dec (f < j) → total (λ i. cond (leb j i) 1 0) (upfrom (suc f) n) ≤ suc f + n - j → cond (leb j f) 1 0 + total (λ i. cond (leb j i) 1 0) (upfrom (suc f) n) ≤ f + suc n - j
    by (yes l) g = rw (lt-leb j f l) (omega (arith, g))
    by (no l) g = rw (le-leb j f (omega arith)) (omega (arith, no_more j (suc f) n))

-- The known ones among them reach from the first cut to the last known one.
none_known : (cs : List ℕ) (j f n : ℕ) → j ≤ f → total (known_size j cs) (upfrom f n) ≡ 0
unfolding total upfrom
none_known cs j f zero h = refl
none_known cs j f (suc n) h = rw (le-leb j f h) (zero-add (total (known_size j cs) (upfrom (suc f) n)) ∙ none_known cs j (suc f) n (omega arith))

module _ (n k : ℕ) (cs : List ℕ) (many : length cs ≡ k) (rising : Rising 0 cs n) (j : ℕ) (within : j ≤ k) where
  sizes_from : (f c : ℕ) → 1 ≤ f → f ≤ j → j ≤ f + c → total (known_size j cs) (upfrom f c) + get_or cs (f - 1) 0 ≡ get_or cs (j - 1) 0
  unfolding upfrom total
  sizes_from f zero a b d = let e : f ≡ j = omega arith in rw e (zero-add (get_or cs (j - 1) 0))
  sizes_from f (suc c) a b d = by (dec_lt f j) (sizes_from (suc f) c)
    where
      by : Dec (f < j) → (1 ≤ suc f → suc f ≤ j → j ≤ suc f + c → total (known_size j cs) (upfrom (suc f) c) + get_or cs (suc f - 1) 0 ≡ get_or cs (j - 1) 0) →
          known_size j cs f + total (known_size j cs) (upfrom (suc f) c) + get_or cs (f - 1) 0 ≡ get_or cs (j - 1) 0
      by (yes l) later =
          let e : suc f - 1 ≡ f = omega arith in
          let r : total (known_size j cs) (upfrom (suc f) c) + get_or cs f 0 ≡ get_or cs (j - 1) 0 = rw e at (later (omega arith) l (omega arith)) in
          let filled = middle_filled n k cs many rising f a (omega arith) in
          let size : known_size j cs f ≡ get_or cs f 0 - get_or cs (f - 1) 0 = rw (lt-leb j f l) refl in
          omega (arith, r, filled, size)
      by (no l) later =
          let e : f ≡ j = omega arith in
          let size : known_size j cs f ≡ 0 = rw (le-leb j f (omega arith)) refl in
          let z = none_known cs j (suc f) c (omega arith) in
          let q : get_or cs (f - 1) 0 ≡ get_or cs (j - 1) 0 = ap (λ (x : ℕ). get_or cs (x - 1) 0) e in
          omega (arith, size, z, q)

-- The middle segments of a candidate that does it, laid from its first cut on.
module _ (m n j tail : ℕ) (old wanted cs : List ℕ) (p : Pattern) (shape : Shape m p) (olds : length old ≡ n) (wanteds : length wanted ≡ n) (many : length cs ≡ suc m)
    (rising : Rising 0 cs n) (does : reconnected (record { cuts = cs; pattern = p }) old ≡ wanted) (tails : TailSet n old wanted tail) where
  ps : List (List ℕ)
  ps = segments 0 cs old

  front : List ℕ
  front = get_or ps 0 []

  back : List ℕ
  back = get_or ps (suc m) []

  middle : List ℕ
  middle = flatten (placed (2 * shape.bits) ps shape.middle)

  is_split : wanted ≡ front ++ (middle ++ back)
  unfolding reconnected front back middle ps
  is_split =
      sym does
      ∙ ap (λ q. joined q (segments 0 cs old)) shape.is
      ∙ joined_split shape.middle (suc m) (2 * shape.bits) (segments 0 cs old) (even_head shape.bits) (small_tail (2 * shape.bits) (suc m) (omega (arith, shape.few, pow-succ' 2 m)))

  first_below : get_or cs 0 0 ≤ n
  first_below = rising_below n 0 cs 0 rising (omega (arith, many))

  front_is : front ≡ slice 0 (get_or cs 0 0) old
  unfolding front ps
  front_is = segment_at 0 cs old 0 (omega (arith, many))

  first_size : length front ≡ get_or cs 0 0
  first_size = ap length front_is ∙ length-slice 0 (get_or cs 0 0) old (omega (arith, first_below, olds)) ∙ omega arith

  back_is : back ≡ drop (get_or cs m 0) old
  unfolding back ps
  back_is = ap (λ x. get_or (segments 0 cs old) x []) (sym many) ∙ last_at 0 cs old ∙ ap (λ x. drop (get_or (0 ∷ cs) x 0) old) many

  pub head_same : (i : ℕ) → i < get_or cs 0 0 → get_or wanted i 0 ≡ get_or old i 0
  head_same i h =
      ap (λ w. get_or w i 0) is_split
      ∙ get_or-append front (middle ++ back) 0 i (omega (arith, first_size))
      ∙ ap (λ w. get_or w i 0) front_is
      ∙ part_at 0 (get_or cs 0 0) old i (omega arith)
      ∙ ap (λ x. get_or old x 0) (zero-add i)

  placed_end : ℕ
  placed_end = get_or cs 0 0 + length middle

  two_parts : wanted ≡ (front ++ middle) ++ back
  two_parts = is_split ∙ sym (append_assoc front middle back)

  two_sizes : length (front ++ middle) ≡ placed_end
  unfolding placed_end
  two_sizes = length-append front middle ∙ ap (λ x. x + length middle) first_size

  end_is : placed_end ≡ get_or cs m 0
  end_is =
      let below = rising_below n 0 cs m rising (omega (arith, many)) in
      let b : length back ≡ length old - get_or cs m 0 = ap length back_is ∙ length-drop (get_or cs m 0) old in
      omega (arith, ap length two_parts, length-append (front ++ middle) back, two_sizes, b, olds, wanteds, below)

  tail_same : (i : ℕ) → placed_end ≤ i → i < n → get_or wanted i 0 ≡ get_or old i 0
  tail_same i l h =
      let t = i - placed_end in
      let e : i ≡ length (front ++ middle) + t = omega (arith, two_sizes) in
      let d : get_or cs m 0 + t ≡ i = omega (arith, end_is) in
      ap (λ w. get_or w i 0) two_parts
      ∙ ap (λ x. get_or ((front ++ middle) ++ back) x 0) e
      ∙ get_or-append-add (front ++ middle) back t 0
      ∙ ap (λ w. get_or w t 0) back_is
      ∙ get_or-drop (get_or cs m 0) old t 0
      ∙ ap (λ x. get_or old x 0) d

  inside : (i : ℕ) → Memᴰ i shape.middle → (1 ≤ i) × (i < suc m)
  inside i h = let r = in_range shape.middle 1 m shape.once i h in (r.0, omega (arith, r.1))

  once_each : (x : ℕ) → count x shape.middle ≤ 1
  unfolding count
  once_each x = let c = count_once x 1 m in let e = shape.once (λ y. cond (eqb x y) 1 0) in rw e c

  laid_middle : Laid n old wanted cs (get_or cs 0 0) shape.middle placed_end
  unfolding placed_end middle front back ps
  laid_middle = rw first_size at (laid_out n (suc m) (2 * shape.bits) old wanted cs olds wanteds many rising shape.middle front back inside is_split)

  -- The goal holds each place that lies before a place of the tail by the stops of the known ones.
  pub way_of : (goal : ℕ) → 1 ≤ j → j ≤ suc m → ((g : ℕ) → Has tail (get_or cs (j - 1) 0 - get_or cs 0 0 + g) → Has goal g) →
      Way n (suc m) j old wanted cs 0 (suc m - j) m goal (get_or cs 0 0) shape.middle
  way_of goal some_known few lower =
      record {
        many = omega (arith, total_ones shape.middle, shape.once (λ x. 1), total_ones (upfrom 1 m), length_upfrom 1 m);
        within = inside;
        apart = once_each;
        free = λ i h l. straight i;
        strange = omega (arith, shape.once (λ i. cond (leb j i) 1 0), strangers j 1 m);
        end = placed_end;
        laid = laid_middle;
        ends = λ g e.
            let sizes = sizes_from n (suc m) cs many rising j few 1 m (omega arith) some_known (omega arith) in
            let z : get_or cs (j - 1) 0 - get_or cs 0 0 + g ≡ placed_end = omega (arith, e, sizes, shape.once (known_size j cs)) in
            lower g (rw z (tails.marked placed_end (omega (arith, end_is, rising_below n 0 cs m rising (omega (arith, many)))) tail_same));
      }
