-- A move's delta: head and tail stay, and the ways through the middle segments, as they stood and as they stand, differ as the lengths do. Assumes nothing.
use mathlib.Core.Path.{◌≡◌, refl, sym, ap, ap₂, ◌∙◌}
use mathlib.Core.Bool.{Bool, true, false, cond}
use mathlib.Core.List.{List, [], ◌∷◌, ◌++◌, map, map-append, flatten, append_assoc, append-nil, Memᴰ}
use Prim.Native.Nat.{ℕ, zero, suc, ◌+◌, ◌*◌, ◌/◌, ◌%◌, ◌^◌, ◌≤◌, ◌<◌}
use native.Mathlib.Omega.{arith}
use native.Mathlib.Nat.{add-zero, add-suc, suc-add, zero-add, zero-div, div-eq_of_lt, pow-suc}
use lib.ListN.{length, get_or, length-reverse, get_or-append}
use lib.Seq.{slice}
use lib.Dec.{ltb}
use native.Mathlib.Decide.{dec_lt}
use borrow.Author.Tests.{ne_eqb, lt-ltb, le-ltb}
use Rattle.theory.specs.Moves.{upfrom, total, Pattern, Rising}
use Rattle.theory.specs.Route.{segments, reverses, reverse_if, placed, joined, reconnected, Problem, path, tour_length}
use Rattle.theory.specs.Costs.{last_of, first_of, inner, forward, backward, through}
use Rattle.theory.proofs.Route.{flatten_segments, length_segments, length_segment}
use Rattle.theory.proofs.Costs.{delta, Full, none, more, through_path, forward_inner, backward_inner}
use Rattle.theory.proofs.Orders.{in_range}
use Rattle.theory.proofs.Moves.{Shape}

pub flatten_append : (xs ys : List (List ℕ)) → flatten (xs ++ ys) ≡ flatten xs ++ flatten ys
unfolding flatten
flatten_append [] ys = refl
flatten_append (x ∷ xs) ys = rw (flatten_append xs ys, append_assoc x (flatten xs) (flatten ys))

pub placed_append : (mask : ℕ) (ps : List (List ℕ)) (xs ys : List ℕ) → placed mask ps (xs ++ ys) ≡ placed mask ps xs ++ placed mask ps ys
unfolding placed
placed_append mask ps [] ys = refl
placed_append mask ps (x ∷ xs) ys = ap (λ l. reverse_if (reverses mask x) (get_or ps x []) ∷ l) (placed_append mask ps xs ys)

-- With the first and the last segment in place and unturned.
pub joined_split : (o : List ℕ) (k mask : ℕ) (ps : List (List ℕ)) → reverses mask 0 ≡ false → reverses mask k ≡ false →
    joined (record { order = 0 ∷ (o ++ (k ∷ [])); mask = mask }) ps ≡ get_or ps 0 [] ++ (flatten (placed mask ps o) ++ get_or ps k [])
unfolding joined placed reverse_if flatten
joined_split o k mask ps h t =
    rw (h, map-append (λ i. reverse_if (reverses mask i) (get_or ps i [])) o (k ∷ []), flatten_append (map (λ i. reverse_if (reverses mask i) (get_or ps i [])) o), t, append-nil (get_or ps k []))

-- The first segment of an even mask, and the last of a small one, are not reversed; nor is any of mask 0.
pub even_head : (t : ℕ) → reverses (2 * t) 0 ≡ false
unfolding reverses
even_head t = ne_eqb ((2 * t / 1) % 2) 1 (λ (e : (2 * t / 1) % 2 ≡ 1). omega arith)

pub small_tail : (x k : ℕ) → x < 2 ^ k → reverses x k ≡ false
unfolding reverses
small_tail x k h = rw (div-eq_of_lt h)

pub straight : (i : ℕ) → reverses 0 i ≡ false
unfolding reverses
straight i = rw zero-div

-- The segments numbered in turn, as they stand.
pub nth_all : (qs ps : List (List ℕ)) (f : ℕ) → ((i : ℕ) → get_or qs (f + i) [] ≡ get_or ps i []) → placed 0 qs (upfrom f (length ps)) ≡ ps
unfolding placed upfrom reverse_if
nth_all qs [] f h = refl
nth_all qs (p ∷ ps) f h =
    rw (straight f) (ap₂ ◌∷◌ (ap (λ n. get_or qs n []) (sym (add-zero f)) ∙ h 0) (nth_all qs ps (suc f) (λ i. ap (λ n. get_or qs n []) (suc-add f i ∙ sym (add-suc f i)) ∙ h (suc i))))

pub upfrom_snoc : (f n e : ℕ) → f + n ≡ e → upfrom f n ++ (e ∷ []) ≡ upfrom f (suc n)
unfolding upfrom
upfrom_snoc f zero e h = ap (λ x. x ∷ []) (omega arith)
upfrom_snoc f (suc n) e h = ap (λ l. f ∷ l) (upfrom_snoc (suc f) n e (omega arith))

-- The pattern that changes nothing.
pub changes_nothing : (m : ℕ) (ps : List (List ℕ)) → length ps ≡ suc (suc m) → joined (record { order = 0 ∷ (upfrom 1 m ++ (suc m ∷ [])); mask = 0 }) ps ≡ flatten ps
unfolding joined placed upfrom
changes_nothing m ps h =
    ap (λ o. flatten (placed 0 ps (0 ∷ o))) (upfrom_snoc 1 m (suc m) (omega arith))
    ∙ ap (λ n. flatten (placed 0 ps (upfrom 0 n))) (sym h)
    ∙ ap flatten (nth_all ps ps 0 (λ i. ap (λ n. get_or ps n []) (zero-add i)))

module _ (P : Problem) (cs r : List ℕ) (n m : ℕ) (many : length cs ≡ suc m) (rising : Rising 0 cs n) where
  abbrev pub head : List ℕ
  head = get_or (segments 0 cs r) 0 []

  abbrev pub tail : List ℕ
  tail = get_or (segments 0 cs r) (suc m) []

  split : r ≡ head ++ (flatten (placed 0 (segments 0 cs r) (upfrom 1 m)) ++ tail)
  split =
      sym (flatten_segments n 0 0 cs r (omega arith) rising)
      ∙ sym (changes_nothing m (segments 0 cs r) (length_segments 0 cs r ∙ ap suc many))
      ∙ joined_split (upfrom 1 m) (suc m) 0 (segments 0 cs r) (straight 0) (straight (suc m))

  pub move_delta : (o : List ℕ) (mask : ℕ) → reverses mask 0 ≡ false → reverses mask (suc m) ≡ false →
      tour_length P (reconnected (record { cuts = cs; pattern = record { order = 0 ∷ (o ++ (suc m ∷ [])); mask = mask } }) r)
      + path P.leg (last_of P.depot head) (flatten (placed 0 (segments 0 cs r) (upfrom 1 m)) ++ (first_of tail P.end ∷ []))
      ≡ tour_length P r + path P.leg (last_of P.depot head) (flatten (placed mask (segments 0 cs r) o) ++ (first_of tail P.end ∷ []))
  unfolding reconnected
  move_delta o mask h t =
      omega (
        arith,
        ap (tour_length P) split,
        ap (tour_length P) (joined_split o (suc m) mask (segments 0 cs r) h t),
        delta P head (flatten (placed 0 (segments 0 cs r) (upfrom 1 m))) (flatten (placed mask (segments 0 cs r) o)) tail,
      )

-- ---- part by part, as code adds it up

full_cons : (t : List ℕ) (ts : List (List ℕ)) → 0 < length t → Full ts → Full (t ∷ ts)
full_cons [] ts h f = absurd (omega arith)
full_cons (x ∷ t) ts h f = more f

pub length_reverse_if : (b : Bool) (l : List ℕ) → length (reverse_if b l) ≡ length l
unfolding reverse_if
length_reverse_if true l = length-reverse l
length_reverse_if false l = refl

full_placed : (mask : ℕ) (ps : List (List ℕ)) (o : List ℕ) → ((i : ℕ) → Memᴰ i o → 0 < length (get_or ps i [])) → Full (placed mask ps o)
unfolding placed
full_placed mask ps [] h = none
full_placed mask ps (i ∷ o) h =
    full_cons (reverse_if (reverses mask i) (get_or ps i [])) (placed mask ps o) (rw length_reverse_if (h i (Memᴰ.head refl))) (full_placed mask ps o (λ j k. h j (Memᴰ.tail k)))

-- A middle segment is not empty.
pub gap : (n low : ℕ) (cs : List ℕ) (i : ℕ) → Rising low cs n → suc i < length cs → get_or cs i 0 < get_or cs (suc i) 0
gap n low [] i t h = absurd (omega arith)
gap n low (c ∷ []) i t h = absurd (omega arith)
gap n low (c ∷ d ∷ cs) zero t h = t.2.0
gap n low (c ∷ d ∷ cs) (suc i) t h = gap n (suc c) (d ∷ cs) i t.2 (omega arith)

module _ (P : Problem) (cs r : List ℕ) (m : ℕ) (many : length cs ≡ suc m) (rising : Rising 0 cs (length r)) where
  filled : (i : ℕ) → (1 ≤ i) × (i < 1 + m) → 0 < length (get_or (segments 0 cs r) i [])
  filled zero h = absurd (omega arith)
  filled (suc i) h =
      rw (length_segment (length r) 0 0 cs r (suc i) refl rising, get_or-append cs (length r ∷ []) 0 (suc i) (omega arith))
      (let g = gap (length r) 0 cs i rising (omega arith) in omega arith)

  -- The lengths after and before differ as what the two middles add up to.
  pub delta_through : (o : List ℕ) (mask : ℕ) → ((g : ℕ → ℕ) → total g o ≡ total g (upfrom 1 m)) → reverses mask 0 ≡ false → reverses mask (suc m) ≡ false →
      tour_length P (reconnected (record { cuts = cs; pattern = record { order = 0 ∷ (o ++ (suc m ∷ [])); mask = mask } }) r)
      + through P.leg (last_of P.depot (get_or (segments 0 cs r) 0 [])) (placed 0 (segments 0 cs r) (upfrom 1 m)) (first_of (get_or (segments 0 cs r) (suc m) []) P.end)
      ≡ tour_length P r
      + through P.leg (last_of P.depot (get_or (segments 0 cs r) 0 [])) (placed mask (segments 0 cs r) o) (first_of (get_or (segments 0 cs r) (suc m) []) P.end)
  delta_through o mask s h t =
      omega (
        arith,
        through_path P.leg (last_of P.depot (get_or (segments 0 cs r) 0 [])) (placed 0 (segments 0 cs r) (upfrom 1 m)) (first_of (get_or (segments 0 cs r) (suc m) []) P.end)
            (full_placed 0 (segments 0 cs r) (upfrom 1 m) (λ i j. filled i (in_range (upfrom 1 m) 1 m (λ g. refl) i j))),
        through_path P.leg (last_of P.depot (get_or (segments 0 cs r) 0 [])) (placed mask (segments 0 cs r) o) (first_of (get_or (segments 0 cs r) (suc m) []) P.end)
            (full_placed mask (segments 0 cs r) o (λ i j. filled i (in_range o 1 m s i j))),
        move_delta P cs r (length r) m many rising o mask h t,
      )

-- The legs inside a placed part, from the running sums.
pub placed_inner : (d : ℕ → ℕ → ℕ) (r : List ℕ) (b : Bool) (s t : ℕ) → s ≤ t → t < length r →
    cond b (backward d r s) (forward d r s) + inner d (reverse_if b (slice s (suc t) r)) ≡ cond b (backward d r t) (forward d r t)
unfolding reverse_if
placed_inner d r true s t h k = backward_inner d r s t h k
placed_inner d r false s t h k = forward_inner d r s t h k

-- ---- the comparison that the scan makes

ltb_shift : (a b x y : ℕ) → a + x ≡ b + y → ltb a b ≡ ltb y x
ltb_shift a b x y e = by (dec_lt y x)
  where
    by : Dec (y < x) → ltb a b ≡ ltb y x
    by (yes h) = lt-ltb a b (omega arith) ∙ sym (lt-ltb y x h)
    by (no h) = le-ltb a b (omega arith) ∙ sym (le-ltb y x (omega arith))

-- For a pattern of document 01: the route gets shorter exactly when what the placed middle adds up to is below what the standing one does.
pub shorter_iff : (P : Problem) (cs r : List ℕ) (m : ℕ) → length cs ≡ suc m → Rising 0 cs (length r) → (p : Pattern) (s : Shape m p) →
    ltb (tour_length P (reconnected (record { cuts = cs; pattern = p }) r)) (tour_length P r)
    ≡ ltb
    (through P.leg (last_of P.depot (get_or (segments 0 cs r) 0 [])) (placed p.mask (segments 0 cs r) s.middle) (first_of (get_or (segments 0 cs r) (suc m) []) P.end))
    (through P.leg (last_of P.depot (get_or (segments 0 cs r) 0 [])) (placed 0 (segments 0 cs r) (upfrom 1 m)) (first_of (get_or (segments 0 cs r) (suc m) []) P.end))
shorter_iff P cs r m many rising p s =
    rw s.is
    (ltb_shift _ _ _ _ (delta_through P cs r m many rising s.middle (2 * s.bits) s.once (even_head s.bits) (small_tail (2 * s.bits) (suc m) (omega (arith, s.few, pow-suc 2 m)))))
