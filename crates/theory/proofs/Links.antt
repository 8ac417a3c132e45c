-- A move is Lin's exchange: k links of the tour go, k come, and the others stay, whatever their direction. Assumes nothing.
use mathlib.Core.Path.{◌≡◌, refl, sym, ap, ap₂, ◌∙◌}
use mathlib.Core.Bool.{Bool, true, false, cond, ◌&&◌, ◌||◌}
use mathlib.Core.List.{List, [], ◌∷◌, ◌++◌, map, reverse_aux, drop_last, Memᴰ}
use Prim.Native.Nat.{ℕ, zero, suc, ◌+◌, ◌-◌, ◌*◌, ◌≤◌, ◌<◌}
use native.Mathlib.Omega.{arith}
use native.Mathlib.Nat.{add-zero, add-suc, suc-add, pow-suc}
use native.Mathlib.Numerals.{one-add}
use lib.Dec.{eqb}
use lib.ListN.{length, get_or, drop, length-append, length-map, get_or-append}
use lib.Seq.{slice, slice-cons, drop-cons, drop-drop}
use Rattle.theory.specs.Moves.{upfrom, total, Pattern, Move, Rising, patterns, cut_sets, candidates}
use Rattle.theory.specs.Route.{segments, reverses, reverse_if, placed, reconnected, Problem, path, tour_length}
use Rattle.theory.specs.Costs.{last_of, first_of, inner, through}
use Rattle.theory.specs.Links.{links, tour_links, joins, link_count, cut_link, cut_links, joints, new_links, Exchanged}
use Rattle.theory.proofs.Moves.{Shape, total_ones, length_upfrom, pattern_shape}
use Rattle.theory.proofs.Delta.{delta_through, even_head, small_tail, straight}
use Rattle.theory.proofs.Polish.{legal}

-- ---- counting a link is measuring a way, with 1 for that link and 0 for any other

one_of : ℕ → ℕ → ℕ → ℕ → ℕ
one_of x y a b = cond (joins x y (a, b)) 1 0

or_comm : (a b : Bool) → (a || b) ≡ (b || a)
or_comm true true = refl
or_comm true false = refl
or_comm false true = refl
or_comm false false = refl

undirected : (x y a b : ℕ) → one_of x y a b ≡ one_of x y b a
unfolding one_of
undirected x y a b = ap (λ t. cond t 1 0) (or_comm (eqb x a && eqb y b) (eqb x b && eqb y a))

count_links : (x y a : ℕ) (l : List ℕ) → link_count x y (links a l) ≡ path (one_of x y) a l
unfolding link_count links path one_of
count_links x y a [] = refl
count_links x y a (z ∷ l) = ap (λ n. cond (joins x y (a, z)) 1 0 + n) (count_links x y z l)

abbrev counting : ℕ → ℕ → Problem → Problem
counting x y P = record { leg = one_of x y; latest = P.latest; service = P.service; depot = P.depot; end = P.end; pairs = P.pairs }

count_tour : (x y : ℕ) (P : Problem) (r : List ℕ) → link_count x y (tour_links P r) ≡ tour_length (counting x y P) r
unfolding tour_links tour_length
count_tour x y P r = count_links x y P.depot (r ++ (P.end ∷ []))

-- ---- the legs inside a part do not depend on its direction

module _ (d : ℕ → ℕ → ℕ) (both : (a b : ℕ) → d a b ≡ d b a) where
  inner_reverse_aux : (l : List ℕ) (a : ℕ) (r : List ℕ) → inner d (reverse_aux l (a ∷ r)) ≡ path d a l + path d a r
  unfolding inner path
  inner_reverse_aux [] a r = omega arith
  inner_reverse_aux (x ∷ l) a r = omega (arith, inner_reverse_aux l x (a ∷ r), both x a)

  inner_reverse_if : (b : Bool) (l : List ℕ) → inner d (reverse_if b l) ≡ inner d l
  unfolding inner path reverse_if
  inner_reverse_if true [] = refl
  inner_reverse_if true (x ∷ l) = omega (arith, inner_reverse_aux l x [])
  inner_reverse_if false l = refl

-- A way through parts: the links between them, and the legs inside them, whose sum no placing changes.
inners : (ℕ → ℕ → ℕ) → List (List ℕ) → ℕ
inners d [] = 0
inners d (p ∷ ps) = inner d p + inners d ps

through_joints : (x y a : ℕ) (ps : List (List ℕ)) (e : ℕ) → through (one_of x y) a ps e ≡ link_count x y (joints a ps e) + inners (one_of x y) ps
unfolding through joints link_count inners one_of
through_joints x y a [] e = omega arith
through_joints x y a (p ∷ ps) e = omega (arith, through_joints x y (last_of a p) ps e)

inners_placed : (x y mask : ℕ) (ps : List (List ℕ)) (o : List ℕ) → inners (one_of x y) (placed mask ps o) ≡ total (λ i. inner (one_of x y) (get_or ps i [])) o
unfolding inners placed total
inners_placed x y mask ps [] = refl
inners_placed x y mask ps (i ∷ o) = ap₂ ◌+◌ (inner_reverse_if (one_of x y) (undirected x y) (reverses mask i) (get_or ps i [])) (inners_placed x y mask ps o)

-- ---- the links at the cuts

-- The link at cut c is link number c of the tour.
nth_link : (a : ℕ) (l : List ℕ) (c : ℕ) → c < length l → get_or (links a l) c (0, 0) ≡ (get_or (a ∷ l) c 0, get_or l c 0)
unfolding links
nth_link a [] c h = absurd (omega arith)
nth_link a (x ∷ l) zero h = refl
nth_link a (x ∷ l) (suc c) h = nth_link x l c (omega arith)

pub tour_link : (P : Problem) (r : List ℕ) (c : ℕ) → c ≤ length r → get_or (tour_links P r) c (0, 0) ≡ cut_link P r c
unfolding tour_links cut_link
tour_link P r c h =
    nth_link P.depot (r ++ (P.end ∷ [])) c (simp length-append (omega arith))
    ∙ ap (λ s. (s, get_or (r ++ (P.end ∷ [])) c 0)) (get_or-append (P.depot ∷ r) (P.end ∷ []) 0 c (omega arith))

-- They stand in the tour, each at its place.
fewer : (x y i : ℕ) (ls : List (ℕ × ℕ)) → link_count x y (drop i ls) ≤ link_count x y ls
unfolding link_count
fewer x y zero ls = omega arith
fewer x y (suc i) [] = omega arith
fewer x y (suc i) (l ∷ ls) = omega (arith, fewer x y i ls)

length_links : (a : ℕ) (l : List ℕ) → length (links a l) ≡ length l
unfolding links
length_links a [] = refl
length_links a (x ∷ l) = ap suc (length_links x l)

length_tour_links : (P : Problem) (r : List ℕ) → length (tour_links P r) ≡ length r + 1
unfolding tour_links
length_tour_links P r = length_links P.depot (r ++ (P.end ∷ [])) ∙ length-append r (P.end ∷ [])

from_cut : (P : Problem) (r : List ℕ) (low c : ℕ) → low ≤ c → c ≤ length r → drop (c - low) (drop low (tour_links P r)) ≡ cut_link P r c ∷ drop (suc c) (tour_links P r)
from_cut P r low c h k =
    let e : low + (c - low) ≡ c = omega arith in
    drop-drop (c - low) low (tour_links P r)
    ∙ ap (λ n. drop n (tour_links P r)) e
    ∙ drop-cons (tour_links P r) c (0, 0) (rw length_tour_links (omega arith))
    ∙ ap (λ l. l ∷ drop (suc c) (tour_links P r)) (tour_link P r c k)

cut_links_stood : (x y : ℕ) (P : Problem) (r : List ℕ) (low : ℕ) (cs : List ℕ) → Rising low cs (length r) →
    link_count x y (cut_links P r cs) ≤ link_count x y (drop low (tour_links P r))
unfolding link_count cut_links
cut_links_stood x y P r low [] i = omega arith
cut_links_stood x y P r low (c ∷ cs) i =
    omega (arith, cut_links_stood x y P r (suc c) cs i.2, ap (link_count x y) (from_cut P r low c i.0 i.1), fewer x y (c - low) (drop low (tour_links P r)))

-- Where a segment starts and where it ends.
first_drop : (d c : ℕ) (r : List ℕ) → c ≤ length r → first_of (drop c r) d ≡ get_or (r ++ (d ∷ [])) c 0
unfolding first_of
first_drop d zero [] h = refl
first_drop d zero (x ∷ r) h = refl
first_drop d (suc c) [] h = absurd (omega arith)
first_drop d (suc c) (x ∷ r) h = first_drop d c r (omega arith)

first_slice : (a d s t : ℕ) (r : List ℕ) → s < t → t ≤ length r → first_of (slice s t r) a ≡ get_or (r ++ (d ∷ [])) s 0
unfolding first_of
first_slice a d s t r h k = rw (slice-cons s t r 0 h k, get_or-append r (d ∷ []) 0 s (omega arith))

last_slice : (a s t : ℕ) (r : List ℕ) → s ≤ t → t ≤ length r → last_of (get_or (a ∷ r) s 0) (slice s t r) ≡ get_or (a ∷ r) t 0
unfolding last_of
last_slice a zero zero r h k = refl
last_slice a zero (suc t) [] h k = absurd (omega arith)
last_slice a zero (suc t) (x ∷ r) h k = last_slice x zero t r (omega arith) (omega arith)
last_slice a (suc s) zero r h k = absurd (omega arith)
last_slice a (suc s) (suc t) [] h k = absurd (omega arith)
last_slice a (suc s) (suc t) (x ∷ r) h k = last_slice x s t r (omega arith) (omega arith)

-- The links between the segments as they stand are those at the cuts.
standing : (P : Problem) (r : List ℕ) (qs : List (List ℕ)) (f n c : ℕ) (cs : List ℕ) → f + length cs ≡ n → c ≤ length r → Rising (suc c) cs (length r) →
    ((i : ℕ) → get_or qs (f + i) [] ≡ get_or (segments c cs r) i []) →
    joints (get_or (P.depot ∷ r) c 0) (placed 0 qs (upfrom f (length cs))) (first_of (get_or qs n []) P.end) ≡ cut_links P r (c ∷ cs)
unfolding joints placed upfrom segments cut_links cut_link reverse_if
standing P r qs f n c [] e h i g = rw (← e, g 0, first_drop P.end c r h)
standing P r qs f n c (c' ∷ cs) e h i g =
    let s : get_or qs f [] ≡ slice c c' r = ap (λ n. get_or qs n []) (sym (add-zero f)) ∙ g 0 in
    rw (straight f, s, last_slice P.depot c c' r (omega arith) i.1, first_slice (get_or (P.depot ∷ r) c 0) P.end c c' r i.0 i.1)
    (ap (λ ls. cut_link P r c ∷ ls)
    (standing P r qs (suc f) n c' cs (omega arith) i.1 i.2 (λ j. ap (λ n. get_or qs n []) (suc-add f j ∙ sym (add-suc f j)) ∙ g (suc j))))

old_joints : (P : Problem) (cs r : List ℕ) (m : ℕ) → length cs ≡ suc m → Rising 0 cs (length r) →
    joints (last_of P.depot (get_or (segments 0 cs r) 0 [])) (placed 0 (segments 0 cs r) (upfrom 1 m)) (first_of (get_or (segments 0 cs r) (suc m) []) P.end)
    ≡ cut_links P r cs
unfolding segments
old_joints P [] r m h i = absurd (omega arith)
old_joints P (c ∷ cs) r m h i =
    let l : length cs ≡ m = omega arith in
    rw (← l, last_slice P.depot 0 c r (omega arith) i.1)
    (standing P r (segments 0 (c ∷ cs) r) 1 (suc (length cs)) c cs (omega arith) i.1 i.2 (λ j. ap (λ n. get_or (segments 0 (c ∷ cs) r) n []) (one-add j)))

-- ---- the exchange

links_exchanged : (P : Problem) (cs r : List ℕ) (m : ℕ) → length cs ≡ suc m → Rising 0 cs (length r) →
    (o : List ℕ) (mask : ℕ) → ((g : ℕ → ℕ) → total g o ≡ total g (upfrom 1 m)) → reverses mask 0 ≡ false → reverses mask (suc m) ≡ false → (x y : ℕ) →
    link_count x y (tour_links P (reconnected (record { cuts = cs; pattern = record { order = 0 ∷ (o ++ (suc m ∷ [])); mask = mask } }) r)) + link_count x y (cut_links P r cs)
    ≡ link_count x y (tour_links P r)
    + link_count x y (joints (last_of P.depot (get_or (segments 0 cs r) 0 [])) (placed mask (segments 0 cs r) o) (first_of (get_or (segments 0 cs r) (suc m) []) P.end))
links_exchanged P cs r m many rising o mask once h t x y =
    let q = segments 0 cs r in
    let a = last_of P.depot (get_or q 0 []) in
    let e = first_of (get_or q (suc m) []) P.end in
    omega (
      arith,
      delta_through (counting x y P) cs r m many rising o mask once h t,
      count_tour x y P (reconnected (record { cuts = cs; pattern = record { order = 0 ∷ (o ++ (suc m ∷ [])); mask = mask } }) r),
      count_tour x y P r,
      through_joints x y a (placed 0 q (upfrom 1 m)) e,
      through_joints x y a (placed mask q o) e,
      inners_placed x y 0 q (upfrom 1 m),
      inners_placed x y mask q o,
      once (λ i. inner (one_of x y) (get_or q i [])),
      ap (link_count x y) (old_joints P cs r m many rising),
    )

drop_last_snoc : (l : List ℕ) (x : ℕ) → drop_last (l ++ (x ∷ [])) ≡ l
drop_last_snoc [] x = refl
drop_last_snoc (y ∷ []) x = refl
drop_last_snoc (y ∷ z ∷ l) x = ap (λ t. y ∷ t) (drop_last_snoc (z ∷ l) x)

length_joints : (a : ℕ) (ps : List (List ℕ)) (e : ℕ) → length (joints a ps e) ≡ suc (length ps)
unfolding joints
length_joints a [] e = refl
length_joints a (p ∷ ps) e = ap suc (length_joints (last_of a p) ps e)

length_new : (a e m mask : ℕ) (ps : List (List ℕ)) (o : List ℕ) → ((g : ℕ → ℕ) → total g o ≡ total g (upfrom 1 m)) → length (joints a (placed mask ps o) e) ≡ suc m
unfolding placed
length_new a e m mask ps o once =
    let f : ℕ → List ℕ = λ i. reverse_if (reverses mask i) (get_or ps i []) in
    omega (arith, length_joints a (map f o) e, length-map o f, total_ones o, once (λ i. 1), total_ones (upfrom 1 m), length_upfrom 1 m)

pub exchanged : (P : Problem) (cs r : List ℕ) (m : ℕ) → length cs ≡ suc m → Rising 0 cs (length r) → (p : Pattern) → Shape m p → Exchanged (suc m) P r (record { cuts = cs; pattern = p })
unfolding new_links cut_links
exchanged P cs r m many rising p s =
    let tail_stays = small_tail (2 * s.bits) (suc m) (omega (arith, s.few, pow-suc 2 m)) in
    rw s.is
    (record {
      dropped = length-map cs (cut_link P r) ∙ many;
      added = rw (drop_last_snoc s.middle (suc m)) (length_new _ _ m (2 * s.bits) (segments 0 cs r) s.middle s.once);
      stood = λ x y. cut_links_stood x y P r 0 cs rising;
      exchange = λ x y. rw (drop_last_snoc s.middle (suc m), many) (links_exchanged P cs r m many rising s.middle (2 * s.bits) s.once (even_head s.bits) tail_stays x y);
    })

-- Each candidate of the scan is such an exchange.
pub candidates_exchange : (P : Problem) (r : List ℕ) (m : ℕ) (c : Move) → Memᴰ c (candidates (patterns (suc m)) (cut_sets (suc m) (length r))) → Exchanged (suc m) P r c
candidates_exchange P r m c i =
    let l = legal (patterns (suc m)) (suc m) (length r) c i in
    exchanged P c.cuts r m l.many l.rising c.pattern (pattern_shape m c.pattern l.known)
