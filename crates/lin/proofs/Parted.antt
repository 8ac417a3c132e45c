-- A route cut into k + 1 parts, so that every link that is gone is at a cut. Assumes nothing.
use mathlib.Core.Path.{◌≡◌, refl, sym, ap, ap₂, ◌∙◌}
use mathlib.Core.Logic.{⊎_elim}
use mathlib.Core.List.{List, [], ◌∷◌, ◌++◌, flatten, append-nil, append_assoc}
use Prim.Native.Nat.{ℕ, zero, suc, ◌+◌, ◌≤◌, ◌<◌}
use native.Mathlib.Omega.{arith}
use native.Mathlib.Decide.{ℕ_discrete}
use lib.ListN.{length, get_or, drop, length-append}
use lib.Seq.{slice, drop_at, take_at}
use Rattle.theory.specs.Moves.{Rising}
use Rattle.theory.specs.Route.{segments}
use Rattle.theory.specs.Links.{links, link_count}
use Rattle.lin.proofs.Counts.{first_or_later, link_either, inside, Among}
use Rattle.lin.proofs.Gone.{lost, lost_one, gone, gone_short}

among_none : (ms : List (ℕ × ℕ)) → Among [] ms
unfolding link_count
among_none ms x y h = absurd (omega arith)

among_more : (ms : List (ℕ × ℕ)) (a b : ℕ) (ls : List (ℕ × ℕ)) → 0 < link_count a b ms → Among ls ms → Among ((a, b) ∷ ls) ms
among_more ms a b ls k h x y g =
    ⊎_elim (⊎_elim (λ e. rw (e.0, e.1) k) (λ e. rw (e.0, e.1, link_either b a ms) k)) (h x y) (first_or_later x y a b ls g)

kept : (ms : List (ℕ × ℕ)) (x y : ℕ) → lost ms x y ≡ 0 → 0 < link_count x y ms
kept ms x y h = by (link_count x y ms) refl
  where
    by : (n : ℕ) → link_count x y ms ≡ n → 0 < n
    by zero e = absurd (omega (arith, lost_one ms x y e))
    by (suc n) e = omega arith

pub length_links : (a : ℕ) (l : List ℕ) → length (links a l) ≡ length l
unfolding links
length_links a [] = refl
length_links a (x ∷ l) = ap suc (length_links x l)

module _ (e : ℕ) (ms : List (ℕ × ℕ)) where
  -- Every link inside a part is kept, and the one to the end behind the last; every part but the last has a stop.
  abbrev pub Whole : List ℕ → List (List ℕ) → Type 0
  Whole p [] = Among (inside (p ++ (e ∷ []))) ms
  Whole p (p' ∷ ps) = (0 < length p) × Among (inside p) ms × Whole p' ps

  pub record Parted (a : ℕ) (r : List ℕ) (k : ℕ) : Type 0 where
    pub first : List ℕ
    pub others : List (List ℕ)
    pub many : length others ≡ k
    pub all : flatten (first ∷ others) ≡ r
    pub whole : Whole (a ∷ first) others

  cut_here : (a x : ℕ) (r : List ℕ) (k : ℕ) → Parted x r k → Parted a (x ∷ r) (suc k)
  unfolding inside links flatten
  cut_here a x r k p =
      record { first = []; others = (x ∷ p.first) ∷ p.others; many = ap suc p.many; all = ap (λ l. x ∷ l) p.all; whole = (omega arith, among_none ms, p.whole) }

  go_on : (a x : ℕ) (r : List ℕ) (k : ℕ) → 0 < link_count a x ms → Parted x r k → Parted a (x ∷ r) k
  unfolding inside links flatten
  go_on a x r k h p =
      record { first = x ∷ p.first; others = p.others; many = p.many; all = ap (λ l. x ∷ l) p.all; whole = longer p.first p.others p.whole }
    where
      longer : (q : List ℕ) (ps : List (List ℕ)) → Whole (x ∷ q) ps → Whole (a ∷ x ∷ q) ps
      longer q [] w = among_more ms a x (links x (q ++ (e ∷ []))) h w
      longer q (p' ∷ ps) w = (omega arith, among_more ms a x (links x q) h w.1, w.2)

  pub parted : (a : ℕ) (r : List ℕ) (k : ℕ) → gone ms (links a (r ++ (e ∷ []))) ≤ k → k ≤ suc (length r) → Parted a r k
  unfolding inside links flatten gone
  parted a [] zero h l = record { first = []; others = []; many = refl; all = refl; whole = among_more ms a e [] (kept ms a e (omega arith)) (among_none ms) }
  parted a [] (suc zero) h l = record { first = []; others = [] ∷ []; many = refl; all = refl; whole = (omega arith, among_none ms, among_none ms) }
  parted a [] (suc (suc k)) h l = absurd (omega arith)
  parted a (x ∷ r) zero h l = go_on a x r 0 (kept ms a x (omega arith)) (parted x r 0 (omega arith) (omega arith))
  parted a (x ∷ r) (suc k) h l = by (link_count a x ms) refl (ℕ_discrete k (suc (length r))) (parted x r)
    where
      by : (n : ℕ) → link_count a x ms ≡ n → Dec (k ≡ suc (length r)) → ((k : ℕ) → gone ms (links x (r ++ (e ∷ []))) ≤ k → k ≤ suc (length r) → Parted x r k) → Parted a (x ∷ r) (suc k)
      by zero n d f = cut_here a x r k (f k (omega (arith, lost_one ms a x n)) (omega arith))
      by (suc i) n (yes d) f =
          cut_here a x r k (f k (omega (arith, gone_short ms (links x (r ++ (e ∷ []))), length_links x (r ++ (e ∷ [])), length-append r (e ∷ []))) (omega arith))
      by (suc i) n (no d) f = go_on a x r (suc k) (omega arith) (f (suc k) (omega arith) (omega arith))

-- ---- the parts are the segments between cuts

-- The cuts behind the parts from the position c on.
pub cuts_of : ℕ → List ℕ → List (List ℕ) → List ℕ
cuts_of c p [] = []
cuts_of c p (p' ∷ ps) = (c + length p) ∷ cuts_of (c + length p) p' ps

pub length_cuts : (c : ℕ) (p : List ℕ) (ps : List (List ℕ)) → length (cuts_of c p ps) ≡ length ps
unfolding cuts_of
length_cuts c p [] = refl
length_cuts c p (p' ∷ ps) = ap suc (length_cuts (c + length p) p' ps)

pub cut_parts : (l : List ℕ) (c : ℕ) → length l ≡ c → (p : List ℕ) (ps : List (List ℕ)) → segments c (cuts_of c p ps) (l ++ flatten (p ∷ ps)) ≡ p ∷ ps
unfolding cuts_of segments flatten
cut_parts l c h p [] = ap (λ x. x ∷ []) (drop_at l (p ++ []) c h ∙ append-nil p)
cut_parts l c h p (p' ∷ ps) =
    ap₂ ◌∷◌ here (ap (segments (c + length p) (cuts_of (c + length p) p' ps)) (sym (append_assoc l p (p' ++ flatten ps))) ∙ cut_parts (l ++ p) (c + length p) n p' ps)
  where
    n : length (l ++ p) ≡ c + length p
    n = length-append l p ∙ ap (λ x. x + length p) h

    here : slice c (c + length p) (l ++ (p ++ (p' ++ flatten ps))) ≡ p
    here = ap (λ m. slice c (c + length p) m) (sym (append_assoc l p (p' ++ flatten ps))) ∙ ap (drop c) (take_at (l ++ p) (p' ++ flatten ps) (c + length p) n) ∙ drop_at l p c h

later_rise : (e : ℕ) (ms : List (ℕ × ℕ)) (n low c : ℕ) (p : List ℕ) (ps : List (List ℕ)) → (0 < length p → low ≤ c + length p) → c + length (flatten (p ∷ ps)) ≤ n → Whole e ms p ps →
    Rising low (cuts_of c p ps) n
unfolding cuts_of flatten
later_rise e ms n low c p [] h k w = tt
later_rise e ms n low c p (p' ∷ ps) h k w =
    let l = length-append p (flatten (p' ∷ ps)) in
    (h w.0, omega arith, later_rise e ms n (suc (c + length p)) (c + length p) p' ps (λ z. omega arith) (omega arith) w.2)

pub cuts_rise : (e : ℕ) (ms : List (ℕ × ℕ)) (n a : ℕ) (p : List ℕ) (ps : List (List ℕ)) → length (flatten (p ∷ ps)) ≤ n → Whole e ms (a ∷ p) ps → Rising 0 (cuts_of 0 p ps) n
unfolding cuts_of flatten
cuts_rise e ms n a p [] k w = tt
cuts_rise e ms n a p (p' ∷ ps) k w =
    let l = length-append p (flatten (p' ∷ ps)) in
    (omega arith, omega arith, later_rise e ms n (suc (0 + length p)) (0 + length p) p' ps (λ z. omega arith) (omega arith) w.2)

-- The middle parts and the last one, by their numbers.
pub middle_whole : (e : ℕ) (ms : List (ℕ × ℕ)) (p : List ℕ) (ps : List (List ℕ)) (i : ℕ) → i < length ps → Whole e ms p ps → (0 < length (get_or (p ∷ ps) i [])) × Among (inside (get_or (p ∷ ps) i [])) ms
middle_whole e ms p [] i h w = absurd (omega arith)
middle_whole e ms p (p' ∷ ps) zero h w = (w.0, w.1)
middle_whole e ms p (p' ∷ ps) (suc i) h w = middle_whole e ms p' ps i (omega arith) w.2

pub last_whole : (e : ℕ) (ms : List (ℕ × ℕ)) (p : List ℕ) (ps : List (List ℕ)) → Whole e ms p ps → Among (inside (get_or (p ∷ ps) (length ps) [] ++ (e ∷ []))) ms
last_whole e ms p [] w = w
last_whole e ms p (p' ∷ ps) w = last_whole e ms p' ps w.2
