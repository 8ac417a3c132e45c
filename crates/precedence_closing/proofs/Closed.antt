-- The signs that are closed, event by event, and that a row with one of them breaks a pair. Assumes nothing.
use mathlib.Core.Path.{◌≡◌, refl, sym, ◌∙◌}
use mathlib.Core.Bool.{Bool, true, false, not, ◌&&◌, ◌||◌, false≢true}
use mathlib.Core.Logic.{◌⊎◌, inl, inr}
use mathlib.Core.List.{List, [], ◌∷◌, ◌++◌}
use Prim.Native.Nat.{ℕ, zero, suc, ◌+◌, ◌-◌, ◌*◌, ◌≤◌, ◌<◌}
use native.Mathlib.Numerals.{add-one}
use native.Mathlib.Omega.{arith}
use lib.Bits.{bit_or}
use lib.Dec.{eqb}
use lib.ListN.{length, get_or}
use lib.Seq.{slice}
use borrow.Author.Tests.{eqb-true, not-false}
use Rattle.theory.specs.Moves.{Rising}
use Rattle.theory.specs.Pairs.{visited, pair_kept, all, pairs_kept}
use Rattle.theory.specs.Tables.{CutSet}
use Rattle.costs.specs.RouteCosts.{first_cuts, last_cut}
use Rattle.scan_joints.specs.States.{states}
use Rattle.deadline_dues.specs.Parts.{middle}
use Rattle.precedence.specs.Words.{marks}
use Rattle.precedence.proofs.Words.{marks_or, marks_same, marks_below, no_marks, disjoint_is}
use Rattle.precedence_visits.specs.Visits.{Visits, Crosses, BetweenAsked}
use Rattle.precedence_visits.proofs.Between.{all_fails}
use Rattle.precedence_closing.specs.Closing.{events, occurs, sign, Shuts, EventAsked, EventClosed, EventNext, ClosedBy}
use Rattle.precedence_closing.proofs.Signs.{bit_of, next_bit, next_turn}
use Rattle.precedence_closing.proofs.Further.{middle_broken}

-- A middle segment and an earlier one, or itself, from which a pair goes to it.
pub record Crossed (visits cuts : List ℕ) (e : ℕ × ℕ) : Type 0 where
  pub rises : e.0 ≤ e.1
  pub among : e.1 + 1 < length cuts
  pub crosses : Crosses visits (get_or cuts e.0 0) (get_or cuts (e.0 + 1) 0) (get_or cuts e.1 0) (get_or cuts (e.1 + 1) 0)

-- A set of events that are crossed, as a word.
pub record Closed (visits cuts : List ℕ) (r : ℕ) : Type 0 where
  pub marked : ℕ × ℕ → Bool
  pub is : r ≡ marks marked events
  pub each : (e : ℕ × ℕ) → marked e ≡ true → Crossed visits cuts e

pub none_closed : (D cs : List ℕ) → Closed D cs 0
none_closed D cs = record { marked = λ e. false; is = sym (no_marks events); each = λ e f. absurd (false≢true f) }

and_both : (a b : Bool) → (a && b) ≡ true → (a ≡ true) × (b ≡ true)
and_both true b e = (refl, e)
and_both false b e = absurd (false≢true e)

or_none : (b : Bool) → (b || false) ≡ b
or_none true = refl
or_none false = refl

pub closed_more : (D cs : List ℕ) (a b bit r now : ℕ) → a ≤ b → b + 1 < length cs → bit ≡ bit_of a b → Closed D cs r → EventClosed D cs a b bit now → Closed D cs (bit_or r now)
closed_more D cs a b bit r now h k e w new = by new.is
  where
    by : (now ≡ 0) ⊎ ((now ≡ bit) × Crosses D (get_or cs a 0) (get_or cs (a + 1) 0) (get_or cs b 0) (get_or cs (b + 1) 0)) → Closed D cs (bit_or r now)
    by (inl z) =
        record {
          marked = w.marked;
          is = rw (z, w.is, ← (no_marks events)) (marks_or w.marked (λ e. false) events ∙ marks_same _ _ events (λ e. or_none (w.marked e)));
          each = w.each;
        }
    by (inr z) =
        record {
          marked = λ e. w.marked e || (eqb e.0 a && eqb e.1 b);
          is = rw (z.0, e, w.is) (marks_or w.marked (λ e. eqb e.0 a && eqb e.1 b) events);
          each = λ e f. at e (w.marked e) refl f;
        }
      where
        at : (e : ℕ × ℕ) (m : Bool) → w.marked e ≡ m → (m || (eqb e.0 a && eqb e.1 b)) ≡ true → Crossed D cs e
        at e true g f = w.each e g
        at e false g f =
            let u = and_both (eqb e.0 a) (eqb e.1 b) f in
            let i : e.0 ≡ a = eqb-true e.0 a u.0 in
            let j : e.1 ≡ b = eqb-true e.1 b u.1 in
            record { rises = omega arith; among = omega arith; crosses = rw (i, j) z.1 }

-- ---- the next event

pub bit_next : (a b bit a' b' : ℕ) → EventNext a b a' b' → bit ≡ bit_of a b → b < 4 → b' < 4 → 2 * bit ≡ bit_of a' b'
bit_next a b bit a' b' n e h k = by n.is
  where
    by : ((a ≡ b) × (a' ≡ 0) × (b' ≡ b + 1)) ⊎ ((a < b) × (a' ≡ a + 1) × (b' ≡ b)) → 2 * bit ≡ bit_of a' b'
    by (inl z) = rw (e, z.0, z.1, z.2) (next_turn b (omega (arith, z.2)))
    by (inr z) = rw (e, z.1, z.2) (next_bit a b z.0 h)

pub next_within : (a b a' b' last : ℕ) → EventNext a b a' b' → b < last → (a' ≤ b') × (b' ≤ last)
next_within a b a' b' last n h = by n.is
  where
    by : ((a ≡ b) × (a' ≡ 0) × (b' ≡ b + 1)) ⊎ ((a < b) × (a' ≡ a + 1) × (b' ≡ b)) → (a' ≤ b') × (b' ≤ last)
    by (inl z) = (omega arith, omega arith)
    by (inr z) = (omega arith, omega arith)

-- How many events may still come.
abbrev pub left : ℕ → ℕ → ℕ → ℕ
left last a b = 8 * (last - b) + (8 - a)

pub next_less : (a b a' b' last : ℕ) → EventNext a b a' b' → a ≤ b → b < last → last ≤ 4 → left last a' b' < left last a b
next_less a b a' b' last n h k l = by n.is
  where
    by : ((a ≡ b) × (a' ≡ 0) × (b' ≡ b + 1)) ⊎ ((a < b) × (a' ≡ a + 1) × (b' ≡ b)) → left last a' b' < left last a b
    by (inl z) = omega arith
    by (inr z) = omega arith

-- ---- all of them

some_event : (t u : ℕ × ℕ → Bool) (es : List (ℕ × ℕ)) → all (λ e. not (t e && u e)) es ≡ false → (e : ℕ × ℕ) × (t e ≡ true) × (u e ≡ true)
unfolding all
some_event t u [] f = absurd (false≢true (sym f))
some_event t u (e ∷ es) f = by (t e) refl (u e) refl f (some_event t u es)
  where
    by : (a : Bool) → t e ≡ a → (b : Bool) → u e ≡ b → (not (a && b) && all (λ e. not (t e && u e)) es) ≡ false →
        (all (λ e. not (t e && u e)) es ≡ false → (e : ℕ × ℕ) × (t e ≡ true) × (u e ≡ true)) → (e : ℕ × ℕ) × (t e ≡ true) × (u e ≡ true)
    by true ae true be f rest = (e, ae, be)
    by true ae false be f rest = rest f
    by false ae b be f rest = rest f

up_to_last : (n low : ℕ) (cs : List ℕ) (i : ℕ) → Rising low cs n → i < length cs → get_or cs i 0 ≤ get_or cs (length cs - 1) 0
up_to_last n low [] i t h = absurd (omega arith)
up_to_last n low (c ∷ []) zero t h = omega arith
up_to_last n low (c ∷ []) (suc i) t h = absurd (omega arith)
up_to_last n low (c ∷ d ∷ cs) zero t h =
    let e : suc (suc (length cs)) - 1 ≡ suc (suc (length cs) - 1) = omega arith in
    rw e (omega (arith, t.2.0, up_to_last n (suc c) (d ∷ cs) zero t.2 (omega arith)))
up_to_last n low (c ∷ d ∷ cs) (suc i) t h =
    let e : suc (suc (length cs)) - 1 ≡ suc (suc (length cs) - 1) = omega arith in
    rw e (up_to_last n (suc c) (d ∷ cs) i t.2 (omega arith))

next_up : (n low : ℕ) (cs : List ℕ) (i : ℕ) → Rising low cs n → suc i < length cs → get_or cs i 0 ≤ get_or cs (suc i) 0
next_up n low [] i t h = absurd (omega arith)
next_up n low (c ∷ []) i t h = absurd (omega arith)
next_up n low (c ∷ d ∷ cs) zero t h = omega (arith, t.2.0)
next_up n low (c ∷ d ∷ cs) (suc i) t h = next_up n (suc c) (d ∷ cs) i t.2 (omega arith)

up_within : (n low : ℕ) (cs : List ℕ) (i : ℕ) → Rising low cs n → i < length cs → get_or cs i 0 ≤ n
up_within n low [] i t h = absurd (omega arith)
up_within n low (c ∷ cs) zero t h = t.1
up_within n low (c ∷ cs) (suc i) t h = up_within n (suc c) cs i t.2 (omega arith)

-- Two middle segments, to be asked of the visits.
pub event_asked : (D cs : List ℕ) (a b : ℕ) → EventAsked D cs a b → BetweenAsked D (get_or cs a 0) (get_or cs (a + 1) 0) (get_or cs b 0) (get_or cs (b + 1) 0)
event_asked D cs a b given =
    let cut_set = given.asked.cut_set in
    let n = given.asked.stops in
    let h : suc a < length cs = omega (arith, given.order, given.within) in
    let k : suc b < length cs = omega (arith, given.within) in
    rw (add-one a, add-one b)
    (record {
      places = given.asked.places;
      first = next_up n 0 cs a cut_set.rising h;
      second = next_up n 0 cs b cut_set.rising k;
      first_within = omega (arith, up_within n 0 cs (suc a) cut_set.rising h, cut_set.short);
      second_within = omega (arith, up_within n 0 cs (suc b) cut_set.rising k, cut_set.short);
    })

module _ (D cs : List ℕ) (r : ℕ) (w : Closed D cs r) where
  few : marks w.marked events < 1024
  unfolding events
  few = marks_below w.marked events

  shuts : (ps : List (ℕ × ℕ)) (route : List ℕ) → Visits ps route D → last_cut cs ≤ get_or D 1026 0 → CutSet (length cs) (length route) cs → pairs_kept ps route ≡ true → Shuts ps route cs r
  unfolding sign pairs_kept
  shuts ps route visits reached cut_set kept order mask c f on within some =
      let row = states (length cs) order mask in
      let found = some_event (occurs row) w.marked events (sym (disjoint_is (occurs row) w.marked events) ∙ rw w.is at some) in
      let e = found.0 in
      let x = w.each e found.2 in
      let up : (i : ℕ) → i < length cs → get_or cs i 0 ≤ last_cut cs = λ i l. up_to_last (length route) 0 cs i cut_set.rising l in
      all_fails (λ p. pair_kept p route) (λ p. not (visited p.0 (slice (get_or cs e.0 0) (get_or cs (e.0 + 1) 0) route) && visited p.1 (slice (get_or cs e.1 0) (get_or cs (e.1 + 1) 0) route)))
      (λ p. pair_kept p (middle route (first_cuts cs ++ (c ∷ [])) order mask)) ps
      (λ p k g. let u = and_both _ _ (not-false _ g) in middle_broken cs route cut_set c on within p e k x.rises x.among u.0 u.1 order mask f found.1)
      kept
      (x.crosses ps route visits (omega (arith, up (e.0 + 1) (omega (arith, x.rises, x.among)))) (omega (arith, up (e.1 + 1) x.among)))

  pub closed_by : ClosedBy D cs r
  closed_by = record { small = rw w.is few; is = shuts }
