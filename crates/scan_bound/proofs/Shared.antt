-- What the cut sets with the same first cuts `pre` have in common, and what the last cut c adds. Assumes nothing.
use mathlib.Core.Path.{◌≡◌, refl, sym, ap, ap₂, ◌∙◌}
use mathlib.Core.Bool.{Bool, true, false, cond}
use mathlib.Core.Logic.{inl, inr}
use mathlib.Core.List.{List, [], ◌∷◌, ◌++◌}
use Prim.Native.Nat.{ℕ, suc, ◌+◌, ◌-◌, ◌/◌, ◌%◌, ◌≤◌, ◌<◌}
use native.Mathlib.Omega.{arith}
use borrow.Author.Tests.{eq-eqb, ne_eqb, lt-ltb, le-ltb}
use lib.Dec.{eqb}
use lib.ListN.{length, get_or, get_or-append}
use lib.Seq.{slice, slice-cons, slice_empty, get_or_at}
use Rattle.theory.specs.Moves.{Rising}
use Rattle.theory.specs.Route.{Problem, segments, path, reverse_if}
use Rattle.theory.specs.Costs.{last_of, first_of, inner}
use Rattle.theory.specs.Tables.{CutSet}
use Rattle.costs.specs.RouteCosts.{head_end, tail_start}
use Rattle.scan_joints.specs.States.{placed_in}
use Rattle.scan_joints.proofs.States.{halves}
use Rattle.scan_joints.proofs.Ends.{part_slice, entry_at, exit_at}
use Rattle.scan_shared.specs.Bound.{exit_of, joint_by, fixed_by, opened, last_state}
use Rattle.scan_bound.proofs.Bound.{After, Still, Moving, before_still, after_still}
use Rattle.scan_shared.proofs.Preparing.{long}

-- ---- another last cut

deeper : (a b : ℕ) (pre : List ℕ) → get_or (a ∷ b ∷ pre) (length (a ∷ b ∷ pre) - 1) 0 ≡ get_or (b ∷ pre) (length (b ∷ pre) - 1) 0
deeper a b pre = let e : suc (suc (length pre)) - 1 ≡ suc (suc (length pre) - 1) = omega arith in ap (λ n. get_or (a ∷ b ∷ pre) n 0) e

other_rising : (n low : ℕ) (pre : List ℕ) (c c' : ℕ) → 1 ≤ length pre → Rising low (pre ++ (c ∷ [])) n → get_or pre (length pre - 1) 0 < c' → c' ≤ n → Rising low (pre ++ (c' ∷ [])) n
other_rising n low [] c c' h r l m = absurd (omega arith)
other_rising n low (a ∷ []) c c' h r l m = (r.0, r.1, (l, m, tt))
other_rising n low (a ∷ b ∷ pre) c c' h r l m = (r.0, r.1, other_rising n (suc a) (b ∷ pre) c c' (omega arith) r.2 (rw (deeper a b pre) at l) m)

pub other_cut : (n : ℕ) (pre : List ℕ) (c c' : ℕ) → 1 ≤ length pre → CutSet (length (pre ++ (c ∷ []))) n (pre ++ (c ∷ [])) → get_or pre (length pre - 1) 0 < c' → c' ≤ n →
    CutSet (length (pre ++ (c' ∷ []))) n (pre ++ (c' ∷ []))
other_cut n pre c c' h s l m =
    record {
      least = omega (arith, long pre c, long pre c', s.least);
      most = omega (arith, long pre c, long pre c', s.most);
      short = s.short;
      many = refl;
      rising = other_rising n 0 pre c c' h s.rising l m;
    }

-- The last of the first cuts lies below the last cut, and the last cut in the route.
pub last_two : (n low : ℕ) (pre : List ℕ) (c : ℕ) → 1 ≤ length pre → Rising low (pre ++ (c ∷ [])) n → (get_or pre (length pre - 1) 0 < c) × (c ≤ n)
last_two n low [] c h r = absurd (omega arith)
last_two n low (a ∷ []) c h r = (r.2.0, r.2.1)
last_two n low (a ∷ b ∷ pre) c h r = rw (deeper a b pre) (last_two n (suc a) (b ∷ pre) c (omega arith) r.2)

pub same_head : (P : Problem) (r pre : List ℕ) (c c' : ℕ) → 1 ≤ length pre → head_end P r (pre ++ (c ∷ [])) ≡ head_end P r (pre ++ (c' ∷ []))
unfolding segments
same_head P r [] c c' h = absurd (omega arith)
same_head P r (a ∷ pre) c c' h = refl

module _ (r pre : List ℕ) (some : 1 ≤ length pre) (c : ℕ) (cut_set : CutSet (length (pre ++ (c ∷ []))) (length r) (pre ++ (c ∷ []))) where
  abbrev pub part : ℕ → List ℕ
  part = placed_in (pre ++ (c ∷ [])) r

  before : (i : ℕ) → i < length pre → get_or (pre ++ (c ∷ [])) i 0 ≡ get_or pre i 0
  before i h = get_or-append pre (c ∷ []) 0 i h

  at_end : get_or (pre ++ (c ∷ [])) (length pre) 0 ≡ c
  at_end = get_or_at pre c [] 0 (length pre) refl

  -- A state before P.
  pub early_part : (s : ℕ) → s < last_state pre → placed_in (pre ++ (c ∷ [])) r s ≡ reverse_if (eqb (s % 2) 1) (slice (get_or pre (1 + s / 2 - 1) 0) (get_or pre (1 + s / 2) 0) r)
  early_part s h =
      part_slice (pre ++ (c ∷ [])) r cut_set s (1 + s / 2) (eqb (s % 2) 1) (omega arith) (omega (arith, long pre c)) (halves s)
      ∙ ap₂ (λ x y. reverse_if (eqb (s % 2) 1) (slice x y r)) (before (1 + s / 2 - 1) (omega arith)) (before (1 + s / 2) (omega arith))

  less : length pre - 1 < length pre
  less = omega arith

  -- P is entered at the first stop after the first cuts and left at the one before the last cut; reversed the other way round.
  pub PEntry : first_of (placed_in (pre ++ (c ∷ [])) r (last_state pre)) 0 ≡ get_or r (get_or pre (length pre - 1) 0) 0
  PEntry = sym (entry_at (pre ++ (c ∷ [])) r cut_set (last_state pre) (length pre) false some (omega (arith, long pre c)) (omega arith)) ∙ ap (λ x. get_or r x 0) (before _ less)

  pub PExit : last_of 0 (placed_in (pre ++ (c ∷ [])) r (last_state pre)) ≡ get_or r (c - 1) 0
  PExit = sym (exit_at (pre ++ (c ∷ [])) r cut_set (last_state pre) (length pre) false some (omega (arith, long pre c)) (omega arith)) ∙ ap (λ x. get_or r (x - 1) 0) at_end

  pub back_entry : first_of (placed_in (pre ++ (c ∷ [])) r (suc (last_state pre))) 0 ≡ get_or r (c - 1) 0
  back_entry = sym (entry_at (pre ++ (c ∷ [])) r cut_set (suc (last_state pre)) (length pre) true some (omega (arith, long pre c)) (omega arith)) ∙ ap (λ x. get_or r (x - 1) 0) at_end

  pub back_exit : last_of 0 (placed_in (pre ++ (c ∷ [])) r (suc (last_state pre))) ≡ get_or r (get_or pre (length pre - 1) 0) 0
  back_exit = sym (exit_at (pre ++ (c ∷ [])) r cut_set (suc (last_state pre)) (length pre) true some (omega (arith, long pre c)) (omega arith)) ∙ ap (λ x. get_or r x 0) (before _ less)

  pub PIs : (b : Bool) (s : ℕ) → s ≡ last_state pre + cond b 1 0 → placed_in (pre ++ (c ∷ [])) r s ≡ reverse_if b (slice (get_or pre (length pre - 1) 0) c r)
  PIs b s e =
      part_slice (pre ++ (c ∷ [])) r cut_set s (length pre) b some (omega (arith, long pre c)) (omega (arith, e))
      ∙ ap₂ (λ x y. reverse_if b (slice x y r)) (before _ less) at_end

-- P one stop long has no legs inside.
one_stop : (d : ℕ → ℕ → ℕ) (r : List ℕ) (q : ℕ) → q < length r → inner d (slice q (suc q) r) ≡ 0
unfolding inner path
one_stop d r q h = rw (slice-cons q (suc q) r 0 (omega arith) h, slice_empty (suc q) r)

module _ (P : Problem) (r pre : List ℕ) (some : 1 ≤ length pre) (c : ℕ) (cut_set : CutSet (length (pre ++ (c ∷ []))) (length r) (pre ++ (c ∷ []))) where
  abbrev d : ℕ → ℕ → ℕ
  d = P.leg

  abbrev p : ℕ
  p = last_state pre

  abbrev q : ℕ
  q = get_or pre (length pre - 1) 0

  abbrev now_part : ℕ → List ℕ
  now_part = placed_in (pre ++ (c ∷ [])) r

  abbrev first_part : ℕ → List ℕ
  first_part = placed_in (opened pre) r

  ends : (get_or pre (length pre - 1) 0 < c) × (c ≤ length r)
  ends = last_two (length r) 0 pre c some cut_set.rising

  pub first_set : CutSet (length (opened pre)) (length r) (opened pre)
  first_set = other_cut (length r) pre c (suc (get_or pre (length pre - 1) 0)) some cut_set (omega arith) (omega (arith, ends.0, ends.1))

  same_part : (s : ℕ) → s < last_state pre → placed_in (pre ++ (c ∷ [])) r s ≡ placed_in (opened pre) r s
  same_part s h = early_part r pre some c cut_set s h ∙ sym (early_part r pre some (suc q) first_set s h)

  small : p < 7
  small = omega (arith, cut_set.most, long pre c)

  same_exit : (a : ℕ) → Still (last_state pre) a →
      exit_of (placed_in (pre ++ (c ∷ [])) r) (head_end P r (pre ++ (c ∷ []))) a ≡ exit_of (placed_in (opened pre) r) (head_end P r (opened pre)) a
  same_exit a (inl h) = rw (ne_eqb a 9 (λ (e : a ≡ 9). omega (arith, small))) (ap (last_of 0) (same_part a h))
  same_exit a (inr (inl e)) = rw (eq-eqb a 9 e) (same_head P r pre c (suc q) some)
  same_exit a (inr (inr e)) =
      rw (e, ne_eqb (suc p) 9 (λ (z : suc p ≡ 9). omega (arith, small))) (back_exit r pre some c cut_set ∙ sym (back_exit r pre some (suc q) first_set))

  no_legs : inner d (first_part p) ≡ 0
  no_legs = ap (inner d) (PIs r pre some (suc q) first_set false p (omega arith)) ∙ unfold reverse_if in one_stop d r q (omega (arith, ends.0, ends.1))

  -- What the last cut adds.
  pub moving : (tail : ℕ) → ((a : ℕ) → After (last_state pre) a → tail ≤ P.leg (exit_of (placed_in (opened pre) r) (head_end P r (opened pre)) a) (tail_start P r (pre ++ (c ∷ [])))) →
      Moving (last_state pre) (fixed_by P.leg (placed_in (opened pre) r) (last_state pre) (head_end P r (opened pre)))
      (joint_by P.leg (placed_in (pre ++ (c ∷ [])) r) (head_end P r (pre ++ (c ∷ []))) (tail_start P r (pre ++ (c ∷ []))))
      (inner P.leg (placed_in (pre ++ (c ∷ [])) r (last_state pre))) tail (P.leg (get_or r (c - 1) 0) (tail_start P r (pre ++ (c ∷ []))))
      (λ b. P.leg (get_or r (c - 1) 0) (first_of (placed_in (opened pre) r b) 0) + inner P.leg (placed_in (opened pre) r b))
      (λ a. P.leg (exit_of (placed_in (opened pre) r) (head_end P r (opened pre)) a) (get_or r (c - 1) 0) + inner P.leg (placed_in (pre ++ (c ∷ [])) r (suc (last_state pre))))
  moving tail least =
      record {
        others = λ a b s l.
            rw (ne_eqb b 8 (λ (e : b ≡ 8). omega (arith, small)), le-ltb p b (omega arith), ne_eqb a p (not_P a s), same_exit a s, same_part b l);
        into = λ a s.
            rw (ne_eqb p 8 (λ (e : p ≡ 8). omega (arith, small)), le-ltb p p (omega arith), ne_eqb a p (not_P a (before_still s)), same_exit a (before_still s), PEntry r pre some c cut_set, PEntry r pre some (suc q) first_set, no_legs)
            (omega arith);
        turned = λ a s.
            rw (ne_eqb (suc p) 8 (λ (e : suc p ≡ 8). omega (arith, small)), lt-ltb p (suc p) (omega arith), same_exit a (before_still s), back_entry r pre some c cut_set) (omega arith);
        onward = λ b l.
            rw (ne_eqb b 8 (λ (e : b ≡ 8). omega (arith, small)), le-ltb p b (omega arith), eq-eqb p p refl, ne_eqb p 9 (λ (e : p ≡ 9). omega (arith, small)), PExit r pre some c cut_set, same_part b l) (omega arith);
        ending = λ a s. rw (lt-ltb p 8 (omega (arith, small)), same_exit a (after_still s)) (omega (arith, least a s));
        at_last = rw (lt-ltb p 8 (omega (arith, small)), ne_eqb p 9 (λ (e : p ≡ 9). omega (arith, small)), PExit r pre some c cut_set) (omega arith);
      }
    where
      not_P : (a : ℕ) → Still (last_state pre) a → a ≡ last_state pre → ⊥
      not_P a (inl h) e = omega arith
      not_P a (inr (inl h)) e = omega (arith, small)
      not_P a (inr (inr h)) e = omega arith
