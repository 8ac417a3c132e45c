-- When the head is left: when its last stop is. Assumes nothing.
use mathlib.Core.Path.{◌≡◌, sym, ◌∙◌}
use mathlib.Core.List.{List}
use Prim.Native.Nat.{ℕ, ◌+◌, ◌-◌, ◌≤◌}
use native.Mathlib.Omega.{arith}
use lib.ListN.{length, get_or, take}
use Rattle.theory.specs.Moves.{total}
use Rattle.theory.specs.Route.{path}
use Rattle.theory.specs.Tables.{Tables, CutSet, timetable_by, clock_by}
use Rattle.theory.proofs.Clock.{path_step}
use Rattle.costs.proofs.Segments.{cut_below, head_at}
use Rattle.deadlines.specs.Lateness.{LeftAt}
use Rattle.deadlines.specs.Stays.{Stays}
use Rattle.deadline_dues.specs.Parts.{head, HeadTimed, HeadClock}

module _ {locations : ℕ} {legs : List ℕ} {depot : ℕ} {r sums stayed cs : List ℕ} (given : HeadTimed locations legs depot r sums stayed cs) where
  pub first_within : get_or cs 0 0 ≤ length r
  first_within = cut_below cs r given.cut_set 0 (omega (arith, given.cut_set.least))

  whole_head : head r cs ≡ take (get_or cs 0 0) r
  whole_head = head_at cs r (omega (arith, given.cut_set.least))

  pub no_head : get_or cs 0 0 ≡ 0 → HeadClock locations legs depot r stayed cs 0
  unfolding path
  no_head e = record { is = rw (whole_head, e) (omega (arith, given.none)); early = omega arith }

  pub some_head : (v : ℕ) → (get_or cs 0 0 ≡ 0 → ⊥) → LeftAt locations legs depot r stayed (get_or cs 0 0 - 1) v → HeadClock locations legs depot r stayed cs v
  some_head v n a =
      let c : get_or cs 0 0 - 1 + 1 ≡ get_or cs 0 0 = omega arith in
      record { is = a.is ∙ rw (c, whole_head); early = a.early }

-- On the clock.
pub head_left : (T : Tables) {depot : ℕ} {r stayed cs : List ℕ} {v : ℕ} → Stays T.service r stayed → CutSet (length cs) (length r) cs → HeadClock T.locations T.legs depot r stayed cs v →
    v ≡ path (clock_by T).step depot (head r cs)
head_left T {depot} {r} {stayed} {cs} stays cut_set h =
    let e : head r cs ≡ take (get_or cs 0 0) r = head_at cs r (omega (arith, cut_set.least)) in
    let s : total (λ x. get_or T.service x 0) (head r cs) ≡ get_or stayed (get_or cs 0 0) 0 = rw e (sym (stays.each _ (cut_below cs r cut_set 0 (omega (arith, cut_set.least))))) in
    omega (arith, h.is, s, path_step (timetable_by T) depot (head r cs))
