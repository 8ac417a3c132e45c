-- `deadline_dues::head_clock` meets its contract. Assumes nothing.
use native.Mathlib.Omega.{arith}
use Prim.Native.Nat.{ℕ, ◌<◌}
use mathlib.Core.Path.{◌≡◌}
use Rattle.deadline_dues.proofs.Head.{first_within, no_head, some_head}
use Rattle.deadline_dues.proofs.head_clock.Goals as goal

positive : {n : ℕ} → (n ≡ 0 → ⊥) → 0 < n
positive h = omega arith

pub returns-then-first-eq0 : goal.returns-then-first-eq0
returns-then-first-eq0 c = no_head c.requires c.if-first-eq0.true

pub left_at-requires : goal.left_at-requires
left_at-requires c =
    let h = positive c.if-first-eq0.false in
    record {
      followable = c.requires.followable;
      forwards = c.requires.forwards;
      within = omega (arith, first_within c.requires, h);
      places = c.requires.places;
      brief = c.requires.small _ (omega (arith, first_within c.requires, h));
    }

pub returns : goal.returns
returns c = some_head c.requires _ c.if-first-eq0.false c.left_at.ensures
