-- `precedence_closing::next_event` meets its contract. Assumes nothing.
use mathlib.Core.Path.{refl}
use mathlib.Core.Logic.{inl, inr}
use native.Mathlib.Omega.{arith}
use Rattle.precedence_closing.proofs.next_event.Goals as goal

pub returns-then-a-b : goal.returns-then-a-b
returns-then-a-b c = record { is = inl (c.if-a-b.true, refl, refl) }

pub returns : goal.returns
returns c = record { is = inr (omega (arith, c.requires.0, c.if-a-b.false), refl, refl) }
