-- `scan_rest::rest_end` meets its contract. Assumes nothing.
use mathlib.Core.Path.{refl, sym}
use mathlib.Core.Bool.{true≢false}
use native.Mathlib.Omega.{arith}
use borrow.Author.Tests.{eqb-true, eqb-false}
use Rattle.scan_rest.proofs.rest_end.Goals as goal

pub overflow_add-result : goal.overflow_add-result
overflow_add-result c = omega (arith, c.requires.0, c.requires.1 c.if-stretch.true)

pub returns-then-stretch : goal.returns-then-stretch
returns-then-stretch c = record { examined = refl; gains = sym c.if-stretch.true; over = λ e. absurd (true≢false (sym e)); not_over = λ e. absurd (true≢false e); pattern = λ _. refl }

pub returns : goal.returns
returns c = record { examined = refl; gains = sym c.if-stretch.false; over = λ e. eqb-true _ _ e; not_over = λ _ e. eqb-false _ _ e; pattern = λ e. absurd (true≢false (sym e)) }
