-- `scan_taking::heads_left` meets its contract. Assumes nothing.
use mathlib.Core.Logic.{inl, inr, ⊎_elim}
use native.Mathlib.Omega.{arith}
use Rattle.scan_taking.proofs.heads_left.Goals as goal

pub returns-then-members-eq0 : goal.returns-then-members-eq0
returns-then-members-eq0 c = record { is = λ ps l. inl (omega arith) }

pub returns-then-since-eq0 : goal.returns-then-since-eq0
returns-then-since-eq0 c = record { is = λ ps l. inl (omega arith) }

pub contradict-requires : goal.contradict-requires
contradict-requires c =
    let t = c.requires.tellable in
    record { places = ⊎_elim (λ e. absurd (c.if-members-eq0.false e)) (λ e. e) t.sized; short = t.short; known = t.known }

pub returns-then-contradict : goal.returns-then-contradict
returns-then-contradict c = record { is = λ ps l. ⊎_elim (λ e. absurd (c.if-members-eq0.false e.1)) (λ m. inr (omega arith, c.contradict.ensures.is c.if-contradict.true ps m.1)) l }

pub returns : goal.returns
returns c = record { is = λ ps l. inl (omega arith) }
