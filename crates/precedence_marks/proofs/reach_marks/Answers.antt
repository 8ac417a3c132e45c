-- `precedence_marks::reach_marks` meets its contract. Assumes nothing.
use mathlib.Core.Logic.{⊎_elim}
use native.Mathlib.Omega.{arith}
use Rattle.precedence_marks.proofs.reach_marks.Goals as goal

pub fill_marks-requires : goal.fill_marks-requires
fill_marks-requires c =
    let p = c.requires in
    record { readable = p.readable; cut_set = p.cut_set; fewer = omega (arith, p.cut_set.least); places = p.places }

pub stretch_marks-requires : goal.stretch_marks-requires
stretch_marks-requires c =
    let p = c.requires in
    let some = c.if-reached-eq0.false in
    record {
      readable = p.readable;
      cut_set = p.cut_set;
      places = p.places;
      some = omega (arith, some);
      before = ⊎_elim (λ e. absurd (some e)) (λ w. w) p.before;
      behind = p.behind;
    }
