-- `scan_cut_set::Held::row_kept` meets its contract. Assumes nothing.
use mathlib.Core.Path.{◌≡◌, sym, ap, ◌∙◌}
use mathlib.Core.Bool.{Bool, false, ◌&&◌, and-true, and-false}
use Prim.Native.Nat.{◌+◌, ◌*◌}
use lib.Seq.{slice}
use Rattle.deadline_dues.specs.Dues.{is_in_time}
use Rattle.deadline_dues.specs.declared.Timing.{Timing}
use Rattle.deadline_dues.specs.declared.Timing.TheVariants as Judged
use Rattle.precedence_marks.specs.Held.{in_order}
use Rattle.scan_cut_set.proofs.FirstDue.{row_ordered}
use Rattle.scan_cut_set.proofs.Held.row_kept.Goals as goal

told : {t : Timing} {b : Bool} → t ≡ Judged.InTime → is_in_time t ≡ b → (o : Bool) → o ≡ (o && b)
told e h o = let f = rw e at h in sym (ap (λ z. o && z) (sym f) ∙ and-true o)

told_late : {t : Timing} {b : Bool} → t ≡ Judged.Late → is_in_time t ≡ b → (o : Bool) → false ≡ (o && b)
told_late e h o = let f = rw e at h in sym (ap (λ z. o && z) (sym f) ∙ and-false o)

pub row_in_order-requires : goal.row_in_order-requires
row_in_order-requires c = row_ordered c.requires

pub returns-in-InTime : goal.returns-in-InTime
returns-in-InTime c = c.row_in_order.ensures ∙ told c.in-InTime.is c.judge_row-judged.ensures _

pub returns : goal.returns
returns c =
    told_late c.in_default.is c.judge_row-judged.ensures (in_order c.args.self.now.marks 0 (slice (4 * c.args.i) (4 * c.args.i + c.args.m) c.args.rows.now.states.now))
