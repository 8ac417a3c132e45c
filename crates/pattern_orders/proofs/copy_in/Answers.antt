-- `copy_in`: the part in its place is the run of stores.
use Rattle.std.proofs.Common.{◌≡◌, ◌+◌, ◌-◌, refl, arith, length, append_assoc}
use Rattle.std.proofs.lemmas.List.{drop-drop}
use Rattle.std.proofs.lemmas.List.Edits.{sets-eq}
use Rattle.pattern_orders.proofs.copy_in.Goals as goal

pub returns : goal.returns
returns c =
    let e : c.args.at + length c.args.part.now - c.args.at ≡ length c.args.part.now = omega arith in
    rw (e, c.copy_from_slice.ensures.after, sets-eq c.args.part.now c.args.out.now c.args.at c.requires) (simp (append_assoc, drop-drop) refl)
