-- `nearby_last_cut::put_set` meets its contract: the set in its place is the run of stores. Assumes nothing.
use Rattle.std.proofs.Common.{◌≡◌, ◌+◌, ◌-◌, refl, arith, length, append_assoc}
use Rattle.std.proofs.lemmas.List.{drop-drop}
use Rattle.std.proofs.lemmas.List.Edits.{sets-eq}
use Rattle.nearby_last_cut.proofs.put_set.Goals as goal

pub returns : goal.returns
returns c =
    let e : c.args.at + length c.args.cuts.now - c.args.at ≡ length c.args.cuts.now = omega arith in
    rw (e, c.copy_from_slice.ensures.after, sets-eq c.args.cuts.now c.args.lent.now c.args.at c.requires) (simp (append_assoc, drop-drop) refl)
