use Rattle.std.proofs.Common.{◌∙◌, sym, ap, map, arith}
use Rattle.std.proofs.lemmas.List.{get_or-map}
use lib.ListN.{length-map}
use Rattle.moves.proofs.Shown.{copied_more}
use Rattle.moves.proofs.put_numbers.Goals as goal

pub loop-i-preserved : goal.loop-i-preserved
loop-i-preserved g c =
    let l = c.loop-i in
    let value = g.T.Number.value in
    let numbers = c.args.numbers.now in
    rw l.invariant
    (copied_more (map value numbers) c.args.res.now l.i c.wide.result (simp length-map (omega arith)) (simp length-map c.requires)
    (get_or-map value numbers l.i c.index-numbers-i.result 0 c.loop-i-test.true ∙ ap value (sym c.index-numbers-i.is) ∙ sym c.wide.ensures))
