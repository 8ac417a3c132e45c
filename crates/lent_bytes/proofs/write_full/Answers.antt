use Rattle.std.proofs.Common.{rules, sym, subst, ap, ◌∙◌, take, ◌++◌}
use Rattle.std.proofs.lemmas.List.{take_rest}
use Rattle.std.proofs.Math.Seq.{take-add}
use Rattle.std.specs.Io.KnownBytes.{Appends}
use Rattle.std.proofs.KnownBytes.{Appends-trans}
use Rattle.lent_bytes.proofs.write_full.Goals as goal

pub loop-done-preserved : goal.loop-done-preserved
loop-done-preserved g c =
    let bytes = c.args.bytes.now in
    let done = c.loop-done.done in
    let count = c.in_ok-count.count in
    let joined = take-add done count bytes ∙ ap (λ rest. take done bytes ++ take count rest) (sym (take_rest bytes done)) in
    record {
      within = search rules;
      written = subst (Appends _ _) (sym joined) (Appends-trans _ _ _ _ _ c.loop-done.invariant.written c.in_ok-count.ensures.bytes);
    }
