use Rattle.std.proofs.Common.{rules, sym, subst}
use Rattle.std.specs.Io.KnownBytes.{Consumes}
use Rattle.std.proofs.KnownBytes.{Consumes-trans}
use Rattle.lent_bytes.proofs.Parts.{take_read}
use Rattle.lent_bytes.proofs.read_full.Goals as goal

pub loop-done-preserved : goal.loop-done-preserved
loop-done-preserved g c =
    let joined = take_read c.loop-done.done _ c.in_ok-count.count c.loop-done.bytes c.read.new.buf c.loop-done.invariant.within c.in_ok-count.ensures.bound.0 in
    record {
      within = search rules;
      read = subst (Consumes _ _) (sym joined) (Consumes-trans _ _ _ _ _ c.loop-done.invariant.read c.in_ok-count.ensures.bytes.0);
    }
