-- `pattern_at`: the row of the enumeration is the order of the pattern.
use mathlib.Core.Path.{refl}
use lib.ListN.{replicate}
use Rattle.patterns.proofs.Reading.{row_in_six, mask_of}
use Rattle.patterns.proofs.pattern_at.Goals as goal

pub returns : goal.returns
returns c =
    let e = c.enumerate_reconnections in
    record {
      order = row_in_six c.args.k c.args.index c.requires e.result (replicate 2298 0) (replicate 383 0) e.new.orders e.new.masks e.ensures c.copy_in.new.out c.copy_in.ensures;
      mask = mask_of c.args.k c.args.index c.requires e.result (replicate 2298 0) (replicate 383 0) e.new.orders e.new.masks e.ensures;
      segments = refl;
    }
