-- `scan_taking::measure` meets its contract. Assumes nothing.
use native.Mathlib.Omega.{arith}
use Rattle.scan_taking.proofs.Taking.{stays_fillable}
use Rattle.scan_taking.proofs.measure.Goals as goal

pub fill_stays-requires : goal.fill_stays-requires
fill_stays-requires c = stays_fillable c.requires.clocked c.requires.stay_places

pub tell_limits-requires : goal.tell_limits-requires
tell_limits-requires c =
    let p = c.requires in
    let m = p.clocked.followable in
    record { sized = p.sized; short = m.stops.short; known = λ i h. omega (arith, m.stops.known i h, m.table.few) }

pub returns : goal.returns
returns c =
    record {
      forwards = c.forward_sums.ensures.sums;
      backwards = c.backward_sums.ensures.sums;
      stays = c.fill_stays.ensures;
      punctual = c.fill_lateness-punctual.result;
      head = c.fill_lateness-punctual.ensures.head;
      told = c.tell_limits.ensures;
      latenesses = c.fill_lateness-punctual.ensures.tail;
    }
