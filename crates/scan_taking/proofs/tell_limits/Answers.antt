-- `scan_taking::tell_limits` meets its contract. Assumes nothing.
use Rattle.scan_taking.proofs.tell_limits.Goals as goal

pub returns : goal.returns
returns c =
    record {
      reach = c.head_limit-reach.result;
      front = c.head_limit-reach.ensures;
      heads = rw c.lesser-longest.ensures at c.heads_left-heads.ensures;
      back = c.tail_since-since.ensures;
    }
