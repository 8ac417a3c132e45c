-- `candidates::build_candidate` meets its contract: the order and the mask that are lent are the pattern's. Assumes nothing.
use mathlib.Core.Path.{◌∙◌}
use Rattle.candidates.proofs.Candidate.{lent_once, lent_candidate}
use Rattle.candidates.proofs.build_candidate.Goals as goal

pub reconnect-requires : goal.reconnect-requires
reconnect-requires c =
    record {
      cut_set = c.requires.of.cut_set;
      once = lent_once c.requires.of;
      room = c.requires.room;
    }

pub returns : goal.returns
returns c =
    c.reconnect.ensures
    ∙ lent_candidate c.requires.of
