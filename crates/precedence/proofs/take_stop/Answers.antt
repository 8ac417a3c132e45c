-- `precedence::take_stop` meets its contract. Assumes nothing.
use Rattle.precedence.proofs.Growth.{part_more}
use Rattle.precedence.proofs.take_stop.Goals as goal

pub returns : goal.returns
returns c =
    record {
      is = λ ps m part w. rw (c.firsts_at-first.ensures, c.seconds_at-second.ensures) (part_more ps c.args.members.now part c.args.stop c.requires.known m w);
    }
