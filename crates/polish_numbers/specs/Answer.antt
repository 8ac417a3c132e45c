-- What was counted, as the answer of polishing or of the pair loop.
use Rattle.std.specs.Prelude.{Bool, true, false}
use Rattle.theory.specs.declared.Counts.{Counts}
use Rattle.theory.specs.declared.Polished.{Polished}
use Rattle.theory.specs.declared.Polished.TheVariants as Polishing

abbrev pub answer_of : (finished : Bool) → Counts → Polished
answer_of true c = Polishing.Finished c
answer_of false c = Polishing.Spent c
