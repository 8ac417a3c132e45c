-- `precedence_closing::event_sign` meets its contract. Assumes nothing.
use mathlib.Core.Path.{refl}
use mathlib.Core.Logic.{inl, inr}
use Rattle.precedence_closing.proofs.Closed.{event_asked}
use Rattle.precedence_closing.proofs.event_sign.Goals as goal

pub visited_between-requires : goal.visited_between-requires
visited_between-requires c = event_asked c.args.visits.now c.args.cuts.now c.args.a c.args.b c.requires

pub returns-then-visited_between : goal.returns-then-visited_between
returns-then-visited_between c = record { is = inr (refl, c.visited_between.ensures.is c.if-visited_between.true) }

pub returns : goal.returns
returns c = record { is = inl refl }
