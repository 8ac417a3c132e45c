-- What is known of a route that is measured.
use Rattle.std.specs.Prelude.{ℕ, List}
use Rattle.theory.specs.Pairs.{pairs_of}
use Rattle.theory.specs.Costs.{forward, backward}
use Rattle.theory.specs.Tables.{clock_by, Timed, Trip}
use Rattle.costs.specs.RouteCosts as Costs
use Rattle.deadlines.specs.Stays.{Stays}
use Rattle.deadlines.specs.Lateness.{Latenesses}
use Rattle.precedence.specs.Words.{BackSince}
use Rattle.scan_round.specs.declared.Sums.{Sums}

pub record Measured (T : Trip) (route : List ℕ) (sums : Sums) (since : ℕ) : Type 0 where
  pub timed : Timed T route
  pub forwards : Costs.Sums route (forward (Costs.leg T.tables.locations T.tables.legs) route) sums.forward
  pub backwards : Costs.Sums route (backward (Costs.leg T.tables.locations T.tables.legs) route) sums.backward
  pub stays : Stays T.tables.service route sums.stayed
  pub latenesses : Latenesses (clock_by T.tables) T.depot route sums.lateness
  pub back : BackSince (pairs_of T.pairs) route since
