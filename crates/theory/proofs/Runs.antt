-- The definitions give the table's column of results. Assumes nothing.
use mathlib.Core.Path.{◌≡◌, refl}
use mathlib.Core.List.{map}
use Rattle.theory.specs.Scan.{scan_from}
use Rattle.theory.specs.Moves.{cut_sets, candidates}
use Rattle.theory.specs.Pairs.{pairs_of, pairs_kept}
use Rattle.theory.specs.Route.{tour_length, reconnected, timely, late_position}
use Rattle.theory.specs.Runs.{answer, runs}

pub starred : map (λ r. answer r.0) runs ≡ map (λ r. r.1) runs
unfolding answer scan_from candidates cut_sets tour_length reconnected timely late_position pairs_kept pairs_of
starred = refl
