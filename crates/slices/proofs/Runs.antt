-- The definitions give the table's column of results. Assumes nothing.
use mathlib.Core.Path.{◌≡◌, refl}
use mathlib.Core.List.{map}
use Rattle.theory.specs.Scan.{scan_from}
use Rattle.theory.specs.Moves.{cut_sets, candidates}
use Rattle.theory.specs.Pairs.{pairs_of, pairs_kept}
use Rattle.theory.specs.Route.{tour_length, reconnected, timely}
use Rattle.theory.specs.Refusals.{rises, refusal}
use Rattle.slices.specs.Places.{same_cuts, sets_before, number_of, place_of}
use Rattle.slices.specs.Slices.{left_over, slice_on, in_slices}
use Rattle.slices.specs.Runs.{answer, runs}

pub as_told : map (λ r. answer r.0) runs ≡ map (λ r. r.1) runs
unfolding answer slice_on in_slices scan_from left_over number_of place_of sets_before same_cuts candidates cut_sets tour_length reconnected timely pairs_kept pairs_of refusal rises
as_told = refl
