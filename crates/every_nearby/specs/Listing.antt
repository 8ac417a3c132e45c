-- Every nearby cut set of a listing that keeps to a state.
use Rattle.std.specs.Prelude.{List, ℕ, Float}
use Rattle.nearby_last_cut.specs.declared.NearbyCutState.{NearbyCutState}
use Rattle.every_nearby_sets.specs.Every.{every_sets}

abbrev pub every_of_state : NearbyCutState → List Float → List (List ℕ)
every_of_state state distances = every_sets distances state.len state.k state.min_segment_len state.max_nearby
