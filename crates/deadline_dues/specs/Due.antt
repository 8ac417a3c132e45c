-- The due of a placed segment: the second before which it must be left.
use Rattle.std.specs.Prelude.{◌≡◌, List, reverse, ℕ, ◌+◌, ◌-◌, ◌*◌, ◌^◌, ◌≤◌, ◌<◌, ltb, length, get_or}
use Rattle.std.proofs.Math.Seq.{slice}
use Rattle.theory.specs.Route.{Clock, path, on_time}
use Rattle.theory.specs.Costs.{backward}
use Rattle.theory.specs.Tables.{Tables, LegTable, Times, Stops, clock_by}
use Rattle.costs.specs.RouteCosts.{leg, Sums}
use Rattle.deadlines.specs.Stays.{Stays}

-- From wherever and at whatever second one sets out, no stop of the part is late exactly where its last one is left before the due.
pub record Due (C : Clock) (part : List ℕ) (due : ℕ) : Type 0 where
  pub is : (a t : ℕ) → on_time C a t part ≡ ltb (t + path C.step a part) due

-- A location, the latest second of each, and the service of it.
pub record OwnDueAsked (latest : List ℕ) (stop served : ℕ) : Type 0 where
  pub known : stop < length latest
  pub few : length latest ≤ 1024
  pub brief : served ≤ 1000000

pub record OwnDue (latest : List ℕ) (stop served due : ℕ) : Type 0 where
  pub is : due ≡ get_or latest stop 0 + served + 1
  pub small : due ≤ 2 ^ 33

-- Backward sums and stays that rise from one position to another.
pub record WayBackAsked (backward_sums stayed : List ℕ) (start end : ℕ) : Type 0 where
  pub places : length backward_sums ≡ 512
  pub stay_places : length stayed ≡ 513
  pub filled : start < end
  pub within : end < 512
  pub rises : get_or backward_sums start 0 ≤ get_or backward_sums end 0
  pub stays : get_or stayed start 0 ≤ get_or stayed end 0
  pub small : get_or backward_sums end 0 ≤ 512 * 1000000
  pub brief : get_or stayed end 0 ≤ 512 * 1000000

pub record WayBack (backward_sums stayed : List ℕ) (start end seconds : ℕ) : Type 0 where
  pub is : seconds ≡ get_or backward_sums end 0 - get_or backward_sums start 0 + (get_or stayed end 0 - get_or stayed start 0)
  pub small : seconds ≤ 1024 * 1000000

-- A segment as it stands and reversed.
pub record SegmentDues (C : Clock) (segment : List ℕ) (straight reversed : ℕ) : Type 0 where
  pub as_it_stands : Due C segment straight
  pub turned : Due C (reverse segment) reversed
  pub small : straight ≤ 2 ^ 33
  pub turned_small : reversed ≤ 2 ^ 33

-- What the dues of a route's segments are read from.
pub record DuesRead (T : Tables) (route backward_sums stayed : List ℕ) : Type 0 where
  pub table : LegTable T.locations T.legs
  pub times : Times T
  pub stops : Stops T.locations route
  pub backwards : Sums route (backward (leg T.locations T.legs) route) backward_sums
  pub stays : Stays T.service route stayed

-- A segment of a route, not empty.
pub record Spannable (T : Tables) (route backward_sums stayed : List ℕ) (start end : ℕ) : Type 0 where
  pub read : DuesRead T route backward_sums stayed
  pub filled : start < end
  pub within : end ≤ length route

-- A segment whose dues are known, with a stop behind it.
pub record Growable (T : Tables) (route backward_sums stayed : List ℕ) (start end straight reversed : ℕ) : Type 0 where
  pub of : Spannable T route backward_sums stayed start end
  pub more : end < length route
  pub dues : SegmentDues (clock_by T) (slice start end route) straight reversed

-- A segment whose dues are known, with the stops up to `to` behind it.
pub record GrowableTo (T : Tables) (route backward_sums stayed : List ℕ) (start end to straight reversed : ℕ) : Type 0 where
  pub of : Spannable T route backward_sums stayed start end
  pub least : end ≤ to
  pub most : to ≤ length route
  pub dues : SegmentDues (clock_by T) (slice start end route) straight reversed
