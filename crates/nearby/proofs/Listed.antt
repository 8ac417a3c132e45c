-- What the listing answers, against the definition. Assumes nothing.
use mathlib.Core.Path.{◌≡◌}
use mathlib.Core.List.{List}
use Prim.Native.Nat.{ℕ, ◌*◌, ◌/◌, ◌≤◌, ◌<◌}
use native.Mathlib.Nat.{div-mul-le_self}
use lib.ListN.{length}
use lib.Ieee.{Float}
use Rattle.theory.specs.declared.Listing.TheVariants as Listed
use Rattle.nearby.specs.Walk.{nearby_sets}
use Rattle.nearby_last_cut.specs.Pouring.{pour}
use Rattle.nearby.specs.Listing.{Lists}
use Rattle.nearby.proofs.Pour.{Each, lent_as, more_as, ended_as}
use Rattle.nearby.proofs.Sets.{sets_spaced}

module _ (distances : List Float) (n k m count : ℕ) (least : 2 ≤ k) (seen : ℕ) (lent lent' : List ℕ) (poured : (seen, lent') ≡ pour (length lent / k) k 0 lent (nearby_sets distances n k m count)) where
  abbrev walk : List (List ℕ)
  walk = nearby_sets distances n k m count

  each : Each k (nearby_sets distances n k m count)
  each s i = (sets_spaced distances n m count k least s i).0

  fits : length lent / k * k ≤ length lent
  fits = div-mul-le_self (length lent) k

  pub more_listed : length lent / k < seen → Lists n k m (nearby_sets distances n k m count) lent (Listed.More (length lent / k)) lent'
  more_listed h =
      let e = more_as (length lent / k) k walk each seen lent lent' fits poured h in
      record { answer_is = rw (e.0, e.1); lent_is = lent_as (length lent / k) k walk each seen lent lent' fits poured; spaced = sets_spaced distances n m count k least }

  pub ended_listed : seen ≤ length lent / k → Lists n k m (nearby_sets distances n k m count) lent (Listed.Ended seen) lent'
  ended_listed h =
      let e = ended_as (length lent / k) k walk each seen lent lent' fits poured h in
      record { answer_is = rw (e.0, e.1); lent_is = lent_as (length lent / k) k walk each seen lent lent' fits poured; spaced = sets_spaced distances n m count k least }
