-- The scan's loop, over plain lists: what holds at each turn. Assumes nothing.
use mathlib.Core.Path.{◌≡◌, refl}
use mathlib.Core.List.{List, [], ◌∷◌}
use Prim.Native.Nat.{ℕ, zero, suc, ◌<◌, ◌≤◌}
use native.Mathlib.Omega.{arith}
use lib.ListN.{length, take}
use Rattle.theory.specs.Moves.{upfrom}
use Rattle.theory.specs.Polish.{ForCuts}
use Rattle.theory.specs.Tables.{problem, Timed, CutSet, PatternRows, pattern_rows, Trip}
use Rattle.theory.proofs.Rows.{length_rows}
use Rattle.theory.proofs.ForK.{rows_for_cuts}
use Rattle.theory.proofs.Stops.{stops_rearranged}
use Rattle.slices.proofs.Slicing as Slicing
use Rattle.scan_loop.specs.Loop.{Scannable, place_held}

-- The first cut set, as the array has it.
pub first_set : (k : ℕ) → k ≤ 5 → take k (0 ∷ 1 ∷ 2 ∷ 3 ∷ 4 ∷ []) ≡ upfrom 0 k
unfolding upfrom
first_set zero h = refl
first_set (suc zero) h = refl
first_set (suc (suc zero)) h = refl
first_set (suc (suc (suc zero))) h = refl
first_set (suc (suc (suc (suc zero)))) h = refl
first_set (suc (suc (suc (suc (suc zero))))) h = refl
first_set (suc (suc (suc (suc (suc (suc k)))))) h = absurd (omega arith)

module _ (k : ℕ) (T : Trip) (orders masks members start : List ℕ) (from : ℕ) (route₀ : List ℕ) (A : ℕ) (ok : Scannable k T orders masks members start from route₀) where
  -- At cuts and an index, with e examined and c accepted.
  abbrev pub At : List ℕ → ℕ → ℕ → ℕ → List ℕ → Type 0
  At cuts i e c r = Slicing.Slicing (problem T) (pattern_rows k orders masks) k A (place_held k start from) route₀ cuts i e c r

  pub many : length (pattern_rows k orders masks) ≡ length masks
  many = length_rows k orders masks

  pub for_cuts : ForCuts k (pattern_rows k orders masks)
  for_cuts = rows_for_cuts k orders masks (omega (arith, ok.least)) ok.patterns

  pub starts : At (take k start) from 0 0 route₀
  starts = Slicing.starts (problem T) (pattern_rows k orders masks) k A (place_held k start from) route₀ ok.least ok.most ok.timed.measurable.stops.short ok.place

  module _ (cuts : List ℕ) (i e c : ℕ) (r : List ℕ) (now : At cuts i e c r) where
    pub below : e ≤ A
    below = Slicing.within (problem T) (pattern_rows k orders masks) k A (place_held k start from) route₀ cuts i e c r now

    pub same_size : length r ≡ length route₀
    same_size = Slicing.as_long (problem T) (pattern_rows k orders masks) k A (place_held k start from) route₀ cuts i e c r now

    pub index_below : i < length masks
    index_below = omega (arith, now.known, many)

    -- The tables serve the route at hand, and the cuts are cuts of it.
    pub timed : Timed T r
    timed =
        record {
          measurable = record {
            table = ok.timed.measurable.table;
            depot_known = ok.timed.measurable.depot_known;
            end_known = ok.timed.measurable.end_known;
            stops = stops_rearranged route₀ r now.same T.tables.locations ok.timed.measurable.stops;
          };
          times = ok.timed.times;
        }

    pub own_cuts : CutSet (length cuts) (length r) cuts
    own_cuts = rw (now.cut_set.many, same_size) now.cut_set

    pub own_rows : PatternRows (length cuts) orders masks
    own_rows = rw now.cut_set.many ok.patterns
