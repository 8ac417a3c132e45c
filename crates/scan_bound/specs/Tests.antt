-- The test of a last cut.
use Rattle.std.specs.Prelude.{◌≡◌, Bool, false, List, [], ℕ, ◌+◌, ◌*◌, ◌^◌, ◌≤◌, ◌<◌, length, get_or}
use Rattle.theory.specs.Tables.{legs_only, LegTable}
use Rattle.costs.specs.RouteCosts.{leg, head_end, first_cuts, last_cut}
use Rattle.scan_shared.specs.Prepared.{Cut, Prepared, Places}
use Rattle.scan_bound.specs.NoGain.{NoGain}

-- The states before P, to be entered from a known stop.
pub record IntoFits (locations : ℕ) (legs : List ℕ) (from : ℕ) (entries inside low : List ℕ) (p : ℕ) : Type 0 where
  pub last : p ≤ 6
  pub table : LegTable locations legs
  pub from_known : from < locations
  pub entry_places : length entries ≡ 8
  pub inside_places : length inside ≡ 8
  pub low_places : length low ≡ 21
  pub low_small : (c : ℕ) → get_or low c 0 ≤ 2 ^ 43
  pub entries_known : (s : ℕ) → s < p → get_or entries s 0 < locations
  pub inside_small : (s : ℕ) → s < p → get_or inside s 0 ≤ 1000000 * 512

-- At most what P costs before any of them.
pub record LeastInto (locations : ℕ) (legs : List ℕ) (from : ℕ) (entries inside low : List ℕ) (p r : ℕ) : Type 0 where
  pub small : r ≤ 2 ^ 44
  pub below : (w : ℕ) → w < p → r ≤ get_or low w 0 + (leg locations legs from (get_or entries w 0) + get_or inside w 0)

-- The states before P, to be left for a known stop.
pub record OutFits (locations : ℕ) (legs exits : List ℕ) (to : ℕ) (add : List ℕ) (start p : ℕ) : Type 0 where
  pub last : p ≤ 6
  pub table : LegTable locations legs
  pub to_known : to < locations
  pub exit_places : length exits ≡ 8
  pub add_places : length add ≡ 21
  pub add_small : (c : ℕ) → get_or add c 0 ≤ 2 ^ 43
  pub exits_known : (s : ℕ) → s < p → get_or exits s 0 < locations

-- At most `start`, and at most what any of them costs.
pub record LeastOut (locations : ℕ) (legs exits : List ℕ) (to : ℕ) (add : List ℕ) (start p r : ℕ) : Type 0 where
  pub start_above : r ≤ start
  pub below : (u : ℕ) → u < p → r ≤ get_or add (10 + u) 0 + leg locations legs (get_or exits u 0) to

-- What the test of last cut c reads. `zero` holds nothing.
pub record PromisingTestable (locations : ℕ) (legs : List ℕ) (depot end : ℕ) (route forward_sums backward_sums cuts : List ℕ) (head : ℕ) (entries exits inside low zero : List ℕ) (c : ℕ) : Type 0 where
  pub cut : Cut locations legs depot end route forward_sums backward_sums cuts
  pub head_is : head ≡ head_end (legs_only locations legs depot end) route cuts
  pub places : Places entries exits inside low
  pub prepared : Prepared locations legs depot route (first_cuts cuts) [] 0 entries exits inside low
  pub zero_places : length zero ≡ 21
  pub zero_is : (x : ℕ) → get_or zero x 0 ≡ 0
  pub least : last_cut cuts ≤ c
  pub most : c ≤ length route

-- Where it is not promising no pattern gains, whichever rows the least costs are of.
abbrev pub PromisingTested : ℕ → List ℕ → (depot end : ℕ) → List ℕ → List ℕ → List ℕ → List ℕ → List ℕ → List ℕ → ℕ → Bool → Type 0
PromisingTested locations legs depot end route cuts entries exits inside low c r =
    r ≡ false → (rows : List ℕ) (count : ℕ) → Prepared locations legs depot route (first_cuts cuts) rows count entries exits inside low → NoGain locations legs depot end route (first_cuts cuts) rows count c

-- What is read to pass over last cuts.
pub record Nextable (locations : ℕ) (legs : List ℕ) (depot end : ℕ) (route forward_sums backward_sums cuts entries exits inside low zero : List ℕ) : Type 0 where
  pub cut : Cut locations legs depot end route forward_sums backward_sums cuts
  pub places : Places entries exits inside low
  pub prepared : Prepared locations legs depot route (first_cuts cuts) [] 0 entries exits inside low
  pub zero_places : length zero ≡ 21
  pub zero_is : (x : ℕ) → get_or zero x 0 ≡ 0

-- From the last cut on, the first that is promising: none before it gains, whichever rows the least costs are of.
pub record NextPromising (locations : ℕ) (legs : List ℕ) (depot end : ℕ) (route cuts entries exits inside low : List ℕ) (r : ℕ) : Type 0 where
  pub least : last_cut cuts ≤ r
  pub most : r ≤ length route + 1
  pub idle : (c : ℕ) → last_cut cuts ≤ c → c < r → (rows : List ℕ) (count : ℕ) → Prepared locations legs depot route (first_cuts cuts) rows count entries exits inside low →
      NoGain locations legs depot end route (first_cuts cuts) rows count c
