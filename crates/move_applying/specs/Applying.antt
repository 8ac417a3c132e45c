-- Apply, undo and doable of document 01, with the cuts as a list of round numbers and a list of positions.
use Rattle.std.specs.Prelude.{◌≡◌, Bool, not, ◌&&◌, ◌||◌, List, ◌++◌, ℕ, ◌≤◌, ◌<◌, ltb, eqb, length, drop}
use Rattle.theory.specs.Moves.{patterns}
use Rattle.theory.specs.Route.{reconnected}
use Rattle.theory.specs.Polish.{move_at}
use Rattle.theory.specs.Tables.{CutSet}
use Rattle.std.specs.List.{list_any}
use Rattle.theory.specs.Refusals.{rises}

-- A pattern for k that can be applied at the positions, and a journal that has room for the stops.
pub record Appliable (k pattern : ℕ) (positions route journal : List ℕ) : Type 0 where
  pub cut_set : CutSet k (length route) positions
  pub listed : pattern < length (patterns k)
  pub room : length route ≤ length journal

-- The route is the one of the move; "apply puts the old stops in the first n journal places and leaves those beyond".
pub record Applied (k pattern : ℕ) (positions route journal route' journal' : List ℕ) : Type 0 where
  pub route_after : route' ≡ reconnected (move_at (patterns k) positions pattern) route
  pub journal_after : journal' ≡ route ++ drop (length route) journal

-- Not "22: undo with a journal length other than the round's".
pub record Undoable (route journal : List ℕ) : Type 0 where
  pub as_long : length journal ≡ length route

-- "Undo puts them back": the stops of the journal, which it only reads.
pub record Undone (journal route' : List ℕ) : Type 0 where
  pub route_after : route' ≡ journal

-- `k_opt_is_doable` "kept as it is": yes if there are k cuts, none above n, and one names another round or the positions rise strictly ("it passes
-- unordered cuts if one names another round").
abbrev pub doable : ℕ → ℕ → ℕ → List ℕ → List ℕ → Bool
doable k round n rounds positions =
    eqb (length rounds) k
    && eqb (length positions) k
    && not (list_any (λ p. ltb n p) positions)
    && (list_any (λ r. not (eqb r round)) rounds || rises positions)
