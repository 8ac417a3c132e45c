-- A lent list of cut points, "each a round number and a position", and the numbers of the first six.
use Rattle.std.specs.Prelude.{◌≡◌, List, [], ◌∷◌, map, ℕ, ◌≤◌, min, length, get_or, take}
use Rattle.move_points.specs.declared.CutPoint.{CutPoint}
use Rattle.move_points.specs.declared.CutNumbers.{CutNumbers}

abbrev pub rounds_of : List CutPoint → List ℕ
rounds_of cuts = map (λ c. c.round) cuts

abbrev pub positions_of : List CutPoint → List ℕ
positions_of cuts = map (λ c. c.position) cuts

-- The cut point at a place, with 0 for both beyond the last.
abbrev pub cut_at : List CutPoint → ℕ → CutPoint
cut_at cuts i = get_or cuts i (record { round = 0; position = 0 })

abbrev pub numbers_of : ℕ → CutPoint → CutPoint → CutPoint → CutPoint → CutPoint → CutPoint → CutNumbers
numbers_of count a b c d e f =
    record {
      len = min count 6;
      rounds = a.round ∷ b.round ∷ c.round ∷ d.round ∷ e.round ∷ f.round ∷ [];
      positions = a.position ∷ b.position ∷ c.position ∷ d.position ∷ e.position ∷ f.position ∷ [];
    }

-- As many numbers as the length says, at least.
pub record Sized (held : CutNumbers) : Type 0 where
  pub rounds_long : held.len ≤ length held.rounds
  pub positions_long : held.len ≤ length held.positions

-- The numbers of the first six cut points.
pub record HoldsCuts (cuts : List CutPoint) (held : CutNumbers) : Type 0 where
  pub sized : Sized held
  pub rounds_held : take held.len held.rounds ≡ take 6 (rounds_of cuts)
  pub positions_held : take held.len held.positions ≡ take 6 (positions_of cuts)
