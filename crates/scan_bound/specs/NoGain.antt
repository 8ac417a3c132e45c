-- A last cut that can hold no gain.
use Rattle.std.specs.Prelude.{◌≡◌, false, List, [], ◌∷◌, ◌++◌, ℕ, suc, ◌<◌, ltb, length}
use Rattle.theory.specs.Route.{reconnected, tour_length}
use Rattle.theory.specs.Tables.{legs_only, ForK}
use Rattle.scan_joints.specs.States.{states, row}

-- No pattern whose row is among the first `count` shortens the route with the cuts `pre` and the last cut c.
abbrev pub NoGain : ℕ → List ℕ → (depot end : ℕ) → List ℕ → List ℕ → List ℕ → ℕ → ℕ → Type 0
NoGain locations legs depot end route pre rows count c =
    (order : List ℕ) (mask i : ℕ) → i < count → ForK (suc (length pre)) order mask → row rows i ≡ states (suc (length pre)) order mask →
    ltb (tour_length (legs_only locations legs depot end) (reconnected (record { cuts = pre ++ (c ∷ []); pattern = record { order = order; mask = mask } }) route))
    (tour_length (legs_only locations legs depot end) route)
    ≡ false
