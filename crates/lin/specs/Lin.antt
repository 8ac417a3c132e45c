-- Lin (1965): a tour is k-optimal if no exchange of k of its links for others gives a shorter tour. Said in links alone; cuts and patterns come in with
-- `Candidate`.
use Rattle.std.specs.Prelude.{◌≡◌, ◌⊎◌, ℕ, ◌+◌, ◌≤◌, length}
use mathlib.Core.List.{List, [], ◌∷◌, ◌++◌, reverse, Memᴰ}
use Rattle.theory.specs.Moves.{Pattern, patterns, Rising}
use Rattle.theory.specs.Route.{Problem, reconnected, tour_length, Feasible, count}
use Rattle.theory.specs.Links.{tour_links, link_count}

-- Two routes hold the same stops, each as often.
abbrev pub SameStops : List ℕ → List ℕ → Type 0
SameStops r s = (x : ℕ) → count x s ≡ count x r

-- No location stands twice.
abbrev pub AllDifferent : List ℕ → Type 0
AllDifferent l = (x : ℕ) → count x l ≤ 1

-- A tour is its links, from the depot along the stops to the end harbour, each as often as it stands there and without direction. The tour of s differs from that
-- of r in at most k links: at most k of r's links go, others come, and these are s's. (As many come as go.)
pub record Differs (k : ℕ) (P : Problem) (r s : List ℕ) : Type 0 where
  pub out : List (ℕ × ℕ)
  pub put : List (ℕ × ℕ)
  pub few : length out ≤ k
  pub stood : (x y : ℕ) → link_count x y out ≤ link_count x y (tour_links P r)
  pub exchange : (x y : ℕ) → link_count x y (tour_links P s) + link_count x y out ≡ link_count x y (tour_links P r) + link_count x y put

-- Lin's k-optimality: no tour on the same stops that differs in at most k links is shorter.
abbrev pub LinOptimal : ℕ → Problem → List ℕ → Type 0
LinOptimal k P r = (s : List ℕ) → SameStops r s → Differs k P r s → tour_length P r ≤ tour_length P s

-- What the polisher examines: k rising cuts of r and a pattern of the list make s.
pub record Candidate (k : ℕ) (r s : List ℕ) : Type 0 where
  pub cuts : List ℕ
  pub many : length cuts ≡ k
  pub rising : Rising 0 cuts (length r)
  pub pattern : Pattern
  pub known : Memᴰ pattern (patterns k)
  pub made : s ≡ reconnected (record { cuts = cuts; pattern = pattern }) r

abbrev pub Reached : ℕ → List ℕ → List ℕ → Type 0
Reached k r s = (s ≡ r) ⊎ Candidate k r s

-- Cut sets and patterns miss no exchange. To an end harbour other than the depot, whose direction is given: each tour that differs in at most k links is reached.
abbrev pub OpenComplete : ℕ → Problem → List ℕ → Type 0
OpenComplete k P r = AllDifferent (P.depot ∷ (r ++ (P.end ∷ []))) → k ≤ length r + 1 → (s : List ℕ) → SameStops r s → Differs k P r s → Reached k r s

-- Back to the depot: in one of its two directions.
abbrev pub ClosedComplete : ℕ → Problem → List ℕ → Type 0
ClosedComplete k P r =
    P.end ≡ P.depot → AllDifferent (P.depot ∷ r) → k ≤ length r + 1 → (s : List ℕ) → SameStops r s → Differs k P r s → Reached k r s ⊎ Reached k r (reverse s)

-- And there is no more among the candidates: each holds the same stops and differs in at most k links.
abbrev pub Sound : ℕ → Problem → List ℕ → Type 0
Sound k P r = (s : List ℕ) → Candidate k r s → SameStops r s × Differs k P r s

-- ---- what finished means

-- A route is late, breaks a pair, or is at least as long.
abbrev pub NoBetter : Problem → List ℕ → List ℕ → Type 0
NoBetter P r s = ¬ Feasible P s ⊎ (tour_length P r ≤ tour_length P s)

abbrev pub SameBothWays : Problem → Type 0
SameBothWays P = (x y : ℕ) → P.leg x y ≡ P.leg y x

-- No deadline and no pair in force: every order of the stops will do.
abbrev pub EveryOrderFeasible : Problem → List ℕ → Type 0
EveryOrderFeasible P r = (s : List ℕ) → SameStops r s → Feasible P s

-- Of a closed tour that differs in at most k links: one of its directions is the route or a candidate, and each that is a candidate is no better. Of a direction
-- that is none, nothing is said.
pub record EachWay (k : ℕ) (P : Problem) (r s : List ℕ) : Type 0 where
  pub one : Reached k r s ⊎ Reached k r (reverse s)
  pub forward : Candidate k r s → NoBetter P r s
  pub backward : Candidate k r (reverse s) → NoBetter P r (reverse s)

-- Polishing r with k cuts said finished and gave q.
pub record LinFinished (k : ℕ) (P : Problem) (r q : List ℕ) : Type 0 where
  -- to another end harbour: whatever the legs, the deadlines and the pairs
  pub to_another_end : AllDifferent (P.depot ∷ (r ++ (P.end ∷ []))) → k ≤ length r + 1 → (s : List ℕ) → SameStops q s → Differs k P q s → NoBetter P q s
  -- back to the depot
  pub each_way : P.end ≡ P.depot → AllDifferent (P.depot ∷ r) → k ≤ length r + 1 → (s : List ℕ) → SameStops q s → Differs k P q s → EachWay k P q s
  -- and with legs the same both ways and neither deadline nor pair in force
  pub k_optimal : P.end ≡ P.depot → AllDifferent (P.depot ∷ r) → k ≤ length r + 1 → SameBothWays P → EveryOrderFeasible P r → LinOptimal k P q
