-- Polishing a route: the scan over every cut set with every pattern; and demand 3 of it, in its own words.
use Rattle.std.specs.Prelude.{◌≡◌, true, false, ◌↔◌, ◌⊎◌, ℕ, suc, ◌+◌, ◌-◌, ◌*◌, ◌≤◌, ◌<◌, length, get_or}
use mathlib.Core.List.{List, [], Memᴰ}
use Rattle.theory.specs.Scan.{Search, Reply, scan}
use Rattle.theory.specs.Moves.{Pattern, Move, patterns, cut_sets, candidates, Rising, binomial, total, upfrom}
use Rattle.theory.specs.Route.{Problem, reconnected, tour_length, feasible, Feasible, count}

-- The search of document 01 with k cuts and a list of patterns for k, on routes of n stops: every cut set with every pattern.
abbrev pub search_of : Problem → List Pattern → ℕ → ℕ → Search (List ℕ) Move
search_of P ps k n = record { moves = candidates ps (cut_sets k n); apply = reconnected; cost = tour_length P; feasible = feasible P }

abbrev pub polish_with : Problem → List Pattern → ℕ → ℕ → List ℕ → Reply (List ℕ)
polish_with P ps k allowance r = scan (search_of P ps k (length r)) allowance r

-- With "every pattern for k".
abbrev pub polish : Problem → ℕ → ℕ → List ℕ → Reply (List ℕ)
polish P k = polish_with P (patterns k) k

-- The move with the pattern of an index at a cut set.
abbrev pub move_at : List Pattern → List ℕ → ℕ → Move
move_at ps cuts index = record { cuts = cuts; pattern = get_or ps index (record { order = []; mask = 0 }) }

-- "Whichever k cuts and whichever pattern of document 01 the rival takes, the rejoined round doesn't keep every deadline or .. is at least as long as the
-- one the rival holds", where the rival "shares the end harbour and compares lengths of this kind": k-optimal among the feasible routes.
abbrev pub KOptimal : Problem → List Pattern → ℕ → List ℕ → Type 0
KOptimal P ps k r =
    (cs : List ℕ) → length cs ≡ k → Rising 0 cs (length r) → (p : Pattern) → Memᴰ p ps →
    ¬ Feasible P (reconnected (record { cuts = cs; pattern = p }) r) ⊎ (tour_length P r ≤ tour_length P (reconnected (record { cuts = cs; pattern = p }) r))

-- A list of patterns for k cuts: each order holds each of the segments 0 to k once, so that every sum over it is the sum over those.
abbrev pub ForCuts : ℕ → List Pattern → Type 0
ForCuts k ps = (p : Pattern) → Memᴰ p ps → (g : ℕ → ℕ) → total g p.order ≡ total g (upfrom 0 (suc k))

-- Demand 3, of the reply q to the route r. "When the polisher reports finished, .." (optimal). "Given that it finished, it reports no change exactly when
-- the same is true of a rival who holds the round handed in" (exactly). "A changed round holds the same stops, each as often" (same_stops), "keeps every
-- deadline and is strictly shorter" (changed); "without a change the round handed back is the one handed in" (unchanged). "Spent is reported only at the
-- allowance" (spent), which the count never exceeds (within). "With n stops, the candidates examined are at most (1 + seconds saved) × patterns ×
-- C(n + 1, k)" (bound).
pub record Demand3 (P : Problem) (ps : List Pattern) (k allowance : ℕ) (r : List ℕ) (q : Reply (List ℕ)) : Type 0 where
  pub optimal : q.finished ≡ true → KOptimal P ps k q.route
  pub exactly : q.finished ≡ true → (q.accepted ≡ 0) ↔ KOptimal P ps k r
  pub same_stops : (x : ℕ) → count x q.route ≡ count x r
  pub changed : 0 < q.accepted → Feasible P q.route × (tour_length P q.route < tour_length P r)
  pub unchanged : q.accepted ≡ 0 → q.route ≡ r
  pub within : q.examined ≤ allowance
  pub spent : q.finished ≡ false → q.examined ≡ allowance
  pub bound : q.examined ≤ (1 + (tour_length P r - tour_length P q.route)) * (length ps * binomial (length r + 1) k)
