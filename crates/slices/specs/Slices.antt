-- Polishing in slices: "a call always comes back soon", and slices add up to "the very reply of one long call".
use Rattle.std.specs.Prelude.{◌≡◌, true, false, cond, ◌↔◌, ◌⊎◌, ℕ, zero, suc, ◌+◌, ◌-◌, ◌*◌, ◌≤◌, ◌<◌, length}
use mathlib.Core.List.{List, [], ◌∷◌, Memᴰ}
use Rattle.theory.specs.Scan.{Search, Reply, improves, scan_from}
use Rattle.theory.specs.Moves.{Pattern, Move, total, binomial}
use Rattle.theory.specs.Route.{Problem, tour_length, Feasible, count}
use Rattle.theory.specs.Polish.{search_of, KOptimal, Demand3}
use Rattle.slices.specs.Places.{Place, first_place, IsPlace, number_of, place_of, from_place, before_place}

-- What is left of the moves where the scan ends (`scan_from`, step for step): the next to be examined comes first.
unfoldable pub left_over : {R M : Type 0} → Search R M → (left : ℕ) (rest : List M) (r : R) → List M
left_over S zero ms r = ms
left_over S (suc left) [] r = []
left_over S (suc left) (m ∷ ms) r =
    elim (improves S r m) [
      | true ↦ left_over S left S.moves (S.apply m r)
      | false ↦ left_over S left ms r
    ]

-- What a slice hands back: a reply, and the place where the next slice begins.
pub record Slice : Type 0 where
  pub reply : Reply (List ℕ)
  pub place : Place

-- On routes of n stops: "the scan from a place on". Spent, the place is that of the next candidate to be examined; finished, the first.
unfoldable pub slice_on : Problem → List Pattern → (k n allowance : ℕ) → Place → List ℕ → Slice
unfolding left_over scan_from number_of place_of
slice_on P ps k n a p r =
    let S = search_of P ps k n in
    let q = scan_from S a (from_place ps k n p) 0 0 r in
    let next = place_of ps k n (length S.moves - length (left_over S a (from_place ps k n p) r)) in
    record { reply = q; place = cond q.finished (first_place k) next }

abbrev pub slice : Problem → List Pattern → (k allowance : ℕ) → Place → List ℕ → Slice
slice P ps k a p r = slice_on P ps k (length r) a p r

-- A reply with the counts of what came before it.
abbrev pub carried : {R : Type 0} → (e c : ℕ) → Reply R → Reply R
carried e c q = record { finished = q.finished; examined = e + q.examined; accepted = c + q.accepted; route = q.route }

-- One slice, and behind it what was begun "at the place where the last one was spent": nothing behind one that finished.
abbrev pub followed : Slice → Slice → Slice
followed s t = cond s.reply.finished s (record { reply = carried s.reply.examined s.reply.accepted t.reply; place = t.place })

-- Slices with the allowances a and more, "each slice begun at the place where the last one was spent, on the route it left".
unfoldable pub in_slices : Problem → List Pattern → (k a : ℕ) → List ℕ → Place → List ℕ → Slice
unfolding slice_on
in_slices P ps k a [] p r = slice P ps k a p r
in_slices P ps k a (b ∷ more) p r = let s = slice P ps k a p r in followed s (in_slices P ps k b more s.place s.reply.route)

-- "a1 + .. + am"
abbrev pub all_of : ℕ → List ℕ → ℕ
all_of a more = a + total (λ b. b) more

-- No candidate before the place improves the route.
abbrev pub PassedBefore : Problem → List Pattern → ℕ → Place → List ℕ → Type 0
PassedBefore P ps k p r = (m : Move) → Memᴰ m (before_place ps k (length r) p) → improves (search_of P ps k (length r)) r m ≡ false

-- Where slices that were spent have led from the round r₀ handed in: to the place p on the route r, with e examined and c accepted.
pub record Reached (P : Problem) (ps : List Pattern) (k : ℕ) (r₀ : List ℕ) (e c : ℕ) (p : Place) (r : List ℕ) : Type 0 where
  pub a : ℕ
  pub more : List ℕ
  pub led : in_slices P ps k a more (first_place k) r₀ ≡ record { reply = record { finished = false; examined = e; accepted = c; route = r }; place = p }

-- What a slice promises, of the place p and the route r handed in. What demand 3 says of one call (`Demand3`), a slice says with the place: finished, the
-- route is k-optimal exactly if the slice changed it or no candidate before the place improves it (optimal).
pub record Sliced (P : Problem) (ps : List Pattern) (k allowance : ℕ) (p : Place) (r : List ℕ) (s : Slice) : Type 0 where
  pub optimal : s.reply.finished ≡ true → KOptimal P ps k s.reply.route ↔ ((0 < s.reply.accepted) ⊎ PassedBefore P ps k p r)
  pub same_stops : (x : ℕ) → count x s.reply.route ≡ count x r
  pub changed : 0 < s.reply.accepted → Feasible P s.reply.route × (tour_length P s.reply.route < tour_length P r)
  pub unchanged : s.reply.accepted ≡ 0 → s.reply.route ≡ r
  pub within : s.reply.examined ≤ allowance
  pub spent : s.reply.finished ≡ false → s.reply.examined ≡ allowance
  pub bound : s.reply.examined ≤ (1 + (tour_length P r - tour_length P s.reply.route)) * (length ps * binomial (length r + 1) k)
  pub ended : s.reply.finished ≡ true → s.place ≡ first_place k
  pub next : s.reply.finished ≡ false → IsPlace ps k (length r) s.place
  pub still_passed : s.reply.finished ≡ false → PassedBefore P ps k p r → PassedBefore P ps k s.place s.reply.route
  pub nothing_changed : s.reply.finished ≡ false → s.reply.accepted ≡ 0 → number_of ps k (length r) s.place ≡ number_of ps k (length r) p + s.reply.examined
  pub whole : (r₀ : List ℕ) (e c : ℕ) → Reached P ps k r₀ e c p r → Demand3 P ps k (e + allowance) r₀ (carried e c s.reply)
