-- What polishing in slices promises.
use Rattle.std.specs.Prelude.{◌≡◌, List, ◌∷◌, ◌++◌, ℕ, suc, ◌≤◌, length, get_or, take}
use Rattle.theory.specs.Moves.{patterns}
use Rattle.theory.specs.Tables.{Trip, problem}
use Rattle.theory.specs.Question.{Question}
use Rattle.theory.specs.Refusals.{Rule, number, either, if_taken, cut_count, paired_rules, pattern_index, cut_positions}
use Rattle.theory.specs.Answers.{handed_back}
use Rattle.slices.specs.Places.{place_in, with_place, place_rules}
use Rattle.slices.specs.Slices.{Slice, slice, Sliced}
use Rattle.refusal_rules.specs.Rules.{with_room}
use Rattle.polish_numbers.specs.Replied.{Replied}

-- "Refuses what polishing with pairs refuses, and 6 and 7 for a place that is none."
abbrev pub slice_rules : (k : ℕ) → Trip → (route place : List ℕ) → ℕ → List Rule
slice_rules k T route place lent = with_room ((cut_count k ∷ paired_rules T route) ++ place_rules k (length route) place) 6 lent

-- "The scan from a place on", of a question.
abbrev pub slice_asked : Question → List ℕ → Slice
slice_asked q place = slice (problem q.trip) (patterns q.k) q.k q.allowance (place_in q.k place) q.route

-- Route, place and result are those of the slice; and what a slice promises, of what is handed back, whenever it returns 0.
pub record PolishSliceReply (q : Question) (place result : List ℕ) (answer : ℕ) (route' place' result' : List ℕ) : Type 0 where
  pub replied : Replied (slice_rules q.k q.trip q.route place (length result)) (problem q.trip) q.route (slice_asked q place).reply result answer route' result'
  pub place_is : place' ≡ if_taken (slice_rules q.k q.trip q.route place (length result)) (with_place (slice_asked q place).place place) place
  pub promise : answer ≡ 0 → Sliced (problem q.trip) (patterns q.k) q.k q.allowance (place_in q.k place) q.route (record { reply = handed_back result' route'; place = place_in q.k place' })

-- ---- its parts

-- k and n that were let through.
pub record PlaceJudged (k n : ℕ) : Type 0 where
  pub least : 2 ≤ k
  pub most : k ≤ 5
  pub short : n ≤ 512

-- 6 or 7 or 0, where the route has a cut set.
abbrev pub place_found : (k n : ℕ) → List ℕ → ℕ
place_found k n place = either (number (pattern_index k (get_or place k 0))) (number (cut_positions k n (take k place)))

-- Room for a place.
pub record PlacePut (k : ℕ) (cuts place : List ℕ) : Type 0 where
  pub most : k ≤ 5
  pub five : length cuts ≡ 5
  pub room : suc k ≤ length place
