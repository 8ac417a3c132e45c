-- A question to polishing, as the entry's parameters and the lines of a text hold it.
use Rattle.std.specs.Prelude.{List, [], ◌∷◌, ℕ}
use Rattle.theory.specs.Scan.{Reply}
use Rattle.theory.specs.Polish.{polish}
use Rattle.theory.specs.Tables.{Trip, problem, trip}
use Rattle.theory.specs.Refusals.{Rule, cut_count, trip_rules, paired_rules}

pub record Question : Type 0 where
  pub k : ℕ
  pub allowance : ℕ
  pub trip : Trip
  pub route : List ℕ

abbrev pub question : (k allowance locations : ℕ) → (legs latest service : List ℕ) → (depot end : ℕ) → List ℕ → Question
question k allowance locations legs latest service depot end route =
    record { k = k; allowance = allowance; trip = trip locations legs latest service depot end []; route = route }

-- The same with pairs, which no text holds.
abbrev pub question_with_pairs : (k allowance locations : ℕ) → (legs latest service : List ℕ) → (depot end : ℕ) → (pairs route : List ℕ) → Question
question_with_pairs k allowance locations legs latest service depot end pairs route =
    record { k = k; allowance = allowance; trip = trip locations legs latest service depot end pairs; route = route }

-- The rules by which it is refused.
abbrev pub question_rules : Question → List Rule
question_rules q = cut_count q.k ∷ trip_rules q.trip q.route

abbrev pub paired_question_rules : Question → List Rule
paired_question_rules q = cut_count q.k ∷ paired_rules q.trip q.route

-- Document 01's scan of it.
abbrev pub asked : Question → Reply (List ℕ)
asked q = polish (problem q.trip) q.k q.allowance q.route
