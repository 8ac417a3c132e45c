-- What the listings of nearby cut sets promise: the sets that fit, in the lent places, and their number.
use Rattle.std.specs.Prelude.{◌≡◌, cond, ℕ, ◌*◌, ◌/◌, ltb, Float, length, drop, Result}
use mathlib.Core.List.{List, [], ◌∷◌, ◌++◌, flatten}
use Rattle.theory.specs.Refusals.{Rule, refusal, if_taken}
use Rattle.theory.specs.Answers.{reply, listing_answer}
use Rattle.theory.specs.declared.Refusal.{Refusal}
use Rattle.theory.specs.declared.Listing.{Listing}
use Rattle.refusal_rules.specs.Rules.{nearby_rules, with_room}
use Rattle.nearby.specs.Walk.{nearby_sets}
use Rattle.nearby.specs.Listing.{written}
use Rattle.every_nearby_sets.specs.Every.{every_sets}
use Rattle.entry_results.specs.Written.{Written}

-- The sets of a listing that fit.
abbrev pub fitting : List (List ℕ) → (k : ℕ) → List ℕ → List (List ℕ)
fitting all k sets = written all k (length sets)

-- Their number, and 1 exactly where the listing has another.
abbrev pub listing_values : List (List ℕ) → (k : ℕ) → List ℕ → List ℕ
listing_values all k sets = length (fitting all k sets) ∷ cond (ltb (length sets / k) (length all)) 1 0 ∷ []

-- The sets end to end in the first places, and the places beyond as they were.
abbrev pub listing_places : List (List ℕ) → (k : ℕ) → List ℕ → List ℕ
listing_places all k sets = flatten (fitting all k sets) ++ drop (length (fitting all k sets) * k) sets

-- Judged by some rules, of all sets of a listing.
pub record ListingReply (rules : List Rule) (all : List (List ℕ)) (k : ℕ) (sets : List ℕ) (answer : Result Listing Refusal) (sets' : List ℕ) : Type 0 where
  pub reply_is : listing_answer answer ≡ reply (refusal rules) (listing_values all k sets)
  pub sets_are : sets' ≡ if_taken rules (listing_places all k sets) sets

pub record ListingWritten (rules : List Rule) (all : List (List ℕ)) (k : ℕ) (sets result : List ℕ) (answer : ℕ) (sets' result' : List ℕ) : Type 0 where
  pub written : Written rules 2 (listing_values all k sets) result answer result'
  pub sets_are : sets' ≡ if_taken (with_room rules 2 (length result)) (listing_places all k sets) sets

-- The sets of document 01's walk.
abbrev pub NearbyReply : (n : ℕ) → List Float → (k m neighbours : ℕ) → List ℕ → Result Listing Refusal → List ℕ → Type 0
NearbyReply n distances k m neighbours sets = ListingReply (nearby_rules n distances k m neighbours (length sets)) (nearby_sets distances n k m neighbours) k sets

abbrev pub NearbyWritten : (n : ℕ) → List Float → (k m neighbours : ℕ) → List ℕ → List ℕ → ℕ → List ℕ → List ℕ → Type 0
NearbyWritten n distances k m neighbours sets = ListingWritten (nearby_rules n distances k m neighbours (length sets)) (nearby_sets distances n k m neighbours) k sets

-- Every nearby set.
abbrev pub EveryReply : (n : ℕ) → List Float → (k m neighbours : ℕ) → List ℕ → Result Listing Refusal → List ℕ → Type 0
EveryReply n distances k m neighbours sets = ListingReply (nearby_rules n distances k m neighbours (length sets)) (every_sets distances n k m neighbours) k sets

abbrev pub EveryWritten : (n : ℕ) → List Float → (k m neighbours : ℕ) → List ℕ → List ℕ → ℕ → List ℕ → List ℕ → Type 0
EveryWritten n distances k m neighbours sets = ListingWritten (nearby_rules n distances k m neighbours (length sets)) (every_sets distances n k m neighbours) k sets
