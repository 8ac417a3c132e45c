-- "The first cuts and pattern in scan order that turn one into the other, or none."
use Rattle.std.specs.Prelude.{◌≡◌, ◌↔◌, Bool, true, false, cond, ◌&&◌, ℕ, ◌<◌, eqb, length, get_or, take, drop, Some, None}
use Rattle.std.specs.Prelude as Rust
use mathlib.Core.List.{List, [], ◌∷◌, ◌++◌, map, flat_map, Memᴰ}
use Rattle.std.proofs.Math.Option.{Option, none, some}
use Rattle.theory.specs.Moves.{upfrom, Pattern, Move, patterns, cut_sets, candidates, Rising}
use Rattle.theory.specs.Route.{reconnected}
use Rattle.theory.specs.Polish.{move_at}
use Rattle.first_move.specs.declared.FoundMove.{FoundMove}

-- The first element that passes a test.
unfoldable pub first_that : {A : Type 0} → (A → Bool) → List A → Option A
first_that t [] = none
first_that t (x ∷ xs) = elim (t x) [ true ↦ some x | false ↦ first_that t xs ]

-- The same stops in the same order.
unfoldable pub same_route : List ℕ → List ℕ → Bool
same_route [] [] = true
same_route [] (y ∷ ys) = false
same_route (x ∷ xs) [] = false
same_route (x ∷ xs) (y ∷ ys) = eqb x y && same_route xs ys

-- "All patterns on a cut set, then the next cut set", each pattern by its index.
unfoldable pub numbered : ℕ → List (List ℕ) → List (List ℕ × ℕ)
unfolding flat_map upfrom
numbered count css = flat_map (λ cs. map (λ i. (cs, i)) (upfrom 0 count)) css

-- Whether the cuts and the index turn one route into the other. Deadlines play no part.
abbrev pub turns_into : ℕ → List ℕ → List ℕ → List ℕ × ℕ → Bool
turns_into k old wanted c = same_route (reconnected (move_at (patterns k) c.0 c.1) old) wanted

abbrev pub first_move : ℕ → List ℕ → List ℕ → Option (List ℕ × ℕ)
first_move k old wanted = first_that (turns_into k old wanted) (numbered (length (patterns k)) (cut_sets k (length old)))

-- What an answer says: the index and the first k cuts, or none.
abbrev pub found_move : ℕ → Rust.Option FoundMove → Option (List ℕ × ℕ)
found_move k None = none
found_move k (Some r) = some (take k r.cuts, r.index)

-- 1, the index and the cuts; or 0 alone.
abbrev pub move_values : Option (List ℕ × ℕ) → List ℕ
move_values none = 0 ∷ []
move_values (some c) = 1 ∷ c.1 ∷ c.0

-- Values in the first places; the places behind them keep their contents.
abbrev pub in_front : List ℕ → List ℕ → List ℕ
in_front values result = values ++ drop (length values) result

-- What a result that was handed back says: none, or the k cuts and the index behind the 1.
abbrev pub handed_move : ℕ → List ℕ → Option (List ℕ × ℕ)
handed_move k result = cond (eqb (get_or result 0 0) 0) none (some (take k (drop 2 result), get_or result 1 0))

-- No k cuts and no pattern of document 01 turn one route into the other.
abbrev pub NoMove : ℕ → List ℕ → List ℕ → Type 0
NoMove k old wanted =
    (cs : List ℕ) → length cs ≡ k → Rising 0 cs (length old) → (p : Pattern) → Memᴰ p (patterns k) → ¬ (reconnected (record { cuts = cs; pattern = p }) old ≡ wanted)

-- What is said of a move that is found: it is one of document 01's, it turns one into the other, and nothing before it in the scan's own list does.
pub record FoundFirst (k : ℕ) (old wanted : List ℕ) (c : List ℕ × ℕ) : Type 0 where
  pub many : length c.0 ≡ k
  pub rising : Rising 0 c.0 (length old)
  pub known : c.1 < length (patterns k)
  pub turns : reconnected (move_at (patterns k) c.0 c.1) old ≡ wanted
  pub before : List Move
  pub after : List Move
  pub listed : candidates (patterns k) (cut_sets k (length old)) ≡ before ++ (move_at (patterns k) c.0 c.1 ∷ after)
  pub first : (m : Move) → Memᴰ m before → ¬ (reconnected m old ≡ wanted)

-- What is promised of an answer: "none" is said exactly if no cut set and no pattern do it, and a move that is found is the first.
pub record Told (k : ℕ) (old wanted : List ℕ) (o : Option (List ℕ × ℕ)) : Type 0 where
  pub none_exactly : (o ≡ none) ↔ NoMove k old wanted
  pub found_first : (c : List ℕ × ℕ) → o ≡ some c → FoundFirst k old wanted c
