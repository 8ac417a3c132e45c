-- Where the rounds handed in, their routes and their numbers stand. Assumes nothing.
use mathlib.Core.Path.{◌≡◌, refl, ap, ◌∙◌}
use mathlib.Core.List.{List, [], ◌∷◌, ◌++◌, map, flat_map, append_assoc}
use Prim.Native.Nat.{ℕ, zero, suc, ◌+◌, ◌*◌, ◌≤◌, ◌<◌}
use native.Mathlib.Omega.{arith}
use lib.ListN.{length, get_or, take, length-map, length-take, length-drop, get_or-append, get_or-map}
use lib.Seq.{take_at, drop_at, drop-drop, ext_get_or, get_or-append-add}
use Rattle.theory.specs.Moves.{total, upfrom}
use Rattle.theory.specs.Tables.{Tables, Fleet}
use Rattle.theory.specs.declared.RoundState.{RoundState}
use Rattle.theory.specs.declared.RoundState.TheVariants as State
use Rattle.theory.proofs.Moves.{length_upfrom}
use Rattle.rounds.specs.Rounds.{Given, unasked, Outcome, round_at, given, rounds, in_turn, routes, rows}

-- What stands for no outcome.
abbrev pub none : Outcome
none = record { state = State.NotReached; route = [] }

-- ---- the numbers

of_four : (v w : List ℕ) (p : ℕ) → length v ≡ 4 → p < 4 → get_or (v ++ w) p 0 ≡ get_or v p 0
of_four v w p h l = get_or-append v w 0 p (omega (arith, h, l))

after_four : (v w : List ℕ) (i p : ℕ) → length v ≡ 4 → get_or (v ++ w) (4 * suc i + p) 0 ≡ get_or w (4 * i + p) 0
after_four v w i p h =
    let e : 4 * suc i + p ≡ length v + (4 * i + p) = omega (arith, h) in
    rw e (get_or-append-add v w (4 * i + p) 0)

module _ (values : RoundState → List ℕ) (four : (s : RoundState) → length (values s) ≡ 4) where
  module _ (o : Outcome) (os : List Outcome) (rest : List ℕ) where
    regroup : rows values (o ∷ os) ++ rest ≡ values o.state ++ (rows values os ++ rest)
    unfolding rows flat_map
    regroup = append_assoc (values o.state) (rows values os) rest

    pub first_row : (p : ℕ) → p < 4 → get_or (rows values (o ∷ os) ++ rest) p 0 ≡ get_or (values o.state) p 0
    first_row p l = ap (λ (x : List ℕ). get_or x p 0) regroup ∙ of_four (values o.state) (rows values os ++ rest) p (four o.state) l

    pub later_row : (i p : ℕ) → get_or (rows values (o ∷ os) ++ rest) (4 * suc i + p) 0 ≡ get_or (rows values os ++ rest) (4 * i + p) 0
    later_row i p = ap (λ (x : List ℕ). get_or x (4 * suc i + p) 0) regroup ∙ after_four (values o.state) (rows values os ++ rest) i p (four o.state)

  pub value_at : (os : List Outcome) (rest : List ℕ) (i p : ℕ) → i < length os → p < 4 →
      get_or (rows values os ++ rest) (4 * i + p) 0 ≡ get_or (values (get_or os i none).state) p 0
  value_at [] rest i p h l = absurd (omega arith)
  value_at (o ∷ os) rest zero p h l =
      let e : 4 * 0 + p ≡ p = omega arith in
      rw e (first_row o os rest p l)
  value_at (o ∷ os) rest (suc i) p h l = later_row o os rest i p ∙ value_at os rest i p (omega arith) l

  pub number_at : (os : List Outcome) (rest : List ℕ) (i : ℕ) → i < length os → get_or (rows values os ++ rest) (4 * i) 0 ≡ get_or (values (get_or os i none).state) 0 0
  number_at os rest i h =
      let e : 4 * i + 0 ≡ 4 * i = omega arith in
      rw e at (value_at os rest i 0 h (omega arith))

-- ---- the routes

-- The stops of a round in the routes end to end.
pub route_at : (os : List Outcome) (i : ℕ) → i < length os → round_at (map (λ (o : Outcome). length o.route) os) (routes os) i ≡ (get_or os i none).route
unfolding routes flat_map total
route_at [] i h = absurd (omega arith)
route_at (o ∷ os) zero h = take_at o.route (routes os) (length o.route) refl
route_at (o ∷ os) (suc i) h =
    let ls = map (λ (o : Outcome). length o.route) os in
    rw (← (drop-drop (total (λ n. n) (take i ls)) (length o.route) (o.route ++ routes os)), drop_at o.route (routes os) (length o.route) refl)
    (route_at os i (omega arith))

-- A round lies within the stops.
pub within : (ls : List ℕ) (i : ℕ) → i < length ls → total (λ n. n) (take i ls) + get_or ls i 0 ≤ total (λ n. n) ls
unfolding total
within [] i h = absurd (omega arith)
within (l ∷ ls) zero h = omega arith
within (l ∷ ls) (suc i) h = omega (arith, within ls i (omega arith))

-- ---- the rounds

-- What is listed for each of n indices stands at its own.
pub listed_at : {X : Type 0} (f : ℕ → X) (d : X) (n i : ℕ) → i < n → get_or (map f (upfrom 0 n)) i d ≡ f i
unfolding upfrom
listed_at {X} f d n i h = let e : 0 + i ≡ i = omega arith in rw e at (by 0 n i h)
  where
    by : (a n i : ℕ) → i < n → get_or (map f (upfrom a n)) i d ≡ f (a + i)
    by a zero i h = absurd (omega arith)
    by a (suc n) zero h =
        let e : a ≡ a + 0 = omega arith in
        rw (← e)
    by a (suc n) (suc i) h =
        let e : suc a + i ≡ a + suc i = omega arith in
        rw (← e) (by (suc a) n i (omega arith))

module _ (T : Tables) (F : Fleet) (pairs : List ℕ) where
  pub given_at : (i : ℕ) → i < length F.lengths → get_or (rounds T F pairs) i unasked ≡ given T F pairs i
  unfolding rounds
  given_at i h = listed_at (given T F pairs) unasked (length F.lengths) i h

  pub how_many : length (rounds T F pairs) ≡ length F.lengths
  unfolding rounds
  how_many = length-map (upfrom 0 (length F.lengths)) (given T F pairs) ∙ length_upfrom 0 (length F.lengths)

  pub lengths_are : total (λ n. n) F.lengths ≡ length F.stops → map (λ (g : Given). length g.route) (rounds T F pairs) ≡ F.lengths
  lengths_are e =
      let gs = rounds T F pairs in
      let l : length (map (λ (g : Given). length g.route) gs) ≡ length F.lengths = length-map gs (λ (g : Given). length g.route) ∙ how_many in
      ext_get_or 0 _ F.lengths l
      (λ i h.
      let j : i < length F.lengths = omega (arith, h, l) in
      get_or-map (λ (g : Given). length g.route) gs i unasked ∙ ap (λ (g : Given). length g.route) (given_at i j) ∙ size i j)
    where
      size : (i : ℕ) → i < length F.lengths → length (round_at F.lengths F.stops i) ≡ get_or F.lengths i 0
      size i h = simp (length-take, length-drop) (omega (arith, within F.lengths i h, e))

-- ---- one after the other

module _ (outcome : ℕ → Given → Outcome) (passed_on : ℕ → Given → ℕ) where
  pub as_many : (gs : List Given) (n : ℕ) → length (in_turn outcome passed_on n gs) ≡ length gs
  unfolding in_turn
  as_many [] n = refl
  as_many (g ∷ gs) n = ap suc (as_many gs _)

  -- Some number reached a round.
  pub turn_of : (gs : List Given) (n i : ℕ) → i < length gs → (a : ℕ) × (get_or (in_turn outcome passed_on n gs) i none ≡ outcome a (get_or gs i unasked))
  unfolding in_turn
  turn_of [] n i h = absurd (omega arith)
  turn_of (g ∷ gs) n zero h = (n, refl)
  turn_of (g ∷ gs) n (suc i) h = turn_of gs _ i (omega arith)

  pub same_lengths : ((n : ℕ) (g : Given) → length (outcome n g).route ≡ length g.route) → (gs : List Given) (n : ℕ) →
      map (λ (o : Outcome). length o.route) (in_turn outcome passed_on n gs) ≡ map (λ (g : Given). length g.route) gs
  unfolding in_turn
  same_lengths sized [] n = refl
  same_lengths sized (g ∷ gs) n = rw (sized n g, same_lengths sized gs (passed_on n g))
