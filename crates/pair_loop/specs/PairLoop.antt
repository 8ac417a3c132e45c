-- The pair loop of document 01: what it makes of a route, sentence by sentence. What it has come to is a reply; `finished` stays true until the allowance
-- ends the loop.
use Rattle.std.specs.Prelude.{◌≡◌, Bool, true, false, ◌&&◌, not, cond, ℕ, zero, suc, ◌-◌, ◌≤◌, ◌<◌, ltb, eqb, length, get_or}
use mathlib.Core.List.{List, ◌∷◌, foldl}
use Rattle.theory.specs.Moves.{upfrom}
use Rattle.theory.specs.Route.{Problem, count, tour_length, timetable_of, late_position, Timely}
use Rattle.theory.specs.Scan.{Reply}
use Rattle.theory.specs.Answers.{reply_of, counts_of}
use Rattle.theory.specs.declared.Polished.{Polished}
use Rattle.pair_reversal.specs.Reversal.{turned, accepts}
use Rattle.pair_loop.specs.declared.PairLoop.{PairLoop}

-- "The stop before i, or the depot."
abbrev pub stop_before : (depot : ℕ) → List ℕ → ℕ → ℕ
stop_before depot r i = get_or (depot ∷ r) i 0

-- What the loop has come to while the allowance lasts.
abbrev pub so_far : (examined accepted : ℕ) → List ℕ → Reply (List ℕ)
so_far examined accepted route = record { finished = true; examined = examined; accepted = accepted; route = route }

-- "Then the pair counts as examined."
unfoldable pub examine : Problem → (a b i : ℕ) → Reply (List ℕ) → (j : ℕ) → Reply (List ℕ)
unfolding accepts turned
examine P a b i s j =
    cond (accepts P a b i s.route j)
    (so_far (suc s.examined) (suc s.accepted) (turned i j s.route))
    (so_far (suc s.examined) s.accepted s.route)

-- The same when the allowance is reached.
abbrev pub spent : Reply (List ℕ) → Reply (List ℕ)
spent s = record { finished = false; examined = s.examined; accepted = s.accepted; route = s.route }

-- "Before each pair the allowance is tested as in polishing": "at the allowance the answer is spent", and no further pair is tried.
unfoldable pub pair : Problem → (allowance a b i : ℕ) → Reply (List ℕ) → (j : ℕ) → Reply (List ℕ)
unfolding examine
pair P allowance a b i s j = cond (s.finished && not (eqb s.examined allowance)) (examine P a b i s j) (spent s)

-- "a .. and b (stop i) are read once; for j from i+1 to n−1": "b is not read anew after a turn".
unfoldable pub sweep : Problem → (allowance n : ℕ) → Reply (List ℕ) → (i : ℕ) → Reply (List ℕ)
unfolding pair upfrom
sweep P allowance n s i = foldl (pair P allowance (stop_before P.depot s.route i) (get_or s.route i 0) i) s (upfrom (suc i) (n - suc i))

-- "For i from 0 to n−2."
unfoldable pub pass : Problem → (allowance n : ℕ) → Reply (List ℕ) → Reply (List ℕ)
unfolding sweep upfrom
pass P allowance n s = foldl (sweep P allowance n) s (upfrom 0 (n - 1))

-- From s to t something was accepted, and the allowance was not reached.
abbrev pub goes_on : Reply (List ℕ) → Reply (List ℕ) → Bool
goes_on s t = t.finished && ltb s.accepted t.accepted

-- "Passes repeat until one accepts nothing. Nothing but the allowance is promised to end them": a pass that accepts examines a pair, so that there are at
-- most as many of them as the allowance, and one more. That this number ends none early is the law `passes_repeat`.
unfoldable pub passes : Problem → (allowance n more : ℕ) → Reply (List ℕ) → Reply (List ℕ)
unfolding pass
passes P allowance n zero s = pass P allowance n s
passes P allowance n (suc more) s =
    let t = pass P allowance n s in
    let further = passes P allowance n more t in
    cond (goes_on s t) further t

unfoldable pub pair_loop : Problem → (allowance : ℕ) → List ℕ → Reply (List ℕ)
unfolding passes
pair_loop P allowance r = passes P allowance (length r) allowance (so_far 0 0 r)

-- What the code has counted, with the route that it has come to, as a reply.
abbrev pub reply_so_far : PairLoop → List ℕ → Reply (List ℕ)
reply_so_far answer route = record { finished = answer.finished; examined = answer.examined; accepted = answer.accepted; route = route }

-- What the loop keeps, of the reply q to the route r: the same stops, each as often; the route handed in where nothing was accepted, and every deadline
-- where something was; no more pairs than the allowance, and spent only with all of them. No word on the lengths: the route can grow.
pub record PairPromise (P : Problem) (allowance : ℕ) (r : List ℕ) (q : Reply (List ℕ)) : Type 0 where
  pub same_stops : (x : ℕ) → count x q.route ≡ count x r
  pub unchanged : q.accepted ≡ 0 → q.route ≡ r
  pub changed : 0 < q.accepted → Timely (timetable_of P) P.depot q.route
  pub within : q.examined ≤ allowance
  pub spent : q.finished ≡ false → q.examined ≡ allowance

-- What the pair loop promises, of the route handed in, the answer and the route handed back: it "answers .. like polishing", with the loop's route and numbers,
-- and "leaves a spent round with what it accepted".
pub record PairsTried (P : Problem) (allowance : ℕ) (route : List ℕ) (answer : Polished) (route' : List ℕ) : Type 0 where
  pub loop : reply_of answer route' ≡ pair_loop P allowance route
  pub before : (counts_of answer).before ≡ tour_length P route
  pub after : (counts_of answer).after ≡ tour_length P route'
  pub late : (counts_of answer).late ≡ late_position (timetable_of P) P.depot route'
  pub promise : PairPromise P allowance route (reply_of answer route')
