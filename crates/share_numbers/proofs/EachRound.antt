-- What is promised of a round holds of its turn, by its definition alone. Assumes nothing.
use mathlib.Core.Path.{◌≡◌, refl}
use mathlib.Core.Bool.{cond}
use mathlib.Core.List.{List}
use Prim.Native.Nat.{ℕ, ◌≤◌}
use native.Mathlib.Omega.{arith}
use lib.Dec.{eqb}
use Rattle.theory.specs.Route.{Problem, count}
use Rattle.theory.specs.Tables.{problem}
use Rattle.run_numbers.specs.States.{number_of, examined_of}
use Rattle.rounds.specs.Rounds.{Given, Outcome}
use Rattle.rounds.specs.Turn.{accepted_of}
use Rattle.rounds.proofs.Turn.{Fine, turn_fine, turn_fair, started, of_nothing, passed_over}
use Rattle.share_numbers.specs.Shares.{turn_of}
use Rattle.share_numbers.specs.Shared.{RoundShared}

module _ (k share given : ℕ) (g : Given) (least : 2 ≤ k) (most : k ≤ 5) (mine : share ≤ given) where
  abbrev o : Outcome
  o = turn_of k given g

  abbrev P : Problem
  P = problem g.trip

  fine : Fine P k given g.route o
  fine = turn_fine P k given g.pin g.route least

  turn_shared : RoundShared k share given g (number_of o.state) (examined_of o.state) (accepted_of o.state) (accepted_of o.state) o.route
  unfolding count
  turn_shared =
      record {
        reached = fine.reached;
        starts = λ t. started P k given g.pin g.route t;
        of_nothing = λ t z. of_nothing P k given g.pin g.route t least most z;
        passed_over = λ f. passed_over P k g.pin g.route f given;
        within = fine.within;
        spent = fine.spent;
        fair = λ t b f. omega (arith, mine, turn_fair P k given g.pin g.route t b f);
        applied_is = refl;
        same_stops = λ x. fine.same (λ y. cond (eqb x y) 1 0);
        unchanged = fine.unchanged;
        changed = fine.changed;
        optimal = fine.optimal;
      }

  -- The same of the numbers that say it.
  pub round_shared : (state examined accepted applied : ℕ) (route' : List ℕ) → state ≡ number_of o.state → examined ≡ examined_of o.state →
      accepted ≡ accepted_of o.state → applied ≡ accepted → route' ≡ o.route → RoundShared k share given g state examined accepted applied route'
  round_shared s e a p r h i j l m = rw (l, h, i, j, m) turn_shared
