-- What the functions of the pair loop ask and give.
use Rattle.std.specs.Prelude.{◌≡◌, true, List, ℕ, suc, ◌≤◌, ◌<◌, length}
use Rattle.theory.specs.Tables.{Timed, Trip}
use Rattle.pair_loop.specs.declared.PairLoop.{PairLoop}

-- What the loop has come to while the allowance lasts, on a route that it can go on with.
pub record Going (allowance : ℕ) (T : Trip) (counted : PairLoop) (route : List ℕ) : Type 0 where
  pub timed : Timed T route
  pub going : counted.finished ≡ true
  pub within : counted.examined ≤ allowance
  pub fewer : counted.accepted ≤ counted.examined

-- The same, and a position that has another behind it.
pub record Sweep (allowance : ℕ) (T : Trip) (i : ℕ) (counted : PairLoop) (route : List ℕ) : Type 0 where
  pub so_far : Going allowance T counted route
  pub inside : suc i < length route
