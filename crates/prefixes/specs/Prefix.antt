-- What the test of first cuts says: where it is "no", no cut set that begins with them turns the old route into the wanted one, with whichever pattern.
use Rattle.std.specs.Prelude.{◌≡◌, Bool, false, List, ◌++◌, ℕ, suc, ◌≤◌, ◌<◌, length, take}
use Rattle.theory.specs.Moves.{Rising, patterns}
use Rattle.first_move.specs.FirstMove.{turns_into}
use Rattle.standing.specs.Standing.{Pair, StandsTable, EndsTable, PartsTable, HeadSet, TailSet}
use Rattle.prefixes.specs.Ways.{FirstCuts}

-- The tables of two routes of n stops.
pub record Tables (n : ℕ) (old wanted stands ends parts : List ℕ) (head tail : ℕ) : Type 0 where
  pub pair : Pair n old wanted
  pub stood : StandsTable n old wanted stands
  pub ended : EndsTable n old wanted ends
  pub parted : PartsTable n old wanted parts
  pub heads : HeadSet n old wanted head
  pub tails : TailSet n old wanted tail

-- The first j of the cuts, with whatever cuts behind them.
abbrev pub NothingThere : (k j : ℕ) (old wanted cuts : List ℕ) → Type 0
NothingThere k j old wanted cuts =
    (s : List ℕ) → length (take j cuts ++ s) ≡ k → Rising 0 (take j cuts ++ s) (length old) → (i : ℕ) → i < length (patterns k) →
    turns_into k old wanted (take j cuts ++ s, i) ≡ false

-- The first known + 1 of at most k cuts.
pub record Prefix (k known : ℕ) (cuts : List ℕ) : Type 0 where
  pub most : k ≤ 5
  pub begun : known < k
  pub places : length cuts ≡ 5
  pub first : FirstCuts known cuts

abbrev pub MayLead : (k known : ℕ) (cuts stands ends parts : List ℕ) (head tail : ℕ) → Bool → Type 0
MayLead k known cuts stands ends parts head tail r =
    r ≡ false → (n : ℕ) (old wanted : List ℕ) → Tables n old wanted stands ends parts head tail → NothingThere k (suc known) old wanted cuts
