-- The turns of the walk: the test of the first cuts, a whole cut set, and each next cut. Assumes nothing.
use mathlib.Core.Path.{◌≡◌, refl, sym, ap, ◌∙◌, subst}
use mathlib.Core.Bool.{Bool, true, false, not, true≢false}
use mathlib.Core.List.{List, [], ◌∷◌, ◌++◌, map, append_assoc, append-nil}
use Rattle.std.specs.Prelude.{Some, None}
use Rattle.std.specs.Prelude as Rust
use Prim.Native.Nat.{ℕ, zero, suc, ◌+◌, ◌-◌, ◌≤◌, ◌<◌}
use native.Mathlib.Omega.{arith}
use lib.ListN.{length, set, take, length-append, length-set}
use lib.Seq.{length-take-le, get_or-take}
use Rattle.theory.specs.Moves.{Rising, patterns, upfrom, combinations}
use Rattle.theory.proofs.Cuts.{rising_below}
use Rattle.theory.proofs.Delta.{gap}
use Rattle.first_move.specs.FirstMove.{first_that, numbered, turns_into}
use Rattle.first_move.specs.declared.FoundMove.{FoundMove}
use Rattle.first_move.proofs.First.{first_here, first_later}
use Rattle.find_move.specs.Walk.{tried_from}
use Rattle.prefixes.specs.Prefix.{Tables}
use Rattle.standing.specs.Standing.{Pair, HeadSet, TailSet}
use Rattle.standing_tables.specs.Filling.{SameTable, AlongTable, AgainstTable, Merged, PartsFilled, StandsFilled}
use Rattle.standing_tables.proofs.Parts.{ends_table}
use Rattle.find_move.specs.Search.{Sought, Begun, GoesOn, Walkable, Walked, WholeCuts, FirstPattern, Finds}
use Rattle.find_move.proofs.Steps.{tried_end, tried_next, tried_all, tried_nothing}

-- The first j elements and one more.
take_longer : (l : List ℕ) (j d : ℕ) → j < length l → take (suc j) (set l j d) ≡ take j l ++ (d ∷ [])
take_longer [] j d h = absurd (omega arith)
take_longer (x ∷ l) zero d h = refl
take_longer (x ∷ l) (suc j) d h = ap (λ (r : List ℕ). x ∷ r) (take_longer l j d (omega arith))

no_further : (l : List ℕ) → combinations l 0 ≡ [] ∷ []
unfolding combinations
no_further [] = refl
no_further (x ∷ l) = refl

tried_whole : (count n : ℕ) (pre : List ℕ) (low : ℕ) → tried_from count n pre low 0 ≡ numbered count (pre ∷ [])
unfolding tried_from
tried_whole count n pre low =
    ap (λ (l : List (List ℕ)). numbered count (map (λ s. pre ++ s) l)) (no_further (upfrom low (suc n - low))) ∙ ap (λ (l : List ℕ). numbered count (l ∷ [])) (append-nil pre)

module _ {k : ℕ} {old wanted stands ends parts : List ℕ} {head tail : ℕ} {cuts : List ℕ} {j low : ℕ} (w : Walkable k old wanted stands ends parts head tail cuts j low) where
  abbrev t : List ℕ × ℕ → Bool
  t = turns_into k old wanted

  abbrev n : ℕ
  n = length old

  abbrev from : ℕ → List (List ℕ × ℕ)
  from d = tried_from (length (patterns k)) n (take j cuts) d (k - j)

  so_many : length (take j cuts) ≡ j
  so_many = length-take-le j cuts (omega (arith, w.places, w.within, w.most))

  so_far : Rising 0 (take j cuts) n
  so_far = subst (λ (l : List ℕ). Rising 0 l n) (append-nil (take j cuts)) (w.goes_on [] tt)

  pub begun : Begun k cuts j
  begun =
      record {
        most = w.most;
        within = w.within;
        places = w.places;
        first = λ some_cut.
            record {
              few = omega (arith, w.within, w.most);
              small = λ p h.
                  let b = rising_below n 0 (take j cuts) p so_far (omega (arith, so_many)) in
                  omega (arith, b, get_or-take j cuts p 0 (omega arith), w.tables.pair.few);
              rise = λ p h.
                  let b = gap n 0 (take j cuts) p so_far (omega (arith, so_many)) in
                  omega (arith, b, get_or-take j cuts p 0 (omega arith), get_or-take j cuts (suc p) 0 (omega arith));
            };
      }

  -- Where the test says "no".
  pub nothing : (passed : Bool) → GoesOn stands ends parts head tail k cuts j passed → not passed ≡ true → Walked k old wanted cuts j low None
  nothing true test failed = absurd (true≢false (sym failed))
  nothing false test failed =
      record {
        is = sym
            (tried_nothing (length (patterns k)) n t (take j cuts) low (k - j) w.near
            (λ s many rising i h. test refl n old wanted w.tables s (simp length-append (omega (arith, so_many, many, w.within))) (w.goes_on s rising) i h));
      }

  -- A whole cut set.
  pub whole : j ≡ k → WholeCuts k old wanted cuts
  whole e =
      record {
        sought = record { least = w.least; most = w.most; pair = w.tables.pair };
        cut_set = record {
          least = w.least;
          most = w.most;
          short = omega (arith, w.tables.pair.few);
          many = subst (λ (x : ℕ). length (take x cuts) ≡ x) e so_many;
          rising = subst (λ (x : ℕ). Rising 0 (take x cuts) n) e so_far;
        };
        places = w.places;
      }

  pub whole_walked : (r : Rust.Option FoundMove) → j ≡ k → FirstPattern k old wanted cuts r → Walked k old wanted cuts j low r
  whole_walked r e f =
      let z : k - j ≡ 0 = omega arith in
      record {
        is = f.is
            ∙ ap (λ (x : ℕ). first_that t (numbered (length (patterns k)) (take x cuts ∷ []))) (sym e)
            ∙ ap (first_that t) (sym (tried_whole (length (patterns k)) n (take j cuts) low) ∙ ap (tried_from (length (patterns k)) n (take j cuts) low) (sym z));
      }

  module _ (some_left : j < k) (d : ℕ) (reached : low ≤ d) where
    abbrev longer : List ℕ
    longer = set cuts j d

    begins : take (j + 1) longer ≡ take j cuts ++ (d ∷ [])
    begins = let e : j + 1 ≡ suc j = omega arith in rw e (take_longer cuts j d (omega (arith, w.places, w.most)))

    module _ (near : d ≤ n) where
      pub next_walkable : Walkable k old wanted stands ends parts head tail longer (j + 1) (d + 1)
      next_walkable =
          record {
            least = w.least;
            most = w.most;
            tables = w.tables;
            within = omega arith;
            places = length-set cuts j d ∙ w.places;
            near = omega arith;
            goes_on = λ s rising.
                let e : d + 1 ≡ suc d = omega arith in
                let r : Rising (suc d) s n = rw e at rising in
                let g : Rising 0 (take j cuts ++ (d ∷ s)) n = w.goes_on (d ∷ s) (reached, near, r) in
                let a : (take j cuts ++ (d ∷ [])) ++ s ≡ take j cuts ++ (d ∷ s) = append_assoc (take j cuts) (d ∷ []) s in
                rw (begins, a) g;
          }

      abbrev here : List (List ℕ × ℕ)
      here = tried_from (length (patterns k)) n (take (j + 1) longer) (d + 1) (k - (j + 1))

      parted : from d ≡ here ++ from (d + 1)
      parted =
          let e : d + 1 ≡ suc d = omega arith in
          let m : k - j ≡ suc (k - (j + 1)) = omega arith in
          rw (begins, e, m) (tried_next (length (patterns k)) n (take j cuts) d (k - (j + 1)) near)

      module _ (same : first_that t (from low) ≡ first_that t (from d)) where
        pub found_here : (r : FoundMove) → Walked k old wanted longer (j + 1) (d + 1) (Some r) → Walked k old wanted cuts j low (Some r)
        found_here r walked = record { is = sym (same ∙ ap (first_that t) parted ∙ first_here t here (from (d + 1)) (take k r.cuts, r.index) (sym walked.is)) }

        pub not_here : Walked k old wanted longer (j + 1) (d + 1) None → first_that t (from low) ≡ first_that t (from (d + 1))
        not_here walked = same ∙ ap (first_that t) parted ∙ first_later t here (from (d + 1)) (sym walked.is)

    pub nowhere : n < d → first_that t (from low) ≡ first_that t (from d) → Walked k old wanted cuts j low None
    unfolding first_that
    nowhere far same =
        let m : k - j ≡ suc (k - (j + 1)) = omega arith in
        let e : from d ≡ [] = rw m (tried_end (length (patterns k)) n (take j cuts) d (k - (j + 1)) far) in
        record { is = sym (same ∙ ap (first_that t) e) }

-- ---- from the start on, all

abbrev no_cuts : List ℕ
no_cuts = 0 ∷ 0 ∷ 0 ∷ 0 ∷ 0 ∷ []

-- The tables as they are filled one after the other.
pub tables_of : {old wanted same stands ends parts : List ℕ} {head tail : ℕ} (along against : List ℕ) → Pair (length old) old wanted → SameTable old wanted same → StandsFilled same (length old) stands →
    AlongTable same along → AgainstTable same against → Merged 2401 along against ends → PartsFilled ends parts → HeadSet (length old) old wanted head → TailSet (length old) old wanted tail →
    Tables (length old) old wanted stands ends parts head tail
tables_of {old} {wanted} {same} {stands} {ends} {parts} along against pair sames stood forth back merged later heads tails =
    let ended = ends_table (length old) old wanted same along against ends pair sames forth back merged in
    record {
      pair = pair;
      stood = stood.stood old wanted pair sames;
      ended = ended;
      parted = later (length old) old wanted pair ended;
      heads = heads;
      tails = tails;
    }

pub start : {k : ℕ} {old wanted stands ends parts : List ℕ} {head tail : ℕ} → Sought k old wanted → Tables (length old) old wanted stands ends parts head tail →
    Walkable k old wanted stands ends parts head tail no_cuts 0 0
start sought tables =
    record {
      least = sought.least;
      most = sought.most;
      tables = tables;
      within = omega arith;
      places = refl;
      near = omega arith;
      goes_on = λ s rising. rising;
    }

pub finds : (k : ℕ) (old wanted : List ℕ) (r : Rust.Option FoundMove) → Walked k old wanted no_cuts 0 0 r → Finds k old wanted r
finds k old wanted r walked =
    let e : k - 0 ≡ k = omega arith in
    record {
      is = walked.is ∙ ap (first_that (turns_into k old wanted)) (ap (tried_from (length (patterns k)) (length old) [] 0) e ∙ tried_all (length (patterns k)) (length old) k);
    }
