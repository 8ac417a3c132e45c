-- What the rules of a route and of polishing establish, where none applies. Assumes nothing.
use mathlib.Core.Path.{◌≡◌, refl}
use mathlib.Core.Bool.{Bool, false, not, ◌||◌}
use mathlib.Core.Logic.{inl, inr}
use mathlib.Core.List.{List, []}
use Prim.Native.Nat.{ℕ, zero, suc, ◌%◌, ◌≤◌}
use native.Mathlib.Omega.{arith}
use lib.Dec.{leb, ltb, eqb}
use lib.ListN.{length, get_or, replicate}
use borrow.Author.Tests.{ltb-false, leb-false, eqb-true, not-false}
use Rattle.theory.specs.Pairs.{pairs_of}
use Rattle.theory.specs.Tables.{Trip, Timed}
use Rattle.std.specs.List.{list_any}
use Rattle.theory.specs.Refusals.{pair_list, trip_rules, paired_rules}
use Rattle.theory.specs.Question.{Question, question_rules, paired_question_rules}
use Rattle.theory.proofs.Refusals.{Passes}
use Rattle.theory.proofs.Judged.{or_false, none_at, cut_count_fine, measurable_fine, times_fine}
use Rattle.precedence.specs.Words.{PairsLent, PairsFillable, Fillable, MembersFilled}
use Rattle.polishing.specs.Loop.{Polishable, PolishableWithPairs}

pub timed_fine : (T : Trip) (route : List ℕ) → Passes (trip_rules T route) → Timed T route
timed_fine T route p =
    let t = T.tables in
    let q = p.1.1.1.1 in
    record {
      measurable = measurable_fine t.locations t.legs T.depot T.end route p.0 p.1.1.0 q.0 q.1.0 q.1.1.0;
      times = times_fine t p.1.0 p.1.1.1.0;
    }

pub polishable_fine : (q : Question) (members : List ℕ) → PairsLent (pairs_of q.trip.pairs) members → Passes (question_rules q) → Polishable q.k q.trip members q.route
polishable_fine q members lent p = let n = cut_count_fine q.k p.0 in record { least = n.0; most = n.1; timed = timed_fine q.trip q.route p.1; lent = lent }

-- ---- with pairs

-- No words where there are no pairs.
pub none_lent : (members : List ℕ) → length members ≡ 0 → PairsLent (pairs_of []) members
unfolding pairs_of
none_lent members e = inl (refl, e)

pub words_lent : {pairs members : List ℕ} → MembersFilled pairs members → PairsLent (pairs_of pairs) members
words_lent m = inr (m.places, m.is)

pub paired_fine : (T : Trip) (route : List ℕ) → Passes (paired_rules T route) → Timed T route
paired_fine T route p =
    let t = T.tables in
    let q = p.1.1.1.1 in
    record {
      measurable = measurable_fine t.locations t.legs T.depot T.end route p.0 p.1.1.0 q.0 q.1.0 q.1.1.1.0;
      times = times_fine t p.1.0 p.1.1.1.0;
    }

-- What 29 lets through: few members, each with its partner, each a location.
pub pairs_fine : (locations : ℕ) (pairs : List ℕ) → locations ≤ 1024 → (pair_list locations pairs).1 ≡ false → PairsFillable pairs
pairs_fine locations pairs few e =
    let unknown : Bool = list_any (λ x. leb locations x) pairs in
    let odd : Bool = not (eqb (length pairs % 2) 0) in
    let p = or_false ((ltb 128 (length pairs) || odd) || unknown) (list_any (λ p. eqb p.0 p.1) (pairs_of pairs)) e in
    let q = or_false (ltb 128 (length pairs) || odd) unknown p.0 in
    let r = or_false (ltb 128 (length pairs)) odd q.0 in
    record {
      few = ltb-false 128 (length pairs) r.0;
      even = eqb-true (length pairs % 2) 0 (not-false _ r.1);
      known = λ i h. omega (arith, leb-false locations (get_or pairs i 0) (none_at (λ x. leb locations x) pairs q.1 i h));
    }

none_set : (n c : ℕ) → ◌≡◌ {A = ℕ} (get_or (replicate n 0) c 0) 0
none_set zero c = refl
none_set (suc n) zero = refl
none_set (suc n) (suc c) = none_set n c

pub fillable : {pairs : List ℕ} → PairsFillable pairs → Fillable pairs (replicate 2048 0)
fillable p = record { list = p; places = refl; empty = none_set 2048 }

pub polishable_with_pairs_fine : (q : Question) → Passes (paired_question_rules q) → PolishableWithPairs q.k q.trip q.route
polishable_with_pairs_fine q p =
    let n = cut_count_fine q.k p.0 in
    let t = paired_fine q.trip q.route p.1 in
    record { least = n.0; most = n.1; timed = t; pairs = pairs_fine q.trip.tables.locations q.trip.pairs t.measurable.table.few p.1.1.1.1.1.1.1.0 }
