-- Lists of rules that are judged in parts, over plain values. Assumes nothing.
use mathlib.Core.Path.{◌≡◌, refl, sym, ap₂, ◌∙◌}
use mathlib.Core.Bool.{Bool, true, false, not, ◌||◌, true≢false}
use mathlib.Core.List.{List, [], ◌∷◌, ◌++◌}
use Prim.Native.Nat.{ℕ, ◌≤◌}
use lib.Dec.{ltb, eqb}
use lib.ListN.{length}
use borrow.Author.Tests.{ltb-false, eqb-true}
use Rattle.theory.specs.Tables.{Trip}
use Rattle.theory.specs.Refusals.{Rule, number, either, refusal, cut_count, leg_table, leg_sizes, known_stops, known_end, pair_list, stop_count, room, table_rules, paired_rules}
use Rattle.theory.proofs.Refusals.{Passes, passed, either_zero, either_assoc}
use Rattle.theory.proofs.Judged.{cut_count_fine, room_fine}
use Rattle.theory.proofs.Checks.{passes, tables_then, judging}
use Rattle.refusal_rules.specs.Rules.{route_length_to_end_rules, short_pair, with_room}

-- The rules of the route, and then the others.
pub passes_route : (x locations : ℕ) (legs : List ℕ) (depot end : ℕ) (route : List ℕ) (rest : ℕ) → 0 ≡ refusal (route_length_to_end_rules locations legs depot end route) → x ≡ rest →
    x
    ≡ either (number (leg_table locations legs)) (either (number (leg_sizes legs)) (either (number (known_stops locations depot route)) (either (number (known_end locations end)) (either (number (stop_count (length route))) rest))))
unfolding refusal
passes_route x locations legs depot end route rest h k =
    passes x (refusal (route_length_to_end_rules locations legs depot end route)) rest h k ∙ simp (either_assoc, either_zero)

pub ruleset judging_route = (judging, passes_route)

-- The tables, the depot and the route with its end, its pairs and its number of stops.
pub paired_parts : (T : Trip) (route : List ℕ) (a b c d e : ℕ) → a ≡ refusal (table_rules T.tables) → b ≡ number (known_stops T.tables.locations T.depot route) →
    c ≡ number (known_end T.tables.locations T.end) → d ≡ number (pair_list T.tables.locations T.pairs) → e ≡ number (stop_count (length route)) →
    either a (either b (either c (either d e))) ≡ refusal (paired_rules T route)
unfolding refusal
paired_parts T route a b c d e p q r s t =
    ap₂ either p (ap₂ either q (ap₂ either r (ap₂ either s (t ∙ sym (either_zero _))))) ∙ tables_then T.tables _

-- k is judged before k + 2 is formed.
pub few_cuts : (k rest a : ℕ) → a ≡ either (number (cut_count k)) rest → a ≡ 0 → k ≤ 5
few_cuts k rest a e h = (cut_count_fine k (passed (cut_count k).1 0 rest (sym e ∙ h)).0).1

-- Two routes that pass have one length, at most 48.
pub short_pair_fine : (n m : ℕ) → (short_pair n m).1 ≡ false → (m ≡ n) × (n ≤ 48)
short_pair_fine n m e = by (eqb n m) refl e
  where
    by : (b : Bool) → eqb n m ≡ b → (not b || ltb 48 n) ≡ false → (m ≡ n) × (n ≤ 48)
    by true same f = (sym (eqb-true n m same), ltb-false 48 n f)
    by false same f = absurd (true≢false f)

-- What passes the rules of two parts passes those of each.
pub both_pass : (rs ss : List Rule) → Passes (rs ++ ss) → Passes rs × Passes ss
both_pass [] ss p = (tt, p)
both_pass (r ∷ rs) ss p = let q = both_pass rs ss p.1 in ((p.0, q.0), q.1)

pub pass_with_room : (rules : List Rule) (needed lent : ℕ) → Passes (with_room rules needed lent) → Passes rules × (needed ≤ lent)
pass_with_room rules needed lent p = let q = both_pass rules (room needed lent ∷ []) p in (q.0, room_fine needed lent q.1.0)
