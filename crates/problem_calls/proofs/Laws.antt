-- What is known of a problem that is written or read. Assumes nothing.
use mathlib.Core.Path.{◌≡◌, refl, ap}
use mathlib.Core.Bool.{Bool, true, false, ◌||◌}
use mathlib.Core.List.{List, [], ◌∷◌, ◌++◌}
use Prim.Native.Nat.{ℕ, suc, ◌^◌, ◌≤◌, ◌<◌}
use native.Mathlib.Omega.{arith}
use lib.Dec.{ltb}
use lib.ListN.{length, get_or}
use borrow.Author.Tests.{ltb-false, lt-ltb, le-ltb}
use Rattle.theory.specs.Tables.{Tables}
use Rattle.theory.specs.Question.{Question, question_rules}
use Rattle.theory.specs.Refusals.{Rule, refusal, room, leg_table}
use Rattle.theory.proofs.Refusals.{Passes, known, accepted, taken}
use Rattle.theory.proofs.Judged.{or_false, cut_count_fine, table_fine, times_fine}
use Rattle.text_decimal.specs.Text.{Small}
use Rattle.text_tables.specs.Tables.{Sized}
use Rattle.text_question.specs.Question.{text_of, Held}
use Rattle.text_question.proofs.Texts.{text_of_injective}
use Rattle.text_sizes.specs.Parts.{Sizeable}
use Rattle.problem_calls.specs.Problems.{text_bounds, write_rules, Taken}

-- The numbers of a problem but k and the allowance are of 32 bits, and it has no pairs.
pub record Words (q : Question) : Type 0 where
  pub legs : Small q.trip.tables.legs
  pub latest : Small q.trip.tables.latest
  pub service : Small q.trip.tables.service
  pub route : Small q.route
  pub depot : q.trip.depot ≤ 4294967295
  pub end : q.trip.end ≤ 4294967295
  pub no_pairs : q.trip.pairs ≡ []

pub small_words : (xs : List ℕ) → ((i : ℕ) → get_or xs i 0 < 2 ^ 32) → Small xs
small_words [] h = tt
small_words (x ∷ xs) h = (omega (arith, h 0), small_words xs (λ i. h (suc i)))

pub passes : (q : Question) → refusal (question_rules q) ≡ 0 → Passes (question_rules q)
unfolding known
passes q e = accepted (question_rules q) refl e

pub some_location : (T : Tables) → (leg_table T.locations T.legs).1 ≡ false → 1 ≤ T.locations
some_location T e = ltb-false T.locations 1 (or_false (ltb T.locations 1) (ltb 1024 T.locations) (or_false (ltb T.locations 1 || ltb 1024 T.locations) _ e).0).0

pub tables_sized : (q : Question) → refusal (question_rules q) ≡ 0 → Sized q.trip.tables
tables_sized q e =
    let T = q.trip.tables in
    let p = passes q e in
    let t = times_fine T p.1.1.0 p.1.1.1.1.0 in
    record { square = record { square = (table_fine T.locations T.legs p.1.0 p.1.1.1.0).square }; deadlines = t.deadlines; services = t.services }

pub few_stops : (q : Question) → refusal (question_rules q) ≡ 0 → length q.route ≤ 512
few_stops q e = ltb-false 512 (length q.route) (passes q e).1.1.1.1.1.1.1.0

-- ---- 31

pub bounds_fine : (q : Question) → (text_bounds q).1 ≡ false → (q.trip.tables.locations ≤ 96) × (q.allowance ≤ 4294967295) × (length (text_of q) ≤ 60000)
bounds_fine q e =
    let p = or_false (ltb 96 q.trip.tables.locations || ltb 4294967295 q.allowance) (ltb 60000 (length (text_of q))) e in
    let r = or_false (ltb 96 q.trip.tables.locations) (ltb 4294967295 q.allowance) p.0 in
    (ltb-false 96 q.trip.tables.locations r.0, ltb-false 4294967295 q.allowance r.1, ltb-false 60000 (length (text_of q)) p.1)

pub within_bounds : (q : Question) → q.trip.tables.locations ≤ 96 → q.allowance ≤ 4294967295 → length (text_of q) ≤ 60000 → (text_bounds q).1 ≡ false
within_bounds q l a s = rw (le-ltb 96 q.trip.tables.locations l, le-ltb 4294967295 q.allowance a, le-ltb 60000 (length (text_of q)) s)

or_left : (a b : Bool) → a ≡ true → (a || b) ≡ true
or_left a b e = rw e

or_right : (a b : Bool) → b ≡ true → (a || b) ≡ true
or_right true b e = refl
or_right false b e = e

module _ (q : Question) where
  abbrev many_locations : Bool
  many_locations = ltb 96 q.trip.tables.locations

  abbrev high_allowance : Bool
  high_allowance = ltb 4294967295 q.allowance

  abbrev many_bytes : Bool
  many_bytes = ltb 60000 (length (text_of q))

  pub too_many_locations : 96 < q.trip.tables.locations → (text_bounds q).1 ≡ true
  too_many_locations h = or_left (many_locations || high_allowance) many_bytes (or_left many_locations high_allowance (lt-ltb 96 q.trip.tables.locations h))

  pub too_high_an_allowance : 4294967295 < q.allowance → (text_bounds q).1 ≡ true
  too_high_an_allowance h = or_left (many_locations || high_allowance) many_bytes (or_right many_locations high_allowance (lt-ltb 4294967295 q.allowance h))

  pub too_many_bytes : 60000 < length (text_of q) → (text_bounds q).1 ≡ true
  too_many_bytes h = or_right (many_locations || high_allowance) many_bytes (lt-ltb 60000 (length (text_of q)) h)

-- Its size can be asked.
pub sizeable : (q : Question) → refusal (question_rules q) ≡ 0 → q.trip.tables.locations ≤ 96 → Sizeable q
sizeable q e h = record { tables = record { few = h; sized = tables_sized q e }; few_stops = few_stops q e }

-- What the rules leave is what a text can hold.
pub writable_held : (q : Question) → Words q → refusal (question_rules q) ≡ 0 → (text_bounds q).1 ≡ false → Held q
writable_held q w e b =
    let p = passes q e in
    let f = bounds_fine q b in
    record {
      some_location = some_location q.trip.tables p.1.0;
      few_locations = f.0;
      tables = record { sized = tables_sized q e; small_legs = w.legs; small_latest = w.latest; small_service = w.service };
      small_header = (omega (arith, (cut_count_fine q.k p.0).1), (f.1, (w.depot, (w.end, tt))));
      small_route = w.route;
      no_pairs = w.no_pairs;
      short = f.2;
    }

pub held_bounds : (q : Question) → Held q → (text_bounds q).1 ≡ false
held_bounds q h = within_bounds q h.few_locations h.small_header.1.0 h.short

-- ---- taken by polishing, and by the writer

both : (rs ss : List Rule) → Passes rs → Passes ss → Passes (rs ++ ss)
both [] ss p s = s
both (r ∷ rs) ss p s = (p.0, both rs ss p.1 s)

pub is_taken : (q : Question) → refusal (question_rules q) ≡ 0 → Held q → Taken q
is_taken q e h =
    record {
      polishing_takes = λ lent m. taken (question_rules q ++ (room 6 lent ∷ [])) (both (question_rules q) (room 6 lent ∷ []) (passes q e) (le-ltb lent 6 m, tt));
      writer_takes = λ text result m o.
          taken (write_rules q text result) (both (question_rules q) (text_bounds q ∷ room (length (text_of q)) text ∷ room 1 result ∷ []) (passes q e) (held_bounds q h, (le-ltb text (length (text_of q)) m, (le-ltb result 1 o, tt))));
      held = h;
      equal_texts = λ p k. (λ t. text_of_injective p q k h t, λ s. ap text_of s);
    }
