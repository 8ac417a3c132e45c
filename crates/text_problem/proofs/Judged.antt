-- A text that was read, judged: by its highest stop, and then by how many there are. Assumes nothing.
use mathlib.Core.Path.{◌≡◌, refl, sym, ap, ◌∙◌}
use mathlib.Core.Bool.{Bool, true, false, cond, ◌||◌}
use mathlib.Core.List.{List, [], ◌∷◌}
use mathlib.Core.Option.{none, some, none-ne-some}
use Prim.Native.Nat.{ℕ, ◌*◌, ◌≤◌}
use native.Mathlib.Omega.{arith}
use native.Mathlib.Nat.{mul-le-mul}
use lib.Dec.{leb}
use lib.ListN.{length}
use borrow.Author.Tests.{ne_eqb, ltb-false}
use Rattle.theory.specs.Tables.{Tables, tables, Trip}
use Rattle.theory.specs.Refusals.{either, number, refusal, cut_count, known_stops, stop_count, trip_rules}
use Rattle.theory.specs.Question.{Question, question_rules}
use Rattle.theory.proofs.Refusals.{known, accepted, either_assoc, either_zero}
use Rattle.text_decimal.specs.Text.{ascii}
use Rattle.text_tokens.proofs.Numbers.{same_read}
use Rattle.text_lines.specs.Reading.{line_of}
use Rattle.text_lines.specs.Told.{Listed, entries_told}
use Rattle.text_lines.proofs.Lines.{line_sound, line_complete}
use Rattle.text_round.specs.Round.{highest}
use Rattle.text_round.proofs.Counting.{unknown_stop}
use Rattle.text_question.specs.Reading.{read}
use Rattle.text_question.specs.Told.{question_with, Places, ReadAs}
use Rattle.text_question.specs.declared.Header.{Header}
use Rattle.text_question.proofs.Texts.{read_exactly}
use Rattle.text_problem.specs.Judged.{judged, judge_read, ProblemPlaces, first_refusal, Judges}
use Rattle.std.specs.Prelude as Rust
use Rattle.std.specs.Borrow.{Bor}
use Rattle.theory.specs.Numbers.{refusal_number}
use Rattle.theory.specs.declared.Refusal.{Refusal}
use Rattle.theory.specs.declared.Refusal.TheVariants as R
use Rattle.theory.proofs.Checks.{some as some_number}

pub still_lent : {legs latest service stops legs' latest' service' stops' : List ℕ} → ProblemPlaces (tables 96 legs latest service) stops →
    length legs' ≡ length legs → length latest' ≡ length latest → length service' ≡ length service → length stops' ≡ length stops →
    ProblemPlaces (tables 96 legs' latest' service') stops'
still_lent l a b c d =
    record {
      most = refl;
      sized = record { square = record { square = a ∙ l.sized.square.square }; deadlines = b ∙ l.sized.deadlines; services = c ∙ l.sized.services };
      stops_places = d ∙ l.stops_places;
    }

pub lent_tables : {T : Tables} {stops : List ℕ} → ProblemPlaces T stops → Places T
lent_tables p = record { most = p.most; sized = p.sized }

-- The parts of the places that hold a problem.
pub record Fits (h : Header) (count : ℕ) (T : Tables) (stops : List ℕ) : Type 0 where
  pub cells : h.locations * h.locations ≤ 9216
  pub legs_fit : h.locations * h.locations ≤ length T.legs
  pub latest_fit : h.locations ≤ length T.latest
  pub service_fit : h.locations ≤ length T.service
  pub stops_fit : count ≤ length stops

pub fitting : (h : Header) (count : ℕ) {T : Tables} {stops : List ℕ} → Places T → h.locations ≤ 96 → count ≤ length stops → Fits h count T stops
fitting h count p few within =
    let cells : h.locations * h.locations ≤ 96 * 96 = mul-le-mul few few in
    record {
      cells = cells;
      legs_fit = rw (p.sized.square.square, p.most) cells;
      latest_fit = rw (p.sized.deadlines, p.most) few;
      service_fit = rw (p.sized.services, p.most) few;
      stops_fit = within;
    }

-- ---- judged by the highest stop

or_none : (a : Bool) → (a || false) ≡ a
or_none true = refl
or_none false = refl

known_alike : (locations depot : ℕ) (stops : List ℕ) → 1 ≤ locations → number (known_stops locations depot stops) ≡ number (known_stops locations depot (highest 0 stops ∷ []))
known_alike locations depot stops h = ap (λ (b : Bool). cond (leb locations depot || b) 4 0) (unknown_stop locations stops h ∙ sym (or_none (leb locations (highest 0 stops))))

judged_alike : (k : ℕ) (T : Trip) (stops : List ℕ) → 1 ≤ T.tables.locations →
    either (refusal (cut_count k ∷ trip_rules T (highest 0 stops ∷ []))) (number (stop_count (length stops))) ≡ refusal (cut_count k ∷ trip_rules T stops)
unfolding refusal
judged_alike k T stops h = rw (known_alike T.tables.locations T.depot stops h) (simp (either_assoc, either_zero))

-- ---- the answer

judged_read : (text : List ℕ) → judged text ≡ judge_read (read text)
unfolding judged
judged_read text = refl

pub malformed : (text : List ℕ) (T : Tables) (stops : List ℕ) → read text ≡ none → Judges text T stops (Rust.Err R.TextForm)
malformed text T stops e = record { judges = judged_read text ∙ rw e; few_locations = omega arith; few_stops = omega arith }

-- A line that was read with more room than its numbers need.
less_room : (key : List ℕ) (more room : ℕ) (t xs r : List ℕ) → line_of key more t ≡ some (xs, r) → length xs ≤ room → line_of key room t ≡ some (xs, r)
less_room key more room t xs r e h = let l = line_sound key more t xs r e in ap (line_of key room) l.0 ∙ line_complete key room xs r l.1 h

module _ {text : List ℕ} {T : Tables} {h : Header} {count top : ℕ} {round : List ℕ} (a : ReadAs text T h count top round) where
  abbrev q : Question
  q = question_with h T a.stops

  pub some_location : 1 ≤ h.locations
  some_location = ((read_exactly text q).0 a.reads).1.some_location

  pub few : h.locations ≤ 96
  few = ((read_exactly text q).0 a.reads).1.few_locations

  rules : (n : ℕ) → n ≡ first_refusal h T count top → n ≡ refusal (question_rules q)
  rules n is = is ∙ rw (a.top_is, a.count_is) (judged_alike h.k q.trip a.stops some_location)

  pub refused_by : (e : Refusal) → refusal_number e ≡ first_refusal h T count top → (stops : List ℕ) → Judges text T stops (Rust.Err e)
  refused_by e is stops =
      record { judges = judged_read text ∙ rw (a.reads, ← rules (refusal_number e) is, ne_eqb (refusal_number e) 0 (some_number e)); few_locations = omega arith; few_stops = omega arith }

  module _ (is : 0 ≡ first_refusal h T count top) where
    few_stops : length a.stops ≤ 512
    unfolding known
    few_stops = let p = accepted (question_rules q) refl (sym (rules 0 is)) in ltb-false 512 (length a.stops) p.1.1.1.1.1.1.1.0

    -- The stops are read again, into their places.
    module _ {stops : List ℕ} {found : Rust.Option (ℕ × Bor (List ℕ))} {room : ℕ} (many : room ≡ 512) (l : Listed (line_of (ascii "round=") room round) stops found) where
      again : entries_told stops found ≡ some (a.stops, [])
      again = sym l.reads ∙ less_room (ascii "round=") 30000 room round a.stops [] a.line_is (omega (arith, few_stops))

      pub not_lost : found ≡ Rust.None → ⊥
      not_lost e = none-ne-some _ (rw e at again)

      pub read_in : (r : ℕ × Bor (List ℕ)) → found ≡ Rust.Some r → r.0 ≤ length stops → Judges text T stops (Rust.Ok (record { header = h; count = r.0 }))
      read_in r e w =
          let k = same_read (rw e at again) in
          record { judges = judged_read text ∙ rw (a.reads, ← rules 0 is, k.0); few_locations = few; few_stops = w }
