-- The rules of polishing with a list: judged in parts, what they establish, and where the list is that of all patterns. Assumes nothing.
use mathlib.Core.Path.{◌≡◌, refl, sym, ap, ◌∙◌}
use mathlib.Core.Bool.{Bool, true, false}
use mathlib.Core.List.{List, [], ◌∷◌, ◌++◌}
use Prim.Native.Nat.{ℕ, suc, ◌*◌, ◌≤◌, ◌<◌}
use lib.ListN.{length}
use borrow.Author.Tests.{eq-eqb}
use Rattle.theory.specs.Moves.{patterns}
use Rattle.theory.specs.Tables.{PatternRows, pattern_rows}
use Rattle.theory.specs.Question.{Question}
use Rattle.theory.specs.Refusals.{Rule, number, either, refusal, cut_count, known_stops, known_end, stop_count, table_rules, trip_rules, paired_rules, room}
use Rattle.theory.proofs.Refusals.{Passes, known, either_zero, either_assoc}
use Rattle.theory.proofs.Implied.{without_pairs}
use Rattle.theory.proofs.Judged.{cut_count_fine}
use Rattle.theory.proofs.Rows.{length_rows}
use Rattle.theory.proofs.Taken.{taken_passes}
use Rattle.polishing.specs.Loop.{PolishableRows}
use Rattle.polishing.proofs.Judged.{timed_fine, none_lent, paired_fine, pairs_fine}
use Rattle.refusal_rules.specs.Rules.{polish_to_end_rules}
use Rattle.refusal_rules.proofs.Parts.{both_pass, pass_with_room}
use Rattle.pattern_lists.specs.Lists.{list_rules, Counted}
use Rattle.pattern_lists.proofs.Judging.{some_rows, as_many}
use Rattle.pattern_lists.proofs.Lists.{judged_rows, full_list}
use Rattle.pattern_list_polishing.specs.Polishing.{polish_list_rules, polish_list_with_pairs_rules, RowsWithPairs}

module _ (q : Question) (orders masks : List ℕ) (lent : ℕ) where
  -- A list that passes.
  record Rows : Type 0 where
    least : 2 ≤ q.k
    most : q.k ≤ 5
    patterns : PatternRows q.k orders masks
    not_empty : 0 < length masks

  rows_fine : Passes (list_rules q.k orders masks) → Rows
  rows_fine l =
      let c = cut_count_fine q.k l.0 in
      let r = some_rows (length masks) l.1.0 in
      let counted : Counted q.k orders masks = record { least = c.0; most = c.1; some_row = r.0; few = r.1; long = as_many q.k orders masks l.1.1.0 } in
      record { least = c.0; most = c.1; patterns = judged_rows q.k orders masks counted l.1.1.1.0; not_empty = r.0 }

  abbrev trip : List Rule
  trip = trip_rules q.trip q.route

  -- The list, then the rest, then the room.
  pub polish_parts : either (refusal (list_rules q.k orders masks)) (either (refusal trip) (number (room 6 lent))) ≡ refusal (polish_list_rules q orders masks lent)
  unfolding refusal
  polish_parts = simp (either_assoc, either_zero)

  module _ (number : ℕ) (judged : number ≡ refusal (polish_list_rules q orders masks lent)) (h : number ≡ 0) where
    passes : Passes (list_rules q.k orders masks ++ trip) × (6 ≤ lent)
    unfolding known
    passes = pass_with_room (list_rules q.k orders masks ++ trip) 6 lent (taken_passes (polish_list_rules q orders masks lent) number judged refl h)

    pub space : 6 ≤ lent
    space = passes.1

    -- Without pairs no words are lent.
    pub polishable : q.trip.pairs ≡ [] → PolishableRows q.k q.trip orders masks [] q.route
    polishable none =
        let p = both_pass (list_rules q.k orders masks) trip passes.0 in
        let r = rows_fine p.0 in
        record { least = r.least; most = r.most; timed = timed_fine q.trip q.route p.1; patterns = r.patterns; not_empty = r.not_empty; lent = rw none (none_lent [] refl) }

  -- ---- with pairs

  abbrev paired : List Rule
  paired = paired_rules q.trip q.route

  pub paired_parts : either (refusal (list_rules q.k orders masks)) (either (refusal paired) (number (room 6 lent))) ≡ refusal (polish_list_with_pairs_rules q orders masks lent)
  unfolding refusal
  paired_parts = simp (either_assoc, either_zero)

  module _ (number : ℕ) (judged : number ≡ refusal (polish_list_with_pairs_rules q orders masks lent)) (h : number ≡ 0) where
    passes_paired : Passes (list_rules q.k orders masks ++ paired) × (6 ≤ lent)
    unfolding known
    passes_paired = pass_with_room (list_rules q.k orders masks ++ paired) 6 lent (taken_passes (polish_list_with_pairs_rules q orders masks lent) number judged refl h)

    pub space_paired : 6 ≤ lent
    space_paired = passes_paired.1

    pub rows_with_pairs : RowsWithPairs q.k q.trip orders masks q.route
    rows_with_pairs =
        let p = both_pass (list_rules q.k orders masks) paired passes_paired.0 in
        let r = rows_fine p.0 in
        let t = paired_fine q.trip q.route p.1 in
        record {
          least = r.least;
          most = r.most;
          timed = t;
          patterns = r.patterns;
          not_empty = r.not_empty;
          fillable = pairs_fine q.trip.tables.locations q.trip.pairs t.measurable.table.few p.1.1.1.1.1.1.1.0;
        }

  -- "Entries of before act as with an empty list": with none the same is refused.
  pub list_unpaired : q.trip.pairs ≡ [] → refusal (polish_list_with_pairs_rules q orders masks lent) ≡ refusal (polish_list_rules q orders masks lent)
  list_unpaired none =
      let T = q.trip.tables in
      let front = list_rules q.k orders masks ++ (table_rules T ++ (known_stops T.locations q.trip.depot q.route ∷ known_end T.locations q.trip.end ∷ [])) in
      rw none (without_pairs front (stop_count (length q.route) ∷ room 6 lent ∷ []) T.locations)

  -- ---- "a list of all patterns in index order gives the built-in replies"

  module _ (all : pattern_rows q.k orders masks ≡ patterns q.k) (long : length orders ≡ length masks * suc q.k) where
    many : length masks ≡ length (patterns q.k)
    many = sym (length_rows q.k orders masks) ∙ ap length all

    -- Is refused for the same.
    pub full_rules : refusal (polish_list_rules q orders masks lent) ≡ refusal (polish_to_end_rules q lent)
    unfolding refusal either
    full_rules = by (cut_count q.k).1 refl
      where
        by : (b : Bool) → (cut_count q.k).1 ≡ b → refusal (polish_list_rules q orders masks lent) ≡ refusal (polish_to_end_rules q lent)
        by true e = rw e
        by false e =
            let c = cut_count_fine q.k e in
            let f = full_list q.k c.0 c.1 in
            rw (all, eq-eqb (length orders) (length masks * suc q.k) long, many, e, f.0, f.1, f.2)
