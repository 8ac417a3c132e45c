-- The replies of the entry `find_move` and of its C function, over plain values. Assumes nothing.
use mathlib.Core.Path.{◌≡◌, refl, sym, ◌∙◌, subst}
use mathlib.Core.List.{List}
use mathlib.Core.Option.{none}
use Prim.Native.Nat.{ℕ, ◌+◌}
use lib.ListN.{length}
use Rattle.std.specs.Prelude.{Ok, Err}
use Rattle.std.specs.Prelude as Rust
use Rattle.theory.specs.Numbers.{refusal_number}
use Rattle.theory.specs.declared.Refusal.{Refusal}
use Rattle.theory.proofs.Checks.{some}
use Rattle.theory.specs.Refusals.{Rule, refusal}
use Rattle.theory.proofs.Refusals.{known}
use Rattle.theory.proofs.Judged.{cut_count_fine, room_fine}
use Rattle.theory.proofs.Taken.{refused_kept, taken_done, taken_passes}
use Rattle.first_move.specs.FirstMove.{first_move, found_move, move_values, in_front, Told}
use Rattle.first_move.specs.declared.FoundMove.{FoundMove}
use Rattle.first_move.proofs.FirstMove.{told, told_back}
use Rattle.find_move.specs.Search.{Sought, Finds}
use Rattle.moves.specs.Moves.{MoveRoom}
use Rattle.refusal_rules.specs.Rules.{find_move_rules, with_room}
use Rattle.refusal_rules.proofs.Parts.{short_pair_fine}
use Rattle.cut_calls.specs.Cuts.{FindMoveReply, FindMoveWritten}

module _ (k : ℕ) (old wanted : List ℕ) (number : ℕ) (judged : number ≡ refusal (find_move_rules k (length old) (length wanted))) where
  abbrev rules : List Rule
  rules = find_move_rules k (length old) (length wanted)

  module _ (h : number ≡ 0) where
    search_fine : Sought k old wanted
    unfolding known
    search_fine =
        let p = taken_passes rules number judged refl h in
        let c = cut_count_fine k p.0 in
        let q = short_pair_fine (length old) (length wanted) p.1.1.1.0 in
        record { least = c.0; most = c.1; pair = record { few = q.1; olds = refl; wanteds = q.0 } }

module _ (k : ℕ) (old wanted result : List ℕ) (number : ℕ) (judged : number ≡ refusal (with_room (find_move_rules k (length old) (length wanted)) (k + 2) (length result))) where
  abbrev asked : List Rule
  asked = with_room (find_move_rules k (length old) (length wanted)) (k + 2) (length result)

  abbrev done : List ℕ
  done = in_front (move_values (first_move k old wanted)) result

  call_refused : (number ≡ 0 → ⊥) → FindMoveWritten k old wanted result number result
  call_refused h =
      record {
        number_is = judged;
        result_is = refused_kept asked number judged done result h;
        told = λ z. absurd (h z);
      }

  module _ (h : number ≡ 0) where
    call_fine : Sought k old wanted
    unfolding known
    call_fine =
        let p = taken_passes asked number judged refl h in
        let c = cut_count_fine k p.0 in
        let q = short_pair_fine (length old) (length wanted) p.1.1.1.0 in
        record { least = c.0; most = c.1; pair = record { few = q.1; olds = refl; wanteds = q.0 } }

    call_room : MoveRoom k result
    unfolding known
    call_room =
        let p = taken_passes asked number judged refl h in
        record { most = (cut_count_fine k p.0).1; room = room_fine (k + 2) (length result) p.1.1.1.1.0 }

    call_found : (r : Rust.Option FoundMove) (result' : List ℕ) → Finds k old wanted r → result' ≡ in_front (move_values (found_move k r)) result → FindMoveWritten k old wanted result 0 result'
    call_found r result' f e =
        let written : result' ≡ done = e ∙ rw f.is refl in
        record {
          number_is = sym h ∙ judged;
          result_is = written ∙ taken_done asked number judged done result h;
          told = λ z. subst (Told k old wanted) (sym (rw written (told_back k old wanted result))) (told k old wanted);
        }

-- ---- the calls

pub find_err : (k : ℕ) (old wanted : List ℕ) (e : Refusal) → refusal_number e ≡ refusal (find_move_rules k (length old) (length wanted)) → FindMoveReply k old wanted (Err e)
find_err k old wanted e free =
    record {
      number_is = free;
      move_is = refused_kept (find_move_rules k (length old) (length wanted)) (refusal_number e) free (first_move k old wanted) none (some e);
      told = λ z. absurd (some e z);
    }

pub find_fine : (k : ℕ) (old wanted : List ℕ) → 0 ≡ refusal (find_move_rules k (length old) (length wanted)) → Sought k old wanted
find_fine k old wanted free = search_fine k old wanted 0 free refl

pub find_ok : (k : ℕ) (old wanted : List ℕ) (r : Rust.Option FoundMove) → 0 ≡ refusal (find_move_rules k (length old) (length wanted)) → Finds k old wanted r → FindMoveReply k old wanted (Ok r)
find_ok k old wanted r free f =
    record {
      number_is = free;
      move_is = f.is ∙ taken_done (find_move_rules k (length old) (length wanted)) 0 free (first_move k old wanted) none refl;
      told = λ z. subst (Told k old wanted) (sym f.is) (told k old wanted);
    }

pub find_written_err : (k : ℕ) (old wanted result : List ℕ) (e : Refusal) → refusal_number e ≡ refusal (with_room (find_move_rules k (length old) (length wanted)) (k + 2) (length result)) → FindMoveWritten k old wanted result (refusal_number e) result
find_written_err k old wanted result e free = call_refused k old wanted result (refusal_number e) free (some e)

pub find_written_fine : (k : ℕ) (old wanted result : List ℕ) → 0 ≡ refusal (with_room (find_move_rules k (length old) (length wanted)) (k + 2) (length result)) → Sought k old wanted
find_written_fine k old wanted result free = call_fine k old wanted result 0 free refl

pub find_written_room : (k : ℕ) (old wanted result : List ℕ) → 0 ≡ refusal (with_room (find_move_rules k (length old) (length wanted)) (k + 2) (length result)) → MoveRoom k result
find_written_room k old wanted result free = call_room k old wanted result 0 free refl

pub find_written_ok : (k : ℕ) (old wanted result : List ℕ) (r : Rust.Option FoundMove) (result' : List ℕ) → 0 ≡ refusal (with_room (find_move_rules k (length old) (length wanted)) (k + 2) (length result)) → Finds k old wanted r →
    result' ≡ in_front (move_values (found_move k r)) result → FindMoveWritten k old wanted result 0 result'
find_written_ok k old wanted result r result' free f e = call_found k old wanted result 0 free refl r result' f e

pub ruleset find = (find_err, find_fine, find_ok, find_written_err, find_written_fine, find_written_room, find_written_ok)
