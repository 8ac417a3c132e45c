-- The replies of the entry `reconnection_at`, over plain values. Assumes nothing.
use mathlib.Core.Path.{◌≡◌, refl}
use mathlib.Core.List.{List, ◌++◌}
use Prim.Native.Nat.{ℕ, ◌+◌}
use lib.ListN.{length, drop}
use Rattle.std.specs.Prelude.{Ok, Err}
use Rattle.theory.specs.Numbers.{refusal_number}
use Rattle.theory.specs.declared.Refusal.{Refusal}
use Rattle.theory.proofs.Checks.{some}
use Rattle.theory.specs.Refusals.{refusal}
use Rattle.theory.specs.declared.KOptReconnection.{KOptReconnection}
use Rattle.theory.proofs.Refusals.{known}
use Rattle.theory.proofs.Judged.{cut_count_fine, pattern_fine, room_fine}
use Rattle.patterns.specs.Enumeration.{Listed, HoldsPattern}
use Rattle.moves.specs.Moves.{Shown, pattern_values}
use Rattle.refusal_rules.specs.Rules.{pattern_rules, with_room}
use Rattle.entry_results.specs.Written.{Written}
use Rattle.entry_results.proofs.Written.{nothing_written, values_written}
use Rattle.cut_calls.specs.Cuts.{ReconnectionReply, pattern_at}
use Rattle.theory.proofs.Taken.{taken_passes}

pub reconnection_err : (k pattern : ℕ) (e : Refusal) → refusal_number e ≡ refusal (pattern_rules k pattern) → ReconnectionReply k pattern (Err e)
reconnection_err k pattern e free = record { number_is = free; shows = tt }

pub reconnection_fine : (k pattern : ℕ) → 0 ≡ refusal (pattern_rules k pattern) → Listed k pattern
unfolding known
reconnection_fine k pattern judged =
    let p = taken_passes (pattern_rules k pattern) 0 judged refl refl in
    let c = cut_count_fine k p.0 in
    record { cuts = record { least = c.0; most = c.1 }; known = pattern_fine k pattern p.1.0 }

pub reconnection_ok : (k pattern : ℕ) (r : KOptReconnection) → 0 ≡ refusal (pattern_rules k pattern) → HoldsPattern k (pattern_at k pattern) r → ReconnectionReply k pattern (Ok r)
reconnection_ok k pattern r free holds = record { number_is = free; shows = holds }

-- In a lent result.
pub shown_err : (k pattern : ℕ) (result : List ℕ) (e : Refusal) → refusal_number e ≡ refusal (with_room (pattern_rules k pattern) (k + 2) (length result)) →
    Written (pattern_rules k pattern) (k + 2) (pattern_values k pattern) result (refusal_number e) result
shown_err k pattern result e free = nothing_written (pattern_rules k pattern) (k + 2) (pattern_values k pattern) result (refusal_number e) free (some e)

pub shown_fine : (k pattern : ℕ) (result : List ℕ) → 0 ≡ refusal (with_room (pattern_rules k pattern) (k + 2) (length result)) → Shown k pattern result
unfolding known
shown_fine k pattern result judged =
    let p = taken_passes (with_room (pattern_rules k pattern) (k + 2) (length result)) 0 judged refl refl in
    let c = cut_count_fine k p.0 in
    record {
      listed = record { cuts = record { least = c.0; most = c.1 }; known = pattern_fine k pattern p.1.0 };
      room = room_fine (k + 2) (length result) p.1.1.0;
    }

pub shown_ok : (k pattern : ℕ) (result result' : List ℕ) → 0 ≡ refusal (with_room (pattern_rules k pattern) (k + 2) (length result)) → result' ≡ pattern_values k pattern ++ drop (k + 2) result →
    Written (pattern_rules k pattern) (k + 2) (pattern_values k pattern) result 0 result'
shown_ok k pattern result result' free e = values_written (pattern_rules k pattern) (k + 2) (pattern_values k pattern) result 0 free refl 0 result' refl e

pub ruleset reconnection = (reconnection_err, reconnection_fine, reconnection_ok, shown_err, shown_fine, shown_ok)
