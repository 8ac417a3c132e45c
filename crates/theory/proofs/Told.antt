-- No two answers are told alike: each can be read back from its number and values. The deadline check's cannot, since kept and late at the number of stops have one value; what
-- forces it is `kept_forced` of crate mittenschist. Assumes nothing.
use mathlib.Core.Path.{◌≡◌, refl, ap}
use mathlib.Core.List.{List, [], ◌∷◌}
use mathlib.Core.Bool.{Bool, true, false}
use Prim.Native.Nat.{ℕ, zero, suc}
use lib.Dec.{eqb}
use lib.ListN.{get_or}
use lib.IntN.{ℤ}
use Rattle.std.specs.Prelude.{cond, Result, Ok, Err}
use Rattle.theory.specs.Numbers.{refusal_number}
use Rattle.theory.specs.Answers.{flag_answer, length_answer, delta_answer, listing_answer, round_values}
use Rattle.theory.specs.declared.Refusal.{Refusal}
use Rattle.theory.specs.declared.Refusal.TheVariants as R
use Rattle.theory.specs.declared.Listing.{Listing}
use Rattle.theory.specs.declared.Listing.TheVariants as Listed
use Rattle.theory.specs.declared.RoundState.{RoundState}
use Rattle.theory.specs.declared.RoundState.TheVariants as Round

abbrev refusal_of : ℕ → Refusal
refusal_of n =
    cond (eqb n 10) R.TextForm
    (cond (eqb n 1) R.CutCount
    (cond (eqb n 26) R.RowCount
    (cond (eqb n 27) R.RowShape
    (cond (eqb n 28) R.RowRepeated
    (cond (eqb n 2) R.TableSize
    (cond (eqb n 3) R.LongLeg
    (cond (eqb n 23) R.ServiceList
    (cond (eqb n 4) R.UnknownStop
    (cond (eqb n 24) R.UnknownEnd
    (cond (eqb n 29) R.Pairs
    (cond (eqb n 5) R.RoundSize
    (cond (eqb n 6) R.PatternIndex
    (cond (eqb n 7) R.Cuts
    (cond (eqb n 8) R.OtherRound
    (cond (eqb n 9) R.NearbyInput
    (cond (eqb n 25) R.MoveRounds
    (cond (eqb n 31) R.TextBounds
    (cond (eqb n 21) R.Room R.JournalLength))))))))))))))))))

pub refusal_told : (e : Refusal) → refusal_of (refusal_number e) ≡ e
refusal_told R.TextForm = refl
refusal_told R.CutCount = refl
refusal_told R.RowCount = refl
refusal_told R.RowShape = refl
refusal_told R.RowRepeated = refl
refusal_told R.TableSize = refl
refusal_told R.LongLeg = refl
refusal_told R.ServiceList = refl
refusal_told R.UnknownStop = refl
refusal_told R.UnknownEnd = refl
refusal_told R.Pairs = refl
refusal_told R.RoundSize = refl
refusal_told R.PatternIndex = refl
refusal_told R.Cuts = refl
refusal_told R.OtherRound = refl
refusal_told R.NearbyInput = refl
refusal_told R.MoveRounds = refl
refusal_told R.TextBounds = refl
refusal_told R.Room = refl
refusal_told R.JournalLength = refl

abbrev flag_of : ℕ → List ℕ → Result Bool Refusal
flag_of n [] = Err (refusal_of n)
flag_of n (zero ∷ l) = Ok false
flag_of n (suc m ∷ l) = Ok true

pub flag_told : (s : Result Bool Refusal) → flag_of (flag_answer s).number (flag_answer s).values ≡ s
flag_told (Err e) = ap Err (refusal_told e)
flag_told (Ok true) = refl
flag_told (Ok false) = refl

abbrev length_of : ℕ → List ℕ → Result ℕ Refusal
length_of n [] = Err (refusal_of n)
length_of n (s ∷ l) = Ok s

pub length_told : (s : Result ℕ Refusal) → length_of (length_answer s).number (length_answer s).values ≡ s
length_told (Err e) = ap Err (refusal_told e)
length_told (Ok s) = refl

abbrev delta_of : ℕ → List ℤ → Result ℤ Refusal
delta_of n [] = Err (refusal_of n)
delta_of n (s ∷ l) = Ok s

pub delta_told : (s : Result ℤ Refusal) → delta_of (delta_answer s).number (delta_answer s).values ≡ s
delta_told (Err e) = ap Err (refusal_told e)
delta_told (Ok s) = refl

abbrev listing_of : ℕ → List ℕ → Result Listing Refusal
listing_of n [] = Err (refusal_of n)
listing_of n (c ∷ []) = Ok (Listed.Ended c)
listing_of n (c ∷ zero ∷ l) = Ok (Listed.Ended c)
listing_of n (c ∷ suc m ∷ l) = Ok (Listed.More c)

pub listing_told : (s : Result Listing Refusal) → listing_of (listing_answer s).number (listing_answer s).values ≡ s
listing_told (Err e) = ap Err (refusal_told e)
listing_told (Ok (Listed.Ended c)) = refl
listing_told (Ok (Listed.More c)) = refl

abbrev state_of : ℕ → (examined accepted : ℕ) → RoundState
state_of zero e a = Round.NotReached
state_of (suc zero) e a = Round.Pinned
state_of (suc (suc zero)) e a = Round.Short
state_of (suc (suc (suc zero))) e a = Round.Unchanged e
state_of (suc (suc (suc (suc zero)))) e a = Round.Changed (record { examined = e; accepted = a })
state_of (suc (suc (suc (suc (suc n))))) e a = Round.Spent (record { examined = e; accepted = a })

pub round_told : (s : RoundState) → state_of (get_or (round_values s) 0 0) (get_or (round_values s) 1 0) (get_or (round_values s) 2 0) ≡ s
round_told Round.NotReached = refl
round_told Round.Pinned = refl
round_told Round.Short = refl
round_told (Round.Unchanged e) = refl
round_told (Round.Changed t) = refl
round_told (Round.Spent t) = refl
