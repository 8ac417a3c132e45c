-- The scope's number of each refusal, and what C is told of a call: that number, or 0 where nothing was refused.
use Rattle.std.specs.Prelude.{ℕ, Result, Ok, Err}
use Rattle.theory.specs.declared.Refusal.{Refusal}
use Rattle.theory.specs.declared.Refusal.TheVariants as R

abbrev pub refusal_number : Refusal → ℕ
refusal_number R.TextForm = 10
refusal_number R.CutCount = 1
refusal_number R.RowCount = 26
refusal_number R.RowShape = 27
refusal_number R.RowRepeated = 28
refusal_number R.TableSize = 2
refusal_number R.LongLeg = 3
refusal_number R.ServiceList = 23
refusal_number R.UnknownStop = 4
refusal_number R.UnknownEnd = 24
refusal_number R.Pairs = 29
refusal_number R.RoundSize = 5
refusal_number R.PatternIndex = 6
refusal_number R.Cuts = 7
refusal_number R.OtherRound = 8
refusal_number R.NearbyInput = 9
refusal_number R.MoveRounds = 25
refusal_number R.TextBounds = 31
refusal_number R.Room = 21
refusal_number R.JournalLength = 22

abbrev pub judged : {A : Type 0} → Result A Refusal → ℕ
judged (Ok a) = 0
judged (Err e) = refusal_number e
