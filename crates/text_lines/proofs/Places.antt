-- The readers of a line, as the code goes on. Assumes nothing.
use mathlib.Core.Path.{◌≡◌, refl, sym, ◌∙◌}
use mathlib.Core.List.{List, [], ◌∷◌, ◌++◌, append_assoc}
use mathlib.Core.Option.{Option, none, some, bind}
use Prim.Native.Nat.{ℕ, suc, ◌+◌, ◌-◌, ◌≤◌, ◌<◌}
use native.Mathlib.Numerals.{add-one}
use native.Mathlib.Omega.{arith}
use lib.Dec.{eqb}
use lib.ListN.{length, get_or, take, drop, set, length-set}
use lib.Seq.{take-suc-set, take_all, length-take-le}
use borrow.Author.Tests.{eq-eqb, ne_eqb}
use Rattle.text_tokens.specs.Tokens.{choose, front, numeral, after}
use Rattle.text_lines.specs.Reading.{before, entries, entries_or_none, line_of, row, value}
use Rattle.text_lines.proofs.Lines.{entries_on, entries_missing}

-- A text that a pattern takes apart, by its first byte.
pub begins : (t : List ℕ) (b : ℕ) → 1 ≤ length t → get_or t 0 0 ≡ b → t ≡ b ∷ take (length t - 1) (drop 1 t)
begins [] b h e = absurd (omega arith)
begins (x ∷ t) b h e = rw (take_all (length (x ∷ t) - 1) t (omega arith), e)

pub front_none : (t : List ℕ) (b : ℕ) → 0 < b → length t < 1 → front t ≡ b → ⊥
front_none [] b p h e = omega arith
front_none (x ∷ t) b p h e = omega arith

pub front_other : (t : List ℕ) (b : ℕ) → (get_or t 0 0 ≡ b → ⊥) → front t ≡ b → ⊥
front_other [] b n e = n e
front_other (x ∷ t) b n e = n e

pub before_before : (xs ys : List ℕ) (o : Option (List ℕ × List ℕ)) → before xs (before ys o) ≡ before (xs ++ ys) o
unfolding before
before_before xs ys none = refl
before_before xs ys (some (zs, r)) = rw (append_assoc xs ys zs)

-- The entries still to come, behind those that stand in `out`.
abbrev pub to_come : List ℕ → ℕ → List ℕ → Option (List ℕ × List ℕ)
to_come out count t = before (take count out) (entries (length out - count) t)

pub before_none : (o : Option (List ℕ × List ℕ)) → before [] o ≡ o
unfolding before
before_none none = refl
before_none (some r) = refl

pub entries_begin : (out t : List ℕ) → entries (length out) t ≡ to_come out 0 t
entries_begin out t = let e : length out - 0 ≡ length out = omega arith in rw e (sym (before_none (entries (length out) t)))

pub entries_full : (out t : List ℕ) (count : ℕ) → length out ≤ count → to_come out count t ≡ none
unfolding before entries
entries_full out t count h = let e : length out - count ≡ 0 = omega arith in rw e

pub entries_break : (out t : List ℕ) (count : ℕ) → numeral t ≡ none → to_come out count t ≡ none
unfolding before
entries_break out t count n = rw (entries_missing (length out - count) t n)

module _ (out t s : List ℕ) (count v : ℕ) (c : count < length out) (n : numeral t ≡ some (v, s)) where
  read_one : to_come out count t
      ≡ before (take count out) (choose (eqb (front s) 10) (some (v ∷ [], drop 1 s)) (eqb (front s) 44) (before (v ∷ []) (entries (length out - (count + 1)) (drop 1 s))) none)
  read_one = let room : length out - count ≡ suc (length out - (count + 1)) = omega arith in rw (room, entries_on (length out - (count + 1)) v t s n)

  pub entry_last : (rest : List ℕ) → s ≡ 10 ∷ rest → to_come out count t ≡ some (take (count + 1) (set out count v), rest)
  unfolding before
  entry_last rest e = read_one ∙ rw (e, add-one count, take-suc-set out count v c)

  pub entry_more : (rest : List ℕ) → s ≡ 44 ∷ rest → to_come out count t ≡ to_come (set out count v) (count + 1) rest
  entry_more rest e =
      read_one
      ∙ rw (e, length-set out count v) (before_before (take count out) (v ∷ []) (entries (length out - (count + 1)) rest) ∙ rw (add-one count, take-suc-set out count v c))

  pub entry_breaks : (front s ≡ 10 → ⊥) → (front s ≡ 44 → ⊥) → to_come out count t ≡ none
  unfolding before
  entry_breaks h k = read_one ∙ rw (ne_eqb (front s) 10 h, ne_eqb (front s) 44 k)

pub list_empty : (room : ℕ) (t rest : List ℕ) → t ≡ 10 ∷ rest → entries_or_none room t ≡ some ([], rest)
unfolding entries_or_none
list_empty room t rest e = rw e

pub list_entries : (room : ℕ) (t : List ℕ) → (front t ≡ 10 → ⊥) → entries_or_none room t ≡ entries room t
unfolding entries_or_none
list_entries room t n = rw (ne_eqb (front t) 10 n)

-- A line after its key, or none.
pub line_after : (key : List ℕ) (room : ℕ) (t s : List ℕ) → after key t ≡ some s → line_of key room t ≡ entries_or_none room s
unfolding line_of bind
line_after key room t s e = rw e

pub line_none : (key : List ℕ) (room : ℕ) (t : List ℕ) → after key t ≡ none → line_of key room t ≡ none
unfolding line_of bind
line_none key room t e = rw e

-- A row of the right length, of another, or none.
pub row_whole : (key out t r : List ℕ) (n count : ℕ) → length out ≡ n → line_of key n t ≡ some (take count out, r) → count ≡ length out → row key n t ≡ some (out, r)
unfolding row bind
row_whole key out t r n count l e h = rw (e, take_all count out (omega arith), eq-eqb (length out) n l)

pub row_other : (key out t r : List ℕ) (n count : ℕ) → length out ≡ n → line_of key n t ≡ some (take count out, r) → count ≤ length out → (count ≡ length out → ⊥) → row key n t ≡ none
unfolding row bind
row_other key out t r n count l e h d = rw (e, ne_eqb (length (take count out)) n (λ m. d (sym (length-take-le count out h) ∙ m ∙ sym l)))

pub row_none : (key : List ℕ) (n : ℕ) (t : List ℕ) → line_of key n t ≡ none → row key n t ≡ none
unfolding row bind
row_none key n t e = rw e

pub value_of : (key t xs r : List ℕ) → row key 1 t ≡ some (xs, r) → value key t ≡ some (get_or xs 0 0, r)
unfolding value bind
value_of key t xs r e = rw e

pub value_none : (key t : List ℕ) → row key 1 t ≡ none → value key t ≡ none
unfolding value bind
value_none key t e = rw e
