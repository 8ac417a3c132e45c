-- A round counted stop by stop, and what its highest stop says of all of them. Assumes nothing.
use mathlib.Core.Path.{◌≡◌, refl, sym, ap, ◌∙◌}
use mathlib.Core.Bool.{Bool, true, false, ◌||◌}
use mathlib.Core.List.{List, [], ◌∷◌}
use mathlib.Core.Option.{Option, none, some, none-ne-some, some-injective}
use Prim.Native.Nat.{ℕ, suc, ◌+◌, ◌-◌, ◌≤◌, ◌<◌}
use native.Mathlib.Omega.{arith}
use lib.Dec.{leb, eqb}
use Rattle.std.specs.Prelude.{max}
use lib.ListN.{length, drop}
use borrow.Author.Tests.{leb-true, leb-false, le-leb, lt-leb, ne_eqb}
use Rattle.std.specs.List.{list_any}
use Rattle.text_decimal.specs.Text.{ascii}
use Rattle.text_tokens.specs.Tokens.{choose, front, numeral, after}
use Rattle.text_lines.specs.Reading.{before, entries, line_of}
use Rattle.text_lines.proofs.Lines.{entries_on, entries_missing}
use Rattle.text_lines.proofs.Places.{line_after, line_none, list_empty, list_entries}
use Rattle.text_round.specs.Round.{highest, counted}

-- The stops still to come, behind those that are counted.
abbrev pub to_count : ℕ → ℕ → List ℕ → Option (ℕ × ℕ × List ℕ)
to_count count h t = counted count h (entries (30000 - count) t)

counted_next : (count h v : ℕ) (o : Option (List ℕ × List ℕ)) → counted count h (before (v ∷ []) o) ≡ counted (count + 1) (max h v) o
unfolding counted before highest
counted_next count h v none = refl
counted_next count h v (some (xs, r)) = let e : count + length (v ∷ xs) ≡ count + 1 + length xs = omega arith in rw e

pub nothing : (count h : ℕ) (o : Option (List ℕ × List ℕ)) → o ≡ none → counted count h o ≡ none
unfolding counted
nothing count h o e = rw e

pub count_break : (count h : ℕ) (t : List ℕ) → numeral t ≡ none → to_count count h t ≡ none
count_break count h t n = nothing count h (entries (30000 - count) t) (entries_missing (30000 - count) t n)

pub count_full : (count h : ℕ) (t : List ℕ) → 30000 ≤ count → to_count count h t ≡ none
unfolding counted entries
count_full count h t k = let e : 30000 - count ≡ 0 = omega arith in rw e

module _ (t s : List ℕ) (count h v : ℕ) (c : count < 30000) (n : numeral t ≡ some (v, s)) where
  read_one : to_count count h t
      ≡ counted count h (choose (eqb (front s) 10) (some (v ∷ [], drop 1 s)) (eqb (front s) 44) (before (v ∷ []) (entries (30000 - (count + 1)) (drop 1 s))) none)
  read_one = let room : 30000 - count ≡ suc (30000 - (count + 1)) = omega arith in rw (room, entries_on (30000 - (count + 1)) v t s n)

  pub count_last : (rest : List ℕ) → s ≡ 10 ∷ rest → to_count count h t ≡ some (count + 1, max h v, rest)
  unfolding counted highest
  count_last rest e = read_one ∙ rw e

  pub count_more : (rest : List ℕ) → s ≡ 44 ∷ rest → to_count count h t ≡ to_count (count + 1) (max h v) rest
  count_more rest e = read_one ∙ rw e (counted_next count h v (entries (30000 - (count + 1)) rest))

  pub count_breaks : (front s ≡ 10 → ⊥) → (front s ≡ 44 → ⊥) → to_count count h t ≡ none
  unfolding counted
  count_breaks k l = read_one ∙ rw (ne_eqb (front s) 10 k, ne_eqb (front s) 44 l)

-- ---- the line

pub no_key : (t : List ℕ) → after (ascii "round=") t ≡ none → counted 0 0 (line_of (ascii "round=") 30000 t) ≡ none
no_key t e = nothing 0 0 _ (line_none (ascii "round=") 30000 t e)

module _ (t list : List ℕ) (key : after (ascii "round=") t ≡ some list) where
  pub no_stops : (rest : List ℕ) → list ≡ 10 ∷ rest → counted 0 0 (line_of (ascii "round=") 30000 t) ≡ some (0, 0, rest)
  unfolding counted highest
  no_stops rest e = rw (line_after (ascii "round=") 30000 t list key, list_empty 30000 list rest e)

  pub some_stops : (front list ≡ 10 → ⊥) → counted 0 0 (line_of (ascii "round=") 30000 t) ≡ counted 0 0 (entries 30000 list)
  some_stops n = rw (line_after (ascii "round=") 30000 t list key, list_entries 30000 list n)

-- ---- what was counted

-- The stops that were read, so many, the highest of them.
pub record Counted (found : Option (List ℕ × List ℕ)) (count top : ℕ) (rest : List ℕ) : Type 0 where
  pub stops : List ℕ
  pub found_is : found ≡ some (stops, rest)
  pub count_is : count ≡ length stops
  pub top_is : top ≡ highest 0 stops

pub was_counted : (o : Option (List ℕ × List ℕ)) (count top : ℕ) (rest : List ℕ) → counted 0 0 o ≡ some (count, top, rest) → Counted o count top rest
unfolding counted
was_counted none count top rest e = absurd (none-ne-some (count, top, rest) e)
was_counted (some (xs, r)) count top rest e =
    let p : ◌≡◌ {A = ℕ × ℕ × List ℕ} (0 + length xs, highest 0 xs, r) (count, top, rest) = some-injective _ _ e in
    let q : r ≡ rest = ap (λ (x : ℕ × ℕ × List ℕ). x.2) p in
    record { stops = xs; found_is = rw q; count_is = omega (arith, ap (λ (x : ℕ × ℕ × List ℕ). x.0) p); top_is = sym (ap (λ (x : ℕ × ℕ × List ℕ). x.1) p) }

pub not_counted : (o : Option (List ℕ × List ℕ)) → counted 0 0 o ≡ none → o ≡ none
unfolding counted
not_counted none e = refl
not_counted (some (xs, r)) e = absurd (none-ne-some _ (sym e))

-- ---- the highest stop

at_higher : (n a b : ℕ) → leb n (max a b) ≡ (leb n a || leb n b)
at_higher n a b = go (leb n a) refl (leb n b) refl
  where
    go : (x : Bool) → leb n a ≡ x → (y : Bool) → leb n b ≡ y → leb n (max a b) ≡ (x || y)
    go true i y j = le-leb n (max a b) (omega (arith, leb-true n a i))
    go false i true j = le-leb n (max a b) (omega (arith, leb-true n b j))
    go false i false j = lt-leb n (max a b) (omega (arith, leb-false n a i, leb-false n b j))

or_assoc : (a b c : Bool) → ((a || b) || c) ≡ (a || (b || c))
or_assoc true b c = refl
or_assoc false b c = refl

or_none : (a : Bool) → (a || false) ≡ a
or_none true = refl
or_none false = refl

some_above : (n h : ℕ) (xs : List ℕ) → (leb n h || list_any (λ s. leb n s) xs) ≡ leb n (highest h xs)
unfolding highest
some_above n h [] = or_none (leb n h)
some_above n h (x ∷ xs) = sym (or_assoc (leb n h) (leb n x) (list_any (λ s. leb n s) xs)) ∙ rw (← at_higher n h x) (some_above n (max h x) xs)

-- A stop is not below the locations exactly if the highest is not.
pub unknown_stop : (n : ℕ) (xs : List ℕ) → 1 ≤ n → list_any (λ s. leb n s) xs ≡ leb n (highest 0 xs)
unknown_stop n xs h = rw (lt-leb n 0 h) at (some_above n 0 xs)
