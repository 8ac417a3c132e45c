-- The rank of an order, a segment at a time. Assumes nothing.
use mathlib.Core.Path.{◌≡◌, sym, ap, ◌∙◌}
use mathlib.Core.Bool.{Bool, true, false, cond}
use mathlib.Core.List.{List, [], ◌∷◌}
use Prim.Native.Nat.{ℕ, zero, suc, ◌+◌, ◌-◌, ◌*◌, ◌≤◌, ◌<◌}
use native.Mathlib.Nat.{add-mul, mul_assoc, mul-le-mul, le_refl}
use native.Mathlib.Numerals.{add-one}
use native.Mathlib.Omega.{arith}
use lib.Dec.{ltb}
use lib.ListN.{length, get_or, drop, length-drop, drop_of_length-le}
use lib.Seq.{drop-cons}
use Rattle.theory.specs.Moves.{total, factorial}
use Rattle.inverse.specs.PatternIndex.{below, rank}

-- ---- how many are below

pub hit_small : (b : Bool) → cond b 1 0 ≤ 1
hit_small true = omega arith
hit_small false = omega arith

pub below_more : (x : ℕ) (l : List ℕ) (i sum h : ℕ) → i < length l → h ≡ cond (ltb (get_or l i 0) x) 1 0 → sum + below x (drop i l) ≡ below x l →
    sum + h + below x (drop (i + 1) l) ≡ below x l
unfolding below total
below_more x l i sum h b is e =
    let d : below x (drop i l) ≡ cond (ltb (get_or l i 0) x) 1 0 + below x (drop (suc i) l) = ap (below x) (drop-cons l i 0 b) in
    rw (add-one i) (omega (arith, d, is, e))

pub below_end : (x : ℕ) (l : List ℕ) (i sum : ℕ) → length l ≤ i → sum + below x (drop i l) ≡ below x l → sum ≡ below x l
unfolding below total
below_end x l i sum h e = let d : below x (drop i l) ≡ 0 = ap (below x) (drop_of_length-le l h) in omega (arith, d, e)

below_few : (x : ℕ) (l : List ℕ) → below x l ≤ length l
unfolding below total
below_few x [] = omega arith
below_few x (y ∷ l) = omega (arith, hit_small (ltb y x), below_few x l)

-- ---- the rank

rank_few : (o : List ℕ) → rank o < factorial (length o)
unfolding rank factorial
rank_few [] = omega arith
rank_few (x ∷ o) = omega (arith, rank_few o, mul-le-mul (below_few x o) (le_refl (factorial (length o))))

-- What is counted weighs as much as the orders of the rest.
abbrev pub Weighed : List ℕ → ℕ → ℕ → Type 0
Weighed o i sum = sum * factorial (length o - i) + rank (drop i o) ≡ rank o

pub weighed_none : (o : List ℕ) → Weighed o 0 0
weighed_none o = omega arith

pub weighed_more : (o : List ℕ) (i sum r : ℕ) → i < length o → r ≡ below (get_or o i 0) (drop (i + 1) o) → Weighed o i sum → Weighed o (i + 1) (sum * (length o - i) + r)
unfolding rank factorial
weighed_more o i sum r h is e =
    let n = length o - (i + 1) in
    let left : length o - i ≡ suc n = omega arith in
    let long : length (drop (suc i) o) ≡ n = length-drop (suc i) o ∙ ap (λ j. length o - j) (sym (add-one i)) in
    let here : rank (drop i o) ≡ below (get_or o i 0) (drop (suc i) o) * factorial (length (drop (suc i) o)) + rank (drop (suc i) o) = ap rank (drop-cons o i 0 h) in
    let here' : rank (drop i o) ≡ r * factorial n + rank (drop (i + 1) o) =
    here ∙ ap (λ m. below (get_or o i 0) (drop (suc i) o) * factorial m + rank (drop (suc i) o)) long ∙ ap (λ j. below (get_or o i 0) (drop j o) * factorial n + rank (drop j o)) (sym (add-one i)) ∙ ap (λ b. b * factorial n + rank (drop (i + 1) o)) (sym is) in
    let weight : sum * factorial (length o - i) ≡ sum * (length o - i) * factorial n = ap (λ m. sum * factorial m) left ∙ sym (mul_assoc sum (suc n) (factorial n)) ∙ ap (λ m. sum * m * factorial n) (sym left) in
    let both : (sum * (length o - i) + r) * factorial n ≡ sum * (length o - i) * factorial n + r * factorial n = add-mul (sum * (length o - i)) r (factorial n) in
    omega (arith, here', weight, both, e)

some_orders : (n : ℕ) → 1 ≤ factorial n
unfolding factorial
some_orders zero = omega arith
some_orders (suc n) = let one : 1 ≤ suc n = omega arith in omega (arith, mul-le-mul one (some_orders n))

-- Of at most four segments nothing grows beyond their orders.
at_most_24 : (n : ℕ) → n ≤ 4 → factorial n ≤ 24
unfolding factorial
at_most_24 zero h = omega arith
at_most_24 (suc zero) h = omega arith
at_most_24 (suc (suc zero)) h = omega arith
at_most_24 (suc (suc (suc zero))) h = omega arith
at_most_24 (suc (suc (suc (suc zero)))) h = omega arith
at_most_24 (suc (suc (suc (suc (suc n))))) h = absurd (omega arith)

pub weighed_few : (o : List ℕ) (i sum : ℕ) → length o ≤ 4 → Weighed o i sum → sum < 24
weighed_few o i sum h e = omega (arith, e, rank_few o, at_most_24 (length o) h, mul-le-mul (le_refl sum) (some_orders (length o - i)))

pub weighed_all : (o : List ℕ) (i sum : ℕ) → i ≡ length o → Weighed o i sum → sum ≡ rank o
unfolding rank factorial
weighed_all o i sum h e =
    let none : length o - i ≡ 0 = omega arith in
    let rest : rank (drop i o) ≡ 0 = ap rank (drop_of_length-le o {i = i} (omega arith)) in
    let one : sum * factorial (length o - i) ≡ sum * 1 = ap (λ n. sum * factorial n) none in
    omega (arith, rest, one, e)
