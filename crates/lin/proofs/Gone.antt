-- How many links of a tour another does not have: at most those that an exchange takes out. Assumes nothing.
use mathlib.Core.Path.{◌≡◌, refl, sym, ap}
use mathlib.Core.Bool.{cond}
use mathlib.Core.Logic.{⊎_elim}
use mathlib.Core.List.{List, [], ◌∷◌, ◌++◌}
use Prim.Native.Nat.{ℕ, zero, suc, ◌+◌, ◌≤◌, ◌<◌}
use native.Mathlib.Omega.{arith}
use lib.Dec.{eqb}
use lib.ListN.{length}
use borrow.Author.Tests.{eq-eqb, ne_eqb}
use Rattle.theory.specs.Route.{Problem}
use Rattle.theory.specs.Links.{tour_links, link_count}
use Rattle.lin.specs.Lin.{Differs}
use Rattle.lin.proofs.Counts.{first_or_later, hit, link_turned, link_self}

-- 1 where the link between x and y does not stand in a list.
abbrev pub lost : List (ℕ × ℕ) → ℕ → ℕ → ℕ
lost ms x y = cond (eqb (link_count x y ms) 0) 1 0

pub lost_none : (ms : List (ℕ × ℕ)) (x y : ℕ) → 0 < link_count x y ms → lost ms x y ≡ 0
lost_none ms x y h = rw (ne_eqb (link_count x y ms) 0 (λ e. omega arith))

pub lost_one : (ms : List (ℕ × ℕ)) (x y : ℕ) → link_count x y ms ≡ 0 → lost ms x y ≡ 1
lost_one ms x y h = rw (eq-eqb (link_count x y ms) 0 h)

unfoldable pub gone : List (ℕ × ℕ) → List (ℕ × ℕ) → ℕ
gone ms [] = 0
gone ms (l ∷ ls) = lost ms l.0 l.1 + gone ms ls

pub gone_short : (ms ls : List (ℕ × ℕ)) → gone ms ls ≤ length ls
unfolding gone
gone_short ms [] = omega arith
gone_short ms (l ∷ ls) = by (link_count l.0 l.1 ms) refl (gone_short ms ls)
  where
    by : (n : ℕ) → link_count l.0 l.1 ms ≡ n → gone ms ls ≤ length ls → lost ms l.0 l.1 + gone ms ls ≤ suc (length ls)
    by zero e i = omega (arith, lost_one ms l.0 l.1 e)
    by (suc n) e i = omega (arith, lost_none ms l.0 l.1 (omega arith))

pub gone_append : (ms ls ns : List (ℕ × ℕ)) → gone ms (ls ++ ns) ≡ gone ms ls + gone ms ns
unfolding gone
gone_append ms [] ns = omega arith
gone_append ms (l ∷ ls) ns = omega (arith, gone_append ms ls ns)

-- A link that stands in a list can be taken out.
take_out : (a b : ℕ) (ls : List (ℕ × ℕ)) → 0 < link_count a b ls →
    (rest : List (ℕ × ℕ)) × (length ls ≡ suc (length rest)) × ((x y : ℕ) → link_count x y ls ≡ hit x y a b + link_count x y rest)
unfolding link_count
take_out a b [] h = absurd (omega arith)
take_out a b (l ∷ ls) h = ⊎_elim (⊎_elim here turned) (λ g. later (take_out a b ls g)) (first_or_later a b l.0 l.1 ls h)
  where
    Out : Type 0
    Out = (rest : List (ℕ × ℕ)) × (suc (length ls) ≡ suc (length rest)) × ((x y : ℕ) → hit x y l.0 l.1 + link_count x y ls ≡ hit x y a b + link_count x y rest)

    here : (a ≡ l.0) × (b ≡ l.1) → Out
    here e = (ls, refl, λ x y. rw (e.0, e.1))

    turned : (a ≡ l.1) × (b ≡ l.0) → Out
    turned e = (ls, refl, λ x y. rw (e.0, e.1) (omega (arith, link_turned x y l.0 l.1)))

    later : (rest : List (ℕ × ℕ)) × (length ls ≡ suc (length rest)) × ((x y : ℕ) → link_count x y ls ≡ hit x y a b + link_count x y rest) → Out
    later t = (l ∷ t.0, ap suc t.1, λ x y. omega (arith, t.2 x y))

few_gone : (ms ls out : List (ℕ × ℕ)) → ((x y : ℕ) → link_count x y ls ≤ link_count x y ms + link_count x y out) → gone ms ls ≤ length out
unfolding gone link_count
few_gone ms [] out h = omega arith
few_gone ms (l ∷ ls) out h = by (link_count l.0 l.1 ms) refl (few_gone ms ls)
  where
    by : (n : ℕ) → link_count l.0 l.1 ms ≡ n → ((out : List (ℕ × ℕ)) → ((x y : ℕ) → link_count x y ls ≤ link_count x y ms + link_count x y out) → gone ms ls ≤ length out) →
        lost ms l.0 l.1 + gone ms ls ≤ length out
    by zero e f =
        let t = take_out l.0 l.1 out (omega (arith, h l.0 l.1, link_self l.0 l.1)) in
        omega (arith, lost_one ms l.0 l.1 e, t.1, f t.0 (λ x y. omega (arith, h x y, t.2 x y)))
    by (suc n) e f = omega (arith, lost_none ms l.0 l.1 (omega arith), f out (λ x y. omega (arith, h x y)))

-- Lists in which each link stands as often have as many links.
all_gone : (ls : List (ℕ × ℕ)) → gone [] ls ≡ length ls
unfolding gone link_count
all_gone [] = refl
all_gone (l ∷ ls) = omega (arith, all_gone ls)

no_longer : (ls ms : List (ℕ × ℕ)) → ((x y : ℕ) → link_count x y ls ≡ link_count x y ms) → length ls ≤ length ms
no_longer ls ms h = omega (arith, all_gone ls, few_gone [] ls ms (λ x y. omega (arith, h x y)))

pub as_many_links : (ls ms : List (ℕ × ℕ)) → ((x y : ℕ) → link_count x y ls ≡ link_count x y ms) → length ls ≡ length ms
as_many_links ls ms h = omega (arith, no_longer ls ms h, no_longer ms ls (λ x y. sym (h x y)))

pub link_append : (x y : ℕ) (ls ms : List (ℕ × ℕ)) → link_count x y (ls ++ ms) ≡ link_count x y ls + link_count x y ms
unfolding link_count
link_append x y [] ms = omega arith
link_append x y (l ∷ ls) ms = omega (arith, link_append x y ls ms)

-- Of an exchange of at most k links at most k are gone.
pub differs_gone : (k : ℕ) (P : Problem) (r s : List ℕ) → Differs k P r s → gone (tour_links P s) (tour_links P r) ≤ k
differs_gone k P r s d = omega (arith, few_gone (tour_links P s) (tour_links P r) d.out (λ x y. omega (arith, d.exchange x y)), d.few)
