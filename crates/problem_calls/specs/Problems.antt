-- What writing a problem as text and reading one promise. A problem is the values of the text's lines, a question without pairs.
use Rattle.std.specs.Prelude.{◌≡◌, true, false, ◌||◌, ◌↔◌, List, [], ◌∷◌, ◌++◌, ℕ, ◌*◌, ◌≤◌, ltb, length, get_or, take, drop}
use Rattle.std.specs.Prelude as Rust
use Rattle.std.proofs.Math.Option.{Option, none, some}
use Rattle.theory.specs.Question.{Question, question, question_rules}
use Rattle.theory.specs.Refusals.{Rule, refusal, if_taken, room}
use Rattle.refusal_rules.specs.Rules.{polish_to_end_rules}
use Rattle.text_question.specs.Question.{text_of, Held}
use Rattle.text_question.specs.Reading.{read}

-- "31, beyond the text's bounds": "more than 96 locations, an allowance above 4294967295 or more than 60,000 bytes".
abbrev pub text_bounds : Question → Rule
text_bounds q = (31, ltb 96 q.trip.tables.locations || ltb 4294967295 q.allowance || ltb 60000 (length (text_of q)))

-- "Reader and writer both give polishing's refusals of those values"; "31 .. after 9 and before 21".
abbrev pub write_rules : Question → (text result : ℕ) → List Rule
write_rules q text result = question_rules q ++ (text_bounds q ∷ room (length (text_of q)) text ∷ room 1 result ∷ [])

-- The numbers of a problem, as the result holds them.
abbrev pub numbers_of : Question → List ℕ
numbers_of q = q.k ∷ q.allowance ∷ q.trip.tables.locations ∷ q.trip.depot ∷ q.trip.end ∷ length q.route ∷ []

-- 21 of each of the lent lists, and of the result.
abbrev pub list_rooms : Question → (legs latest service route result : ℕ) → List Rule
list_rooms q legs latest service route result =
    room (length q.trip.tables.legs) legs
    ∷ room (length q.trip.tables.latest) latest
    ∷ room (length q.trip.tables.service) service
    ∷ room (length q.route) route
    ∷ room 6 result
    ∷ []

abbrev pub read_rules : Option Question → (legs latest service route result : ℕ) → List Rule
read_rules none legs latest service route result = (10, true) ∷ []
read_rules (some q) legs latest service route result = question_rules q ++ list_rooms q legs latest service route result

-- The values in the first places, and those beyond as they were; of no problem all are.
abbrev pub put_before : List ℕ → List ℕ → List ℕ
put_before values l = values ++ drop (length values) l

abbrev pub put_read : (Question → List ℕ) → Option Question → List ℕ → List ℕ
put_read values none l = l
put_read values (some q) l = put_before (values q) l

-- The problem that lent lists and a result hold.
abbrev pub handed : (legs latest service route result : List ℕ) → Question
handed legs latest service route result =
    let n = get_or result 2 0 in
    question (get_or result 0 0) (get_or result 1 0) n (take (n * n) legs) (take n latest) (take n service) (get_or result 3 0) (get_or result 4 0) (take (get_or result 5 0) route)

-- What is known of a problem that either call takes: "every problem is one that polishing takes"; a text can hold it, and "two problems have equal text exactly
-- when they are equal".
pub record Taken (q : Question) : Type 0 where
  pub polishing_takes : (lent : ℕ) → 6 ≤ lent → refusal (polish_to_end_rules q lent) ≡ 0
  pub writer_takes : (text result : ℕ) → length (text_of q) ≤ text → 1 ≤ result → refusal (write_rules q text result) ≡ 0
  pub held : Held q
  pub equal_texts : (p : Question) → Held p → (text_of p ≡ text_of q) ↔ (p ≡ q)

-- Of the slices as they are handed in and as they are handed back: the text in the first places, and its size as the result. "Reading the text back returns the
-- problem": the bytes that the result counts.
pub record WriteReply (q : Question) (text result : List ℕ) (answer : ℕ) (text' result' : List ℕ) : Type 0 where
  pub number_is : answer ≡ refusal (write_rules q (length text) (length result))
  pub text_is : text' ≡ if_taken (write_rules q (length text) (length result)) (put_before (text_of q) text) text
  pub result_is : result' ≡ if_taken (write_rules q (length text) (length result)) (put_before (length (text_of q) ∷ []) result) result
  pub reads_back : answer ≡ 0 → read (take (get_or result' 0 0) text') ≡ some q
  pub taken : answer ≡ 0 → Taken q

-- The tables, the stops and the numbers of the text's problem, each in the first places of its list. "Writing a problem that was read returns its bytes."
pub record ReadReply (text legs latest service route result : List ℕ) (answer : ℕ) (legs' latest' service' route' result' : List ℕ) : Type 0 where
  pub number_is : answer ≡ refusal (read_rules (read text) (length legs) (length latest) (length service) (length route) (length result))
  pub legs_are : legs' ≡ if_taken (read_rules (read text) (length legs) (length latest) (length service) (length route) (length result)) (put_read (λ q. q.trip.tables.legs) (read text) legs) legs
  pub latest_are : latest' ≡ if_taken (read_rules (read text) (length legs) (length latest) (length service) (length route) (length result)) (put_read (λ q. q.trip.tables.latest) (read text) latest) latest
  pub service_are : service' ≡ if_taken (read_rules (read text) (length legs) (length latest) (length service) (length route) (length result)) (put_read (λ q. q.trip.tables.service) (read text) service) service
  pub route_is : route' ≡ if_taken (read_rules (read text) (length legs) (length latest) (length service) (length route) (length result)) (put_read (λ q. q.route) (read text) route) route
  pub result_is : result' ≡ if_taken (read_rules (read text) (length legs) (length latest) (length service) (length route) (length result)) (put_read numbers_of (read text) result) result
  pub writes_back : answer ≡ 0 → text_of (handed legs' latest' service' route' result') ≡ text
  pub taken : answer ≡ 0 → Taken (handed legs' latest' service' route' result')

-- ---- what the parts ask and give

-- How many bytes the text has, of a problem within the bounds.
abbrev pub SizeTold : Question → Rust.Option ℕ → Type 0
SizeTold q Rust.None = (text_bounds q).1 ≡ true
SizeTold q (Rust.Some n) = ((text_bounds q).1 ≡ false) × (n ≡ length (text_of q))

pub record Accepted (q : Question) : Type 0 where
  pub number : refusal (question_rules q) ≡ 0
