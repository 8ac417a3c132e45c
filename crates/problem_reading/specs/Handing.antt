-- A judged problem handed over into lent lists: what the parts ask and give.
use Rattle.std.specs.Prelude.{◌≡◌, List, ℕ, ◌≤◌, length}
use Rattle.theory.specs.Question.{Question, question}
use Rattle.theory.specs.Refusals.{refusal, if_taken}
use Rattle.text_question.specs.declared.Header.{Header}
use Rattle.problem_calls.specs.Problems.{numbers_of, list_rooms, put_before}

-- A header with tables and stops.
abbrev pub headed : Header → (legs latest service stops : List ℕ) → Question
headed h legs latest service stops = question h.k h.allowance h.locations legs latest service h.depot h.end stops

pub record HandedOver (q : Question) (legs latest service route result : List ℕ) (answer : ℕ) (legs' latest' service' route' result' : List ℕ) : Type 0 where
  pub number_is : answer ≡ refusal (list_rooms q (length legs) (length latest) (length service) (length route) (length result))
  pub legs_are : legs' ≡ if_taken (list_rooms q (length legs) (length latest) (length service) (length route) (length result)) (put_before q.trip.tables.legs legs) legs
  pub latest_are : latest' ≡ if_taken (list_rooms q (length legs) (length latest) (length service) (length route) (length result)) (put_before q.trip.tables.latest latest) latest
  pub service_are : service' ≡ if_taken (list_rooms q (length legs) (length latest) (length service) (length route) (length result)) (put_before q.trip.tables.service service) service
  pub route_is : route' ≡ if_taken (list_rooms q (length legs) (length latest) (length service) (length route) (length result)) (put_before q.route route) route
  pub result_is : result' ≡ if_taken (list_rooms q (length legs) (length latest) (length service) (length route) (length result)) (put_before (numbers_of q) result) result

-- Each list has room.
pub record Roomy (legs latest service stops to_legs to_latest to_service to_route : List ℕ) : Type 0 where
  pub legs_fit : length legs ≤ length to_legs
  pub latest_fit : length latest ≤ length to_latest
  pub service_fit : length service ≤ length to_service
  pub stops_fit : length stops ≤ length to_route

pub record Copied (legs latest service stops to_legs to_latest to_service to_route legs' latest' service' route' : List ℕ) : Type 0 where
  pub legs_are : legs' ≡ put_before legs to_legs
  pub latest_are : latest' ≡ put_before latest to_latest
  pub service_are : service' ≡ put_before service to_service
  pub route_is : route' ≡ put_before stops to_route
