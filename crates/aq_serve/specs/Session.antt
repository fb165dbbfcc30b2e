-- The session over a connection's bytes: the requests, one after the other, and the replies to them (RFC 9112, sections 9.2 and 9.3; the limit of 1,000 requests is (own)).
use Rattle.std.specs.Prelude.{⊤, ◌≡◌, ℕ, ◌+◌, ◌<◌, ◌==◌, ◌||◌, Bool, true, false, List, [], ◌∷◌, ◌++◌, length, take, drop, flat_map, count_by}
use Rattle.aq_rules.specs.Office.Office.{Office}
use Rattle.aq_http.specs.Step.{IsStep, Step, More, Refuse, Request, Whole}
use Rattle.aq_serve.specs.Answered.{Answered, answered, refused, reply_of}
use Rattle.aq_serve.specs.declared.limits.TheConstants.{MOST_REQUESTS}

-- one request, and what became of it: the bytes of the reply and its status, the office after it, how many bytes the request had, and whether the connection ends after the reply
pub record Turn : Type 0 where
  pub reply : List ℕ
  pub status : ℕ
  pub office : Office
  pub used : ℕ
  pub closes : Bool

abbrev pub turn_of : ℕ → Bool → Answered → Turn
turn_of used closes answer = record {
  reply = reply_of answer closes;
  status = answer.status;
  office = answer.office;
  used = used;
  closes = closes;
}

-- whether the connection ends after this reply, so many having been served on it before
abbrev pub ends_behind : ℕ → Request → Bool
ends_behind served request = request.close || (served + 1 == MOST_REQUESTS)

-- a refused head ends the connection, and changes nothing; a whole request is answered over the office, and if the keeper fails the load is not taken
abbrev pub IsReplyTo : Step → ℕ → Office → Turn → Type 0
IsReplyTo More served office turn = ⊥
IsReplyTo (Refuse status) served office turn = turn ≡ turn_of 0 true (refused status office)
IsReplyTo (Whole request) served office turn =
    (fails : Bool)
    × (turn ≡ turn_of request.used (ends_behind served request) (answered office request.verb request.target request.body fails))

-- the turn of the first request of these bytes
pub record IsTurn (served : ℕ) (office : Office) (input : List ℕ) (turn : Turn) : Type 0 where
  pub step : Step
  pub stands : IsStep input step
  pub replies : IsReplyTo step served office turn

-- after a turn that closes there is no other
abbrev pub GoesOn : Bool → List Turn → Type 0 → Type 0
GoesOn true turns behind = turns ≡ []
GoesOn false turns behind = behind

-- each turn is that of the next request, over the office that the turn before it left; what is after the last turn, if it does not close, ends the session so
abbrev pub AreTurns : (List ℕ → Type 0) → ℕ → Office → List ℕ → List Turn → Type 0
AreTurns EndsAt served office input [] = EndsAt input
AreTurns EndsAt served office input (turn ∷ turns) =
    IsTurn served office input turn
    × GoesOn turn.closes turns (AreTurns EndsAt (served + 1) turn.office (drop turn.used input) turns)

-- all requests are served: more bytes are wanted after them, or the last reply closes
abbrev pub IsSession : Office → List ℕ → List Turn → Type 0
IsSession office input turns = AreTurns (λ rest. IsStep rest More) 0 office input turns

-- the first of the requests are served
abbrev pub IsFront : Office → List ℕ → List Turn → Type 0
IsFront office input turns = AreTurns (λ rest. ⊤) 0 office input turns

abbrev pub replies : List Turn → List ℕ
replies turns = flat_map (λ (turn : Turn). turn.reply) turns

-- the office after the turns
abbrev pub office_behind : Office → List Turn → Office
office_behind office [] = office
office_behind office (turn ∷ turns) = office_behind turn.office turns

-- how often the keeper failed to take a load
abbrev pub failed_commits : List Turn → ℕ
failed_commits turns = count_by (λ (turn : Turn). turn.status == 503) turns

-- what was sent is the replies of all turns but the last, and of the last a part
pub record IsCut (sent : List ℕ) (turns : List Turn) : Type 0 where
  pub done : List Turn
  pub last : Turn
  pub count : ℕ
  pub are : turns ≡ done ++ last ∷ []
  pub short : count < length last.reply
  pub is : sent ≡ replies done ++ take count last.reply
