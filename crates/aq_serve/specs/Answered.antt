-- What a whole request is answered with over an office: the status and body of the reply, and the office after it (own).
use Rattle.std.specs.Prelude.{ℕ, ◌==◌, Bool, true, false, if◌then◌else◌, List, [], codes, Result, Ok, Err}
use Rattle.sha2.specs.Sha256.{sha256}
use Rattle.aq_rules.specs.Office.Office.{Office}
use Rattle.aq_rules.specs.Office.Load.{Posted, TooManyLines, Repeated, Differing, NoRoom, Taken, posted}
use Rattle.aq_base.specs.declared.question.Question.{Question}
use Rattle.aq_base.specs.declared.question.Topic.{Topic}
use Rattle.aq_base.specs.declared.question.Topic.TheVariants.{Export}
use Rattle.aq_rules.specs.Questions.Answer.{Answer, OfSheets, OfText, Lacks, answer, json_of_sheets}
use Rattle.aq_rules.specs.Questions.Table.{topic_of}
use Rattle.aq_rules.specs.Shown.Json.{json_of}
use Rattle.aq_rules.specs.Shown.OtherSheets.{conflict_sheet, error_sheet}
use Rattle.aq_rules.specs.Shown.Sheet.{Sheet}
use Rattle.aq_rules.specs.Shown.Sheets.{load_sheet}
use Rattle.aq_browser.specs.Pages.{answer_page, lack_words, missing_page, refusal_page}
use Rattle.aq_browser.specs.Standing.{context_beside, context_of}
use Rattle.aq_http.specs.Reply.{reply_text}
use Rattle.aq_http.specs.Routes.{found}
use Rattle.aq_http.specs.declared.media.MediaType.{MediaType}
use Rattle.aq_http.specs.declared.media.MediaType.TheVariants.{Json, Csv, Plain, Html}
use Rattle.aq_http.specs.declared.routes.Found.{Found}
use Rattle.aq_http.specs.declared.routes.Found.TheVariants as asks
use Rattle.aq_http.specs.declared.verb.Verb.{Verb}

pub record Answered : Type 0 where
  pub status : ℕ
  -- what the body is written in
  pub media : MediaType
  -- the methods that a 405 allows
  pub allow : List ℕ
  pub body : List ℕ
  pub office : Office

-- what the body of a reply names that is not 200 or 409
abbrev pub error_name : ℕ → List ℕ
error_name status =
    if status == 400 then codes "BadRequest"
    else (if status == 403 then codes "Forbidden"
    else (if status == 404 then codes "NotFound"
    else (if status == 405 then codes "MethodNotAllowed"
    else (if status == 411 then codes "LengthRequired"
    else (if status == 413 then codes "TooLarge"
    else (if status == 431 then codes "HeadTooLarge"
    else (if status == 501 then codes "NotImplemented"
    else (if status == 503 then codes "KeeperFailed"
    else codes "LoadsFull"))))))))

unfoldable pub error_body : ℕ → List ℕ
error_body status = json_of (error_sheet (error_name status))

-- an error, which changes nothing
abbrev pub refused : ℕ → Office → Answered
refused status office = record { status = status; media = Json; allow = []; body = error_body status; office = office }

abbrev pub not_allowed : List ℕ → Office → Answered
not_allowed allow office = record { status = 405; media = Json; allow = allow; body = error_body 405; office = office }

-- a sheet, with a status and the office after it
abbrev pub shown : ℕ → Sheet → Office → Answered
shown status sheet office = record { status = status; media = Json; allow = []; body = json_of sheet; office = office }

-- what the text of an answer is written in
abbrev pub text_media : Topic → MediaType
text_media Export = Csv
text_media _ = Plain

-- a question: its sheets as JSON, or its text; what is missing is not found
abbrev pub to_question : Office → Topic → Answer → Answered
to_question office topic (OfSheets sheets) = record { status = 200; media = Json; allow = []; body = json_of_sheets sheets; office = office }
to_question office topic (OfText text) = record { status = 200; media = text_media topic; allow = []; body = text; office = office }
to_question office topic (Lacks what) = refused 404 office

-- the method that a 405 of a page allows
abbrev pub page_methods : ℕ → List ℕ
page_methods status = if status == 405 then codes "GET" else []

-- a page, with a status
abbrev pub shown_page : ℕ → List ℕ → Office → Answered
shown_page status page office = record { status = status; media = Html; allow = page_methods status; body = page; office = office }

-- the page of an error
abbrev pub refused_page : ℕ → Office → Answered
refused_page status office = shown_page status (refusal_page (context_beside office) status) office

-- the page of a question: its sheets, or what is missing; a text has no page
abbrev pub to_page : Office → Question → Answer → Answered
to_page office question (OfSheets sheets) = shown_page 200 (answer_page (context_of office question) question sheets) office
to_page office question (OfText text) = refused_page 404 office
to_page office question (Lacks what) = shown_page 404 (missing_page (context_of office question) question (lack_words what)) office

-- the page that is asked for, or that of the status with which it is refused
abbrev pub to_asked_page : Office → Result Question ℕ → Answered
to_asked_page office (Ok question) = to_page office question (answer office question)
to_asked_page office (Err status) = refused_page status office

-- a load with this number. If it would be taken and the keeper fails, nothing changes.
abbrev pub to_load : ℕ → Office → Bool → Posted → Answered
to_load number office fails TooManyLines = refused 413 office
to_load number office fails (Repeated kept) = shown 200 (load_sheet kept) office
to_load number office fails (Differing kept sent) = shown 409 (conflict_sheet number kept sent) office
to_load number office fails NoRoom = refused 507 office
to_load number office true (Taken reply now) = refused 503 office
to_load number office false (Taken reply now) = shown 200 (load_sheet reply) now

-- the digest of a load is the SHA-256 of its body as it was sent (FIPS 180-4)
abbrev pub to_found : Office → Found → List ℕ → Bool → Answered
to_found office (asks.Ask question) body fails = to_question office (topic_of question) (answer office question)
to_found office (asks.Load number) body fails = to_load number office fails (posted office number (sha256 body) body)
to_found office (asks.Page asked) body fails = to_asked_page office asked
to_found office (asks.Status status) body fails = refused status office
to_found office (asks.NotAllowed true) body fails = not_allowed (codes "GET, POST") office
to_found office (asks.NotAllowed false) body fails = not_allowed (codes "GET") office

-- a request with this verb, target and body; `fails` says whether the keeper fails if it is to take a load
unfoldable pub answered : Office → Verb → List ℕ → List ℕ → Bool → Answered
answered office verb target body fails = to_found office (found verb target) body fails

-- the bytes of the reply
abbrev pub reply_of : Answered → Bool → List ℕ
reply_of answer close =
    reply_text (record { status = answer.status; media = answer.media; allow = answer.allow; close = close; body = answer.body })
