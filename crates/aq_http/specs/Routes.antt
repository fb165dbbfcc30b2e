-- The routes of the server, and what a request's verb and target ask by them (own).
use Rattle.std.specs.Prelude.{ℕ, zero, suc, ◌==◌, Bool, true, false, if◌then◌else◌, List, [], ◌∷◌, map, drop, codes, bytes_eq, Option, Some, None, option_map, Result, Ok, Err, IsTrue, ◌≡◌, ◌⊎◌}
use Rattle.std.specs.List.{before_first, after_first, starts_with}
use Rattle.std.specs.Option.{ok_or}
use Rattle.std.specs.Str.{is_utf8}
use Rattle.matchit.specs.Order.{placed}
use Rattle.matchit.specs.Route.{Scan, parse_route}
use Rattle.matchit.specs.Router.{RouteOf, nearest, route_from}
use Rattle.matchit.specs.Rows.{RowsOf}
use Rattle.matchit.specs.Seek.{first, slash}
use Rattle.aq_base.specs.declared.question.Question.{Question}
use Rattle.aq_base.specs.declared.question.Topic.{Topic}
use Rattle.aq_base.specs.declared.question.Topic.TheVariants.{Export, Lines, Records, Reply}
use Rattle.aq_rules.specs.Limits.{LAST_LOAD_NUMBER}
use Rattle.aq_rules.specs.Questions.Asking.{asked_in_path, is_asked, is_load_number}
use Rattle.aq_rules.specs.Questions.Spelling.{number_to}
use Rattle.aq_rules.specs.Questions.Table.{Step, Word, Hole, all_topics, pattern_of, row_of, topic_of}
use Rattle.aq_http.specs.declared.routes.Found.{Found}
use Rattle.aq_http.specs.declared.routes.Found.TheVariants.{Ask as Asks, Load, Page, Status, NotAllowed}
use Rattle.aq_http.specs.declared.verb.Verb.{Verb}
use Rattle.aq_http.specs.declared.verb.Verb.TheVariants.{Get, Post, Other}

-- ---- which route a path takes, by `matchit`

-- the path of each question: each takes GET, and that of a load's reply POST too
abbrev pub routes : List (List ℕ × Topic)
routes = map (λ topic. (pattern_of topic, topic)) all_topics

-- a router with one route more
abbrev pub with_read : {E : Type 0} → Result Scan E → Topic → RowsOf (RouteOf Topic) → RowsOf (RouteOf Topic)
with_read (Err e) route rows = rows
with_read (Ok scan) route rows = placed (scan.pattern, route_from scan route) rows

unfoldable pub with_routes : RowsOf (RouteOf Topic) → List (List ℕ × Topic) → RowsOf (RouteOf Topic)
with_routes rows [] = rows
with_routes rows (entry ∷ entries) = with_routes (with_read (parse_route entry.0) entry.1 rows) entries

-- routes that read, and of which none conflicts with one that stands before it
abbrev pub IsApart : {E : Type 0} → Result Scan E → RowsOf (RouteOf Topic) → Type 0
IsApart (Err e) rows = ⊥
IsApart (Ok scan) rows = nearest scan.pattern rows ≡ None

unfoldable pub AreApart : RowsOf (RouteOf Topic) → List (List ℕ × Topic) → Type 0
AreApart rows [] = Unit {0}
AreApart rows (entry ∷ entries) = IsApart (parse_route entry.0) rows × AreApart (with_read (parse_route entry.0) entry.1 rows) entries

abbrev pub all_routes : RowsOf (RouteOf Topic)
all_routes = with_routes [] routes

-- a path that is no text in UTF-8 takes none
abbrev pub route_of : List ℕ → Option Topic
route_of path = if is_utf8 path then option_map (λ row. row.value) (first all_routes path) else None

-- ---- what is asked

abbrev pub is_question_mark : ℕ → Bool
is_question_mark byte = byte == 63

abbrev pub is_slash : ℕ → Bool
is_slash byte = byte == slash

-- a target up to its first `?`
abbrev pub path_of : List ℕ → List ℕ
path_of target = before_first is_question_mark target

-- the part after so many slashes, up to the next: nothing is percent-decoded
abbrev pub part : ℕ → List ℕ → List ℕ
part zero path = before_first is_slash path
part (suc n) path = part n (after_first is_slash path)

-- what stands in a path in place of the parts of its question, whose first step is behind so many slashes
abbrev pub texts_from : ℕ → List Step → List ℕ → List (List ℕ)
texts_from slashes [] path = []
texts_from slashes (Word text ∷ steps) path = texts_from (suc slashes) steps path
texts_from slashes (Hole named ∷ steps) path = part slashes path ∷ texts_from (suc slashes) steps path

unfoldable pub texts_in : Topic → List ℕ → List (List ℕ)
texts_in topic path = texts_from 1 (row_of topic).path path

unfoldable pub load_number : List ℕ → Result ℕ ℕ
load_number text = ok_or (number_to LAST_LOAD_NUMBER text) 400

-- ---- which page is asked for

-- the path of the question whose page a path asks for: the page of the sites stands at `/`, and every other at `/page` and the path of its question
unfoldable pub page_path : List ℕ → Option (List ℕ)
page_path path =
    if bytes_eq path (codes "/") then Some (codes "/sites")
    else (if starts_with (λ a b. a == b) path (codes "/page/") then Some (drop 5 path) else None)

-- the observations to export, the records and the lines have no page
abbrev pub has_page : Topic → Bool
has_page Export = false
has_page Records = false
has_page Lines = false
has_page _ = true

-- a page takes GET alone
abbrev pub page_at : Verb → Topic → List ℕ → Result Question ℕ
page_at Get topic path = asked_in_path topic (texts_in topic path)
page_at Post topic path = Err 405
page_at Other topic path = Err 405

-- a question without a page is not found, whatever the verb and its parts are
abbrev pub page_on : Verb → Option Topic → List ℕ → Result Question ℕ
page_on verb None path = Err 404
page_on verb (Some topic) path = if has_page topic then page_at verb topic path else Err 404

-- ---- what is found

abbrev pub takes_post : Topic → Bool
takes_post Reply = true
takes_post _ = false

abbrev pub found_ask : Result Question ℕ → Found
found_ask (Ok question) = Asks question
found_ask (Err status) = Status status

abbrev pub found_load : Result ℕ ℕ → Found
found_load (Ok number) = Load number
found_load (Err status) = Status status

abbrev pub found_at : Verb → Topic → List ℕ → Found
found_at Get topic path = found_ask (asked_in_path topic (texts_in topic path))
found_at Post topic path = if takes_post topic then found_load (load_number (part 2 path)) else NotAllowed false
found_at Other topic path = NotAllowed (takes_post topic)

abbrev pub found_on : Verb → Option Topic → List ℕ → Found
found_on verb None path = Status 404
found_on verb (Some topic) path = found_at verb topic path

-- what a path asks: the page of the path behind it, if it asks for one, and else what stands at its own route
abbrev pub found_or_page : Verb → List ℕ → Option (List ℕ) → Found
found_or_page verb path None = found_on verb (route_of path) path
found_or_page verb path (Some page) = Page (page_on verb (route_of page) page)

-- what a request asks: 404 if no route matches, 405 if the route has another method, 400 if a part is not spelled as it should be, and 404 for a standard or a parameter that there is none of
unfoldable pub found : Verb → List ℕ → Found
found verb target = found_or_page verb (path_of target) (page_path (path_of target))

abbrev pub IsFoundStatus : ℕ → Type 0
IsFoundStatus status = (status ≡ 400) ⊎ (status ≡ 404)

-- the statuses with which a page is refused
abbrev pub IsPageStatus : ℕ → Type 0
IsPageStatus status = (status ≡ 400) ⊎ (status ≡ 404) ⊎ (status ≡ 405)

-- the question of a page is in its range, and has a page
abbrev pub IsPage : Result Question ℕ → Type 0
IsPage (Ok question) = IsTrue (is_asked question) × IsTrue (has_page (topic_of question))
IsPage (Err status) = IsPageStatus status

-- a question that is asked is in its range
abbrev pub IsFound : Found → Type 0
IsFound (Asks question) = IsTrue (is_asked question)
IsFound (Load number) = IsTrue (is_load_number number)
IsFound (Page page) = IsPage page
IsFound (Status status) = IsFoundStatus status
IsFound (NotAllowed post) = Unit {0}
