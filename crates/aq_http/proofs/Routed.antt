-- Routes that a router takes, and what it finds.
use Rattle.std.proofs.Common.{◌≡◌, ℕ, zero, suc, Bool, true, false, cond, List, [], ◌∷◌, refl, sym, ap, ◌∙◌, arith, Option, Some, None}
use Rattle.std.specs.Str.{IsAscii, IsUtf8, is_utf8}
use Rattle.std.proofs.lemmas.Str.{IsUtf8-from_ascii, IsUtf8-from_is_utf8, is_utf8-from_IsUtf8}
use Rattle.matchit.specs.Router.{RouteOf}
use Rattle.aq_base.specs.declared.question.Topic.{Topic}
use Rattle.std.specs.Prelude.{nat_lt, option_map}
use Rattle.std.specs.List.{list_all}
use Rattle.std.proofs.lemmas.Bool.{and_parts}
use Rattle.std.proofs.lemmas.Bool.Decides.{nat_tests}
use Rattle.matchit.specs.Seek.{first}
use Rattle.aq_http.specs.declared.routes.Found.TheVariants.{Page}
use Rattle.aq_http.specs.declared.verb.Verb.{Verb}
use Rattle.aq_http.specs.Routes.{all_routes, found, found_on, found_or_page, page_on, page_path, path_of, route_of}
use Rattle.aq_http.proofs.Walking.{walk, walks}

-- a text that is no UTF-8
pub no_text : (path : List ℕ) → ¬ (IsUtf8 path) → is_utf8 path ≡ false
no_text path none = by_test (is_utf8 path) refl
  where
    by_test : (t : Bool) → is_utf8 path ≡ t → is_utf8 path ≡ false
    by_test true is = absurd (none (IsUtf8-from_is_utf8 path is))
    by_test false is = is

abbrev routed : Bool → Option (RouteOf Topic) → Option Topic
routed t row = cond t (option_map (λ r. r.value) row) None

pub no_text_no_route : (path : List ℕ) → ¬ (IsUtf8 path) → None ≡ route_of path
no_text_no_route path none = sym (ap (λ t. routed t (first all_routes path)) (no_text path none))

pub text_routed : (path : List ℕ) (row : Option (RouteOf Topic)) → IsUtf8 path → first all_routes path ≡ row → option_map (λ r. r.value) row ≡ route_of path
text_routed path row text is =
    sym (ap (λ t. routed t (first all_routes path)) (is_utf8-from_IsUtf8 path text) ∙ ap (routed true) is)

-- ---- targets of ASCII

ascii : (bytes : List ℕ) → list_all (λ b. nat_lt b 128) bytes ≡ true → IsAscii bytes
ascii [] h i = omega arith
ascii (b ∷ bytes) h zero = let small = (and_parts (nat_lt b 128) (list_all (λ c. nat_lt c 128) bytes) h).0 in grind (arith, nat_tests, small)
ascii (b ∷ bytes) h (suc i) = ascii bytes (and_parts (nat_lt b 128) (list_all (λ c. nat_lt c 128) bytes) h).1 i

-- the route that the walk finds, for a path whose rows run out long before its end
route_walked : (path : List ℕ) (route : Option Topic) → list_all (λ b. nat_lt b 128) path ≡ true
    → option_map (λ r. r.value) (walk 0 all_routes path) ≡ route → route_of path ≡ route
route_walked path route plain is =
    ap (λ t. routed t (first all_routes path)) (is_utf8-from_IsUtf8 path (IsUtf8-from_ascii path (ascii path plain)))
    ∙ ap (λ row. option_map (λ r. r.value) row) (walks 0 all_routes path) ∙ is

-- what is found at a path that no page has
pub found_walked : (verb : Verb) (target : List ℕ) (route : Option Topic) → page_path (path_of target) ≡ None
    → list_all (λ b. nat_lt b 128) (path_of target) ≡ true
    → option_map (λ r. r.value) (walk 0 all_routes (path_of target)) ≡ route → found verb target ≡ found_on verb route (path_of target)
unfolding found
found_walked verb target route no_page plain is =
    let path = path_of target in
    ap (λ page. found_or_page verb path page) no_page ∙ ap (λ r. found_on verb r path) (route_walked path route plain is)

-- the page whose question stands at this path
pub page_walked : (verb : Verb) (target : List ℕ) (path : List ℕ) (route : Option Topic) → page_path (path_of target) ≡ Some path
    → list_all (λ b. nat_lt b 128) path ≡ true
    → option_map (λ r. r.value) (walk 0 all_routes path) ≡ route → found verb target ≡ Page (page_on verb route path)
unfolding found
page_walked verb target path route is_page plain is =
    ap (λ page. found_or_page verb (path_of target) page) is_page ∙ ap (λ r. Page (page_on verb r path)) (route_walked path route plain is)
