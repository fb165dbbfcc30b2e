-- Lemmas, no definition: the places of a list of sites.
use Rattle.std.proofs.Common.{◌≡◌, ℕ, ◌+◌, ◌<◌, ◌≤◌, true, false, not, List, [], ◌∷◌, ◌++◌, length, take, set, refl, sym, ◌∙◌, arith}
use Rattle.std.proofs.lemmas.List.{get_or-take, get_or-set_other}
use Rattle.std.proofs.lemmas.List.Folds.{list_any-append}
use Rattle.std.proofs.lemmas.Bool.Decides.{nat_tests}
use Rattle.std.proofs.Math.Bool.{or-false, and-true}
use Rattle.aq_base.specs.Site.{Site}
use Rattle.aq_base.specs.declared.area.SiteList.TheInside.{Inside}
use Rattle.aq_base.specs.Padded.{length-held, take-push, Holds-push}
use Rattle.aq_base.specs.Places.{both, neither}
use Rattle.aq_base.specs.Sites.{HoldsSites, site_places, first_site, all_sites_distinct, has_site, are_same_sites}

-- the list that is held gives the places and the count back
pub site_places-take : (places : List Site) (count : ℕ) → HoldsSites places count
    → (let inside : Inside = record { places = site_places (take count places); count = length (take count places) } in inside) ≡ record { places = places; count = count }
site_places-take places count holds =
    let first : first_site (take count places) ≡ first_site places = get_or-take count places 0 _ holds.some in
    let same : site_places (take count places) ≡ places = rw first (sym holds.held.rest) in
    let many : length (take count places) ≡ count = length-held 32 (first_site places) places count holds.held in
    cc

same-comm : (a b : Site) → are_same_sites a b ≡ are_same_sites b a
same-comm a b = grind (arith, nat_tests)

-- a site that is not there keeps the sites distinct
pub distinct-push : (sites : List Site) (site : Site) → all_sites_distinct sites ≡ true → has_site site sites ≡ false → all_sites_distinct (sites ++ site ∷ []) ≡ true
distinct-push [] site distinct absent = refl
distinct-push (first ∷ sites) site distinct absent =
    let parts = both (not (has_site first sites)) (all_sites_distinct sites) distinct in
    let apart = neither (are_same_sites first site) (has_site site sites) absent in
    let rest : all_sites_distinct (sites ++ site ∷ []) ≡ true = distinct-push sites site parts.1 apart.1 in
    let other : are_same_sites site first ≡ false = same-comm site first ∙ apart.0 in
    rw (list_any-append (λ o. are_same_sites o first) sites (site ∷ []), other, rest, or-false) (rw and-true parts.0)

pub HoldsSites-push : (places : List Site) (count : ℕ) (site : Site) → HoldsSites places count → has_site site (take count places) ≡ false → count < 32 → HoldsSites (set places count site) (count + 1)
HoldsSites-push places count site holds absent room =
    let some : 1 ≤ count = holds.some in
    let first : first_site (set places count site) ≡ first_site places = get_or-set_other places count 0 site _ (omega arith) in
    let now = take-push 32 (first_site places) places count site holds.held room in
    let distinct : all_sites_distinct (take count places) ≡ true = holds.distinct in
    record {
      some = omega arith;
      held = rw first (Holds-push 32 (first_site places) places count site holds.held room);
      distinct = rw now (distinct-push (take count places) site distinct absent);
    }
