-- A list of 1 to 32 sites, none twice, in the order in which they are given.
use Rattle.std.specs.Prelude.{ℕ, ◌≤◌, Bool, true, not, ◌&&◌, ◌==◌, nat_lt, if◌then◌else◌, IsTrue, List, [], ◌∷◌, ◌++◌, length, take, get_or}
use Rattle.std.specs.List.{list_any}
use Rattle.aq_base.specs.Padded.{Holds, padded_to}
use Rattle.aq_base.specs.Site.{Site}
use Rattle.aq_base.specs.declared.area.TheConstants.{MOST_AREA_SITES}

abbrev pub are_same_sites : Site → Site → Bool
are_same_sites a b = (a.state == b.state) && (a.county == b.county) && (a.number == b.number)

abbrev pub has_site : Site → List Site → Bool
has_site site sites = list_any (λ other. are_same_sites other site) sites

abbrev pub all_sites_distinct : List Site → Bool
all_sites_distinct [] = true
all_sites_distinct (site ∷ sites) = not (has_site site sites) && all_sites_distinct sites

-- whether a site can be added: it is not there, and fewer than 32 are
abbrev pub is_further_site : List Site → Site → Bool
is_further_site sites site = not (has_site site sites) && nat_lt (length sites) MOST_AREA_SITES

-- the sites with one more at the end, or as they are if it cannot be added
abbrev pub with_further_site : List Site → Site → List Site
with_further_site sites site = if is_further_site sites site then sites ++ site ∷ [] else sites

-- ---- the places of the sites

-- the first site fills the places after the last one
abbrev pub first_site : List Site → Site
first_site sites = get_or sites 0 (record { state = 0; county = 0; number = 0 })

abbrev pub site_places : List Site → List Site
site_places sites = padded_to MOST_AREA_SITES (first_site sites) sites

pub record HoldsSites (places : List Site) (count : ℕ) : Type 0 where
  pub some : 1 ≤ count
  pub held : Holds MOST_AREA_SITES (first_site places) places count
  pub distinct : IsTrue (all_sites_distinct (take count places))
