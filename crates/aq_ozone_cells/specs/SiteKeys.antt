-- What is kept of sites, by the numbers of a site and of a day or a year of it.
use Rattle.std.specs.Ordering.{nat_cmp, ordering_then}
use Rattle.std.specs.declared.cmp.Ordering.{Ordering}
use Rattle.std.specs.Prelude.{ℕ}
use Rattle.aq_base.specs.Site.{Site}
use Rattle.aq_ozone_cells.specs.declared.site_key.SiteKey.{SiteKey}

abbrev pub site_key : Site → ℕ → SiteKey
site_key site number = record { state = site.state; county = site.county; site = site.number; number = number }

-- their order
abbrev pub key_cmp : SiteKey → SiteKey → Ordering
key_cmp a b =
    ordering_then (nat_cmp a.state b.state) (ordering_then (nat_cmp a.county b.county)
    (ordering_then (nat_cmp a.site b.site) (nat_cmp a.number b.number)))
