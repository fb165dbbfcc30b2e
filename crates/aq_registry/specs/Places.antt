-- The places of records in the order of rows: which is first, and which lie together.
use Rattle.std.specs.Prelude.{◌≡◌, ℕ, ◌+◌, Bool, false, not, ◌&&◌, ◌==◌, nat_le, nat_lt, Option, Some, None, List, map}
use Rattle.std.specs.declared.ops.Bound.{Bound}
use Rattle.std.specs.declared.ops.Bound.TheVariants.{Excluded, Unbounded}
use Rattle.std.specs.declared.cmp.Ordering.{Ordering}
use Rattle.std.specs.Ordering.{nat_cmp, ordering_then, is_le, is_gt}
use Rattle.aq_base.specs.Site.{Site}
use Rattle.aq_base.specs.declared.office.OfficeRecord.{OfficeRecord}
use Rattle.aq_base.specs.declared.office.OfficeKey.{OfficeKey}
use Rattle.aq_base.specs.declared.office.OfficeKey.TheVariants.{Monitor, Primary, Schedule, Season, Makeup, Event, Concurrence, Approved, Combined}
use Rattle.aq_rules.specs.Office.Office.{key_of, parameter_number}
use Rattle.aq_registry.specs.declared.place.Place.{Place}

-- a place of a kind that goes by site: one without a parameter has 0 for it
abbrev pub of_site : ℕ → Site → ℕ → ℕ → Place
of_site kind site parameter part = record {
  kind = kind;
  state = site.state;
  county = site.county;
  number = site.number;
  parameter = parameter;
  part = part;
}

-- a place of a kind that goes by event number
abbrev pub of_event : ℕ → ℕ → Place
of_event kind number = record { kind = kind; state = 0; county = 0; number = 0; parameter = 0; part = number }

-- the first place of a kind
abbrev pub of_kind : ℕ → Place
of_kind kind = of_event kind 0

-- the first place of a kind after all those of a site
abbrev pub behind_site : ℕ → Site → Place
behind_site kind site = record {
  kind = kind;
  state = site.state;
  county = site.county;
  number = site.number + 1;
  parameter = 0;
  part = 0;
}

-- the first place after all monitors of a site, or the first of all monitors
abbrev pub behind_sites : Option Site → Place
behind_sites None = of_kind 1
behind_sites (Some site) = behind_site 1 site

-- where the record of a key stands
abbrev pub place_of : OfficeKey → Place
place_of (Monitor id) = of_site 1 id.site (parameter_number id.pollutant) id.poc
place_of (Primary site pollutant from) = of_site 2 site (parameter_number pollutant) from
place_of (Schedule site pollutant from) = of_site 3 site (parameter_number pollutant) from
place_of (Season site year) = of_site 4 site 0 year
place_of (Makeup site missed) = of_site 5 site 0 missed
place_of (Event number) = of_event 6 number
place_of (Concurrence number) = of_event 7 number
place_of (Approved site day) = of_site 8 site 0 day
place_of (Combined site pollutant) = of_site 9 site (parameter_number pollutant) 0

-- by kind, site, parameter, and POC, day, year or number
abbrev pub place_cmp : Place → Place → Ordering
place_cmp a b =
    ordering_then (nat_cmp a.kind b.kind)
    (ordering_then (nat_cmp a.state b.state)
    (ordering_then (nat_cmp a.county b.county)
    (ordering_then (nat_cmp a.number b.number)
    (ordering_then (nat_cmp a.parameter b.parameter) (nat_cmp a.part b.part)))))

-- the places after that of a key, or all
abbrev pub behind : Option OfficeKey → Bound Place
behind None = Unbounded
behind (Some key) = Excluded (place_of key)

-- the end does not come before the first
abbrev pub IsSpan : Place → Place → Type 0
IsSpan first end = is_gt (place_cmp first end) ≡ false

-- whether a record stands from the first place on, and before the end
abbrev pub lies_between : Place → Place → OfficeRecord → Bool
lies_between first end r = is_le (place_cmp first (place_of (key_of r))) && not (is_le (place_cmp end (place_of (key_of r))))

-- ---- records that lie together

-- whether a record is of the kind, site and parameter
abbrev pub is_of : ℕ → Site → ℕ → OfficeRecord → Bool
is_of kind site parameter r =
    let place = place_of (key_of r) in
    (place.kind == kind) && (place.state == site.state) && (place.county == site.county) && (place.number == site.number)
    && (place.parameter == parameter)

-- and its POC, day, year or number is this one or a later one
abbrev pub is_of_from : ℕ → Site → ℕ → ℕ → OfficeRecord → Bool
is_of_from kind site parameter from r = is_of kind site parameter r && nat_le from (place_of (key_of r)).part

-- and before the end
abbrev pub is_of_between : ℕ → Site → ℕ → ℕ → ℕ → OfficeRecord → Bool
is_of_between kind site parameter from end r = is_of_from kind site parameter from r && nat_lt (place_of (key_of r)).part end

-- whether a record is of the kind and site
abbrev pub is_of_site : ℕ → Site → OfficeRecord → Bool
is_of_site kind site r =
    let place = place_of (key_of r) in
    (place.kind == kind) && (place.state == site.state) && (place.county == site.county) && (place.number == site.number)

-- the places of records
abbrev pub places_of : List OfficeRecord → List Place
places_of records = map (λ r. place_of (key_of r)) records
