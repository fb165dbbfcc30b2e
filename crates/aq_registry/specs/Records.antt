-- Records by their places, and as one list.
use Rattle.std.specs.Prelude.{◌≡◌, List}
use Rattle.std.specs.List.{AllByRecursion}
use Rattle.std.specs.List.Sorted.{IsStrictlySortedBy}
use Rattle.std.specs.Map.{keys_of}
use Rattle.aq_base.specs.declared.office.OfficeRecord.{OfficeRecord}
use Rattle.aq_rules.specs.Office.Office.{key_of}
use Rattle.aq_registry.specs.declared.place.Place.{Place}
use Rattle.aq_registry.specs.Places.{place_of, place_cmp}

-- each record stands at the place of its key
abbrev pub ArePlaced : List (Place × OfficeRecord) → Type 0
ArePlaced entries = AllByRecursion (λ e. e.0 ≡ place_of (key_of e.1)) entries

-- what holds of the entries of every map of records
pub record AreEntries (entries : List (Place × OfficeRecord)) : Type 0 where
  pub rising : IsStrictlySortedBy place_cmp (keys_of entries)
  pub placed : ArePlaced entries
