-- The walk over the registered sites ends with all of them, and they are few.
use Rattle.std.proofs.Common.{◌≡◌, ◌≤◌, Option, Some, None, List, [], length, ap, ◌∙◌, arith}
use Rattle.std.specs.Prelude.{IfSome}
use Rattle.aq_base.specs.Site.{Site}
use Rattle.aq_base.specs.declared.limits.TheConstants.{MOST_SITES}
use Rattle.aq_base.specs.declared.office.OfficeRecord.{OfficeRecord}
use Rattle.aq_registry.specs.Registry.{office_with}
use Rattle.aq_rules.specs.Office.Office.{IsOffice, sites_of}
use Rattle.aq_rules.specs.Office.Questions.{next_site}
use Rattle.aq_rules.specs.Shown.OtherSheets.{rising_sites}
use Rattle.aq_series.proofs.SiteWalk.{few-rising, sites-all, sites-end, sites-none, sites_above}

-- the records are an office's once a site was found
abbrev pub AreChecked : List OfficeRecord → Option Site → Type 0
AreChecked records after = IfSome after (λ _. IsOffice (office_with records))

pub none_left : (records : List OfficeRecord) (after : Option Site) → AreChecked records after → next_site records after ≡ None → sites_above records after ≡ []
none_left records None valid none = sites-all records ∙ ap rising_sites (sites-none records none)
none_left records (Some site) valid none = sites-end records (Some site) valid.keys_rise.records none

pub few_in_all : (records : List OfficeRecord) (after : Option Site) → AreChecked records after → next_site records after ≡ None → length (rising_sites (sites_of records)) ≤ MOST_SITES
few_in_all records None valid none = let no_site = ap (λ (l : List Site). length (rising_sites l)) (sites-none records none) in omega (arith, no_site)
few_in_all records (Some site) valid none = omega (arith, few-rising (sites_of records), valid.few_sites)
