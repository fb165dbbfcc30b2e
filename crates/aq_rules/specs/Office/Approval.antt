-- Ozone days that count as valid by the Regional Administrator's approval (40 CFR Part 50, Appendix U, 4(c)). The record of it is (own).
use Rattle.std.specs.Prelude.{ℕ, Bool, false, ◌&&◌, ◌==◌, List}
use Rattle.std.specs.List.{list_any}
use Rattle.aq_base.specs.Site.{Site}
use Rattle.aq_base.specs.declared.office.OfficeRecord.{OfficeRecord}
use Rattle.aq_base.specs.declared.office.OfficeRecord.TheVariants.{Approved}
use Rattle.aq_rules.specs.Office.Monitors.{is_same_site}

abbrev pub approves : Site → ℕ → OfficeRecord → Bool
approves site day (Approved other_site other_day) = is_same_site other_site site && (other_day == day)
approves site day _ = false

unfoldable pub is_approved : List OfficeRecord → Site → ℕ → Bool
is_approved records site day = list_any (approves site day) records
