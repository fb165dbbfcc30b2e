-- The day in which an observation lies, and the last one that was read.
use Rattle.std.proofs.Common.{◌≡◌, ℕ, ◌/◌, true, false, ◌&&◌, sym, subst, ◌∙◌, arith}
use Rattle.std.specs.Prelude.{◌==◌, Option, Some, None, IfSome}
use Rattle.std.proofs.lemmas.Bool.{and_parts, false≢true}
use Rattle.std.proofs.lemmas.Bool.Decides.{nat_tests}
use Rattle.aq_base.specs.Site.{Site}
use Rattle.aq_base.specs.declared.monitor.Pollutant.{Pollutant}
use Rattle.aq_base.specs.declared.observation.ObsKey.{ObsKey}
use Rattle.aq_rules.specs.Office.Monitors.{is_same_pollutant, is_same_site}
use Rattle.aq_rules.specs.Office.Sameness.{same_site}
use Rattle.aq_particle_cells.specs.Days.Observed.{is_last, lies_on}
use Rattle.aq_particle_cells.specs.declared.days.observed.SiteDay.{SiteDay}

-- one of another pollutant lies on no day
pub lies-nowhere : (pollutant : Pollutant) (key : ObsKey) (site : Site) (day : ℕ) → is_same_pollutant key.monitor.pollutant pollutant ≡ false → lies_on pollutant site day key ≡ true → ⊥
lies-nowhere pollutant key site day other lies = false≢true (sym (λ i. other i && is_same_site key.monitor.site site && (key.hour / 24 == day)) ∙ lies)

-- the site and the day of one that lies on a day
pub lies-there : (pollutant : Pollutant) (key : ObsKey) (at : ℕ) → key.hour / 24 ≡ at → (site : Site) (day : ℕ) → lies_on pollutant site day key ≡ true → (key.monitor.site ≡ site) × (at ≡ day)
lies-there pollutant key at is site day lies =
    let parts = and_parts (is_same_pollutant key.monitor.pollutant pollutant && is_same_site key.monitor.site site) (key.hour / 24 == day) lies in
    let both = and_parts (is_same_pollutant key.monitor.pollutant pollutant) (is_same_site key.monitor.site site) parts.0 in
    let here : at ≡ day = grind (arith, nat_tests, is, parts.1) in
    (same_site key.monitor.site site both.1, here)

pub lies-shown : (P : Site → ℕ → Type 0) (pollutant : Pollutant) (key : ObsKey) (at : ℕ) → key.hour / 24 ≡ at → P key.monitor.site at
    → (site : Site) (day : ℕ) → lies_on pollutant site day key ≡ true → P site day
lies-shown P pollutant key at is of site day lies =
    let there = lies-there pollutant key at is site day lies in
    subst (λ (s : Site). P s day) there.0 (subst (P key.monitor.site) there.1 of)

-- what holds of the last day that was read
pub last-shown : (P : Site → ℕ → Type 0) (last : Option SiteDay) (site : Site) (day : ℕ) → IfSome last (λ (l : SiteDay). P l.site l.day) → is_last last site day ≡ true → P site day
last-shown P None site day of is = absurd (false≢true is)
last-shown P (Some last) site day of is =
    let both = and_parts (is_same_site last.site site) (last.day == day) is in
    let here : last.day ≡ day = grind (arith, nat_tests, both.1) in
    subst (λ (s : Site). P s day) (same_site last.site site both.0) (subst (P last.site) here of)
