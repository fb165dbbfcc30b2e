-- Lemmas, no definition: the tests of sameness hold of equal things alone.
use Rattle.std.proofs.Common.{◌≡◌, ℕ, true, ◌&&◌, refl}
use Rattle.std.specs.Prelude.{◌==◌}
use Rattle.std.proofs.lemmas.Bool.{and_parts, eqb-true, eq-eqb}
use Rattle.aq_base.specs.Site.{Site}
use Rattle.aq_base.specs.declared.monitor.Pollutant.{Pollutant}
use Rattle.aq_base.specs.declared.monitor.Pollutant.TheVariants.{Ozone, Pm25, Pm10}
use Rattle.aq_base.specs.declared.monitor.MonitorId.{MonitorId}
use Rattle.aq_base.specs.declared.observation.ObsKey.{ObsKey}
use Rattle.aq_rules.specs.Office.Monitors.{is_same_site, is_same_pollutant, is_same_monitor, is_same_key}

pub same_site : (a b : Site) → is_same_site a b ≡ true → a ≡ b
same_site a b h =
    let whole = and_parts ((a.state == b.state) && (a.county == b.county)) (a.number == b.number) h in
    let first = and_parts (a.state == b.state) (a.county == b.county) whole.0 in
    let state = eqb-true a.state b.state first.0 in
    let county = eqb-true a.county b.county first.1 in
    let number = eqb-true a.number b.number whole.1 in
    λ i. record { state = state i; county = county i; number = number i }

pub same_pollutant : (a b : Pollutant) → is_same_pollutant a b ≡ true → a ≡ b
same_pollutant Ozone Ozone h = refl
same_pollutant Ozone Pm25 h = cc
same_pollutant Ozone Pm10 h = cc
same_pollutant Pm25 Ozone h = cc
same_pollutant Pm25 Pm25 h = refl
same_pollutant Pm25 Pm10 h = cc
same_pollutant Pm10 Ozone h = cc
same_pollutant Pm10 Pm25 h = cc
same_pollutant Pm10 Pm10 h = refl

pub same_monitor : (a b : MonitorId) → is_same_monitor a b ≡ true → a ≡ b
same_monitor a b h =
    let whole = and_parts (is_same_site a.site b.site && is_same_pollutant a.pollutant b.pollutant) (a.poc == b.poc) h in
    let first = and_parts (is_same_site a.site b.site) (is_same_pollutant a.pollutant b.pollutant) whole.0 in
    let site = same_site a.site b.site first.0 in
    let pollutant = same_pollutant a.pollutant b.pollutant first.1 in
    let poc = eqb-true a.poc b.poc whole.1 in
    λ i. record { site = site i; pollutant = pollutant i; poc = poc i }

pub same_key : (a b : ObsKey) → is_same_key a b ≡ true → a ≡ b
same_key a b h =
    let parts = and_parts (is_same_monitor a.monitor b.monitor) (a.hour == b.hour) h in
    let monitor = same_monitor a.monitor b.monitor parts.0 in
    let hour = eqb-true a.hour b.hour parts.1 in
    λ i. record { monitor = monitor i; hour = hour i }

pub number_itself : (n : ℕ) → (n == n) ≡ true
number_itself n = eq-eqb n n refl

pub site_itself : (site : Site) → is_same_site site site ≡ true
site_itself site = rw (number_itself site.state, number_itself site.county, number_itself site.number) refl

pub pollutant_itself : (pollutant : Pollutant) → is_same_pollutant pollutant pollutant ≡ true
pollutant_itself Ozone = refl
pollutant_itself Pm25 = refl
pollutant_itself Pm10 = refl

pub key_itself : (key : ObsKey) → is_same_key key key ≡ true
key_itself key = rw (site_itself key.monitor.site, pollutant_itself key.monitor.pollutant, number_itself key.monitor.poc, number_itself key.hour) refl
