use Rattle.std.proofs.Common.{◌≡◌, Bool, true, false, ◌&&◌, ◌==◌, refl, ◌∙◌}
use Rattle.std.specs.Bool.{beq}
use Rattle.aq_base.specs.Site.{Site}
use Rattle.aq_base.specs.Quals.{is_same_code}
use Rattle.aq_base.specs.declared.monitor.Pollutant.{Pollutant}
use Rattle.aq_base.specs.declared.monitor.Pollutant.TheVariants.{Ozone, Pm25, Pm10}
use Rattle.aq_base.specs.declared.monitor.Duration.{Duration}
use Rattle.aq_base.specs.declared.monitor.Duration.TheVariants.{Hour, Day}
use Rattle.aq_base.specs.declared.monitor.MonitorId.{MonitorId}
use Rattle.aq_base.specs.declared.office.OfficeRecord.{OfficeRecord}
use Rattle.aq_base.specs.declared.office.OfficeRecord.TheVariants.{Monitor, Primary, Schedule, Season, Makeup, Event, Concurrence, Approved, Combined}
use Rattle.aq_base.specs.contracts.site.SiteIdPartialEq.TheImpl as sites
use Rattle.aq_base.specs.contracts.monitor.PollutantPartialEq.TheImpl as pollutants
use Rattle.aq_base.specs.contracts.monitor.DurationPartialEq.TheImpl as durations
use Rattle.aq_base.specs.contracts.monitor.MonitorIdPartialEq.TheImpl as monitors
use Rattle.aq_base.specs.contracts.office.OfficeRecordPartialEq.TheImpl.{eq-value}
use Rattle.aq_rules.specs.Office.Monitors.{is_same_site, is_same_pollutant, is_same_monitor}
use Rattle.aq_rules.specs.Office.Load.{is_same_duration, is_same_record}
use Rattle.aq_staging.proofs.change.is_same_record.Goals as goal

-- the derived equality tests the fields from the last to the first
three : (a b c : Bool) → (a && (b && c)) ≡ ((a && b) && c)
three true b c = refl
three false b c = refl

four : (a b c d : Bool) → (a && (b && (c && d))) ≡ (((a && b) && c) && d)
four true b c d = three b c d
four false b c d = refl

five : (a b c d e : Bool) → (a && (b && (c && (d && e)))) ≡ ((((a && b) && c) && d) && e)
five true b c d e = four b c d e
five false b c d e = refl

six : (a b c d e f : Bool) → (a && (b && (c && (d && (e && f))))) ≡ (((((a && b) && c) && d) && e) && f)
six true b c d e f = five b c d e f
six false b c d e f = refl

site_same : (a b : Site) → sites.eq-value.it a b ≡ is_same_site a b
site_same a b = three (a.state == b.state) (a.county == b.county) (a.number == b.number)

pollutant_same : (p q : Pollutant) → pollutants.eq-value.it p q ≡ is_same_pollutant p q
pollutant_same Ozone Ozone = refl
pollutant_same Ozone Pm25 = refl
pollutant_same Ozone Pm10 = refl
pollutant_same Pm25 Ozone = refl
pollutant_same Pm25 Pm25 = refl
pollutant_same Pm25 Pm10 = refl
pollutant_same Pm10 Ozone = refl
pollutant_same Pm10 Pm25 = refl
pollutant_same Pm10 Pm10 = refl

duration_same : (d e : Duration) → durations.eq-value.it d e ≡ is_same_duration d e
duration_same Hour Hour = refl
duration_same Hour Day = refl
duration_same Day Hour = refl
duration_same Day Day = refl

monitor_same : (a b : MonitorId) → monitors.eq-value.it a b ≡ is_same_monitor a b
monitor_same a b =
    (λ i. site_same a.site b.site i && (pollutant_same a.pollutant b.pollutant i && (a.poc == b.poc)))
    ∙ three (is_same_site a.site b.site) (is_same_pollutant a.pollutant b.pollutant) (a.poc == b.poc)

same : (a b : OfficeRecord) → eq-value.it a b ≡ is_same_record a b
same (Monitor id duration eligible) (Monitor id2 duration2 eligible2) =
    (λ i. monitor_same id id2 i && (duration_same duration duration2 i && beq eligible eligible2))
    ∙ three (is_same_monitor id id2) (is_same_duration duration duration2) (beq eligible eligible2)
same (Primary site pollutant from poc) (Primary site2 pollutant2 from2 poc2) =
    (λ i. site_same site site2 i && (pollutant_same pollutant pollutant2 i && ((from == from2) && (poc == poc2))))
    ∙ four (is_same_site site site2) (is_same_pollutant pollutant pollutant2) (from == from2) (poc == poc2)
same (Schedule site pollutant from interval anchor) (Schedule site2 pollutant2 from2 interval2 anchor2) =
    (λ i. site_same site site2 i && (pollutant_same pollutant pollutant2 i && ((from == from2) && ((interval == interval2) && (anchor == anchor2)))))
    ∙ five (is_same_site site site2) (is_same_pollutant pollutant pollutant2) (from == from2) (interval == interval2) (anchor == anchor2)
same (Season site year first last) (Season site2 year2 first2 last2) =
    (λ i. site_same site site2 i && ((year == year2) && ((first == first2) && (last == last2))))
    ∙ four (is_same_site site site2) (year == year2) (first == first2) (last == last2)
same (Makeup site missed makeup) (Makeup site2 missed2 makeup2) =
    (λ i. site_same site site2 i && ((missed == missed2) && (makeup == makeup2)))
    ∙ three (is_same_site site site2) (missed == missed2) (makeup == makeup2)
same (Event number site pollutant first last code) (Event number2 site2 pollutant2 first2 last2 code2) =
    (λ i. (number == number2) && (site_same site site2 i && (pollutant_same pollutant pollutant2 i && ((first == first2) && ((last == last2) && is_same_code code code2)))))
    ∙ six (number == number2) (is_same_site site site2) (is_same_pollutant pollutant pollutant2) (first == first2) (last == last2) (is_same_code code code2)
same (Concurrence number agreed) (Concurrence number2 agreed2) = refl
same (Approved site day) (Approved site2 day2) = λ i. site_same site site2 i && (day == day2)
same (Combined site pollutant from joined) (Combined site2 pollutant2 from2 joined2) =
    (λ i. site_same site site2 i && (pollutant_same pollutant pollutant2 i && ((from == from2) && site_same joined joined2 i)))
    ∙ four (is_same_site site site2) (is_same_pollutant pollutant pollutant2) (from == from2) (is_same_site joined joined2)
same a b = refl

pub returns : goal.returns
returns c = c.eq.ensures ∙ same c.args.a.now c.args.b.now
