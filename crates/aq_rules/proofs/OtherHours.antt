-- A site hour reads no observation of another site, pollutant or hour.
use Rattle.std.proofs.Common.{◌≡◌, ℕ, Bool, true, false, cond, List, [], ◌∷◌, refl, sym, ap, ◌∙◌}
use Rattle.std.specs.List.{filter, filter_map, cons_option, find}
use Rattle.std.specs.Prelude.{Option, None}
use Rattle.aq_base.specs.Calendar.{day_of_hour}
use Rattle.aq_base.specs.Site.{Site}
use Rattle.aq_base.specs.declared.monitor.Pollutant.TheVariants.{Ozone}
use Rattle.aq_base.specs.declared.observation.ObsKey.{ObsKey}
use Rattle.aq_base.specs.declared.observation.Observation.{Observation}
use Rattle.aq_base.specs.declared.office.OfficeRecord.{OfficeRecord}
use Rattle.aq_rules.specs.Office.Office.{Office}
use Rattle.aq_rules.specs.Office.Designation.{primary_on}
use Rattle.aq_rules.proofs.AnyOrder.{hour_by}
use Rattle.aq_rules.specs.Ozone.SiteHour.{Sample, is_ozone_at, sample_of, is_of_poc, chosen, site_hour}

one_more : {X Y : Type 0} (test : X → Bool) (h : X → Option Y) (x : X) (xs : List X) → (test x ≡ false → h x ≡ None)
    → filter_map h xs ≡ filter_map h (filter test xs)
    → (b : Bool) → test x ≡ b → cons_option (h x) (filter_map h xs) ≡ filter_map h (cond b (x ∷ filter test xs) (filter test xs))
one_more test h x xs none rest true passes = ap (cons_option (h x)) rest
one_more test h x xs none rest false fails = rw (none fails) rest

-- what is passed over does not count
passed_over : {X Y : Type 0} (test : X → Bool) (h : X → Option Y) (xs : List X) → ((x : X) → test x ≡ false → h x ≡ None)
    → filter_map h xs ≡ filter_map h (filter test xs)
passed_over test h [] none = refl
passed_over test h (x ∷ xs) none = one_more test h x xs (none x) (passed_over test h xs none) (test x) refl

no_sample : (office : Office) (site : Site) (hour : ℕ) (entry : ObsKey × Observation) → is_ozone_at site hour entry.0 ≡ false → sample_of office site hour entry ≡ None
no_sample office site hour entry other = rw other refl

its_own : (records : List OfficeRecord) (entries : List (ObsKey × Observation)) (site : Site) (hour : ℕ)
    → hour_by records entries site hour ≡ hour_by records (filter (λ (e : ObsKey × Observation). is_ozone_at site hour e.0) entries) site hour
its_own records entries site hour =
    ap (λ (samples : List Sample). chosen (find (is_of_poc (primary_on records site Ozone (day_of_hour hour))) samples) samples)
    (passed_over (λ (e : ObsKey × Observation). is_ozone_at site hour e.0) (sample_of (record { records = records; observations = []; loads = [] }) site hour) entries
    (no_sample (record { records = records; observations = []; loads = [] }) site hour))

pub site_hour-own : (a b : Office) (site : Site) (hour : ℕ) → a.records ≡ b.records
    → filter (λ (e : ObsKey × Observation). is_ozone_at site hour e.0) a.observations ≡ filter (λ (e : ObsKey × Observation). is_ozone_at site hour e.0) b.observations
    → site_hour a site hour ≡ site_hour b site hour
unfolding site_hour
site_hour-own a b site hour records same =
    let first : hour_by a.records a.observations site hour ≡ hour_by a.records (filter (λ (e : ObsKey × Observation). is_ozone_at site hour e.0) a.observations) site hour =
    its_own a.records a.observations site hour
    in
    let second : hour_by b.records b.observations site hour ≡ hour_by b.records (filter (λ (e : ObsKey × Observation). is_ozone_at site hour e.0) b.observations) site hour =
    its_own b.records b.observations site hour
    in
    let middle : hour_by a.records (filter (λ (e : ObsKey × Observation). is_ozone_at site hour e.0) a.observations) site hour ≡ hour_by b.records (filter (λ (e : ObsKey × Observation). is_ozone_at site hour e.0) b.observations) site hour =
    λ i. hour_by (records i) (same i) site hour
    in
    first ∙ middle ∙ sym second
