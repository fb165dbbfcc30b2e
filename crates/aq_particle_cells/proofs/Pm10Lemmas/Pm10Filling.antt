-- PM10 days and strata that are filled one after another from the rows of an office.
use Rattle.std.proofs.Common.{◌≡◌, ℕ, zero, suc, ◌+◌, ◌/◌, ◌≤◌, Bool, true, false, cond, ◌&&◌, [], ◌∷◌, refl, ap, sym, subst, ◌∙◌, arith, ◌⊎◌, inl, inr}
use Rattle.std.specs.Prelude.{◌==◌, Option, Some, None, filter, filter_map, option_and_then}
use Rattle.std.specs.List.{cons_option, list_any, range_with_len}
use Rattle.std.specs.Option.{option_map_or}
use Rattle.std.proofs.lemmas.Bool.{false≢true}
use Rattle.std.proofs.lemmas.Bool.Decides.{nat_tests}
use Rattle.aq_base.specs.Calendar.{days_in_quarter, quarter_first, quarter_of}
use Rattle.aq_base.specs.Site.{Site}
use Rattle.aq_base.specs.declared.day.TheConstants.{LAST_DAY}
use Rattle.aq_base.specs.declared.monitor.Pollutant.TheVariants.{Pm10}
use Rattle.aq_base.specs.declared.observation.ObsKey.{ObsKey}
use Rattle.aq_rules.specs.Office.Monitors.{is_same_site}
use Rattle.aq_rules.specs.Office.Office.{Office}
use Rattle.aq_rules.specs.Office.Schedule.{is_scheduled}
use Rattle.aq_rules.specs.Ozone.SiteHour.{Cell}
use Rattle.aq_rules.specs.Particles.ParticleDay.{net_day, site_day, unless_excluded}
use Rattle.aq_rules.specs.Particles.QuarterCounts.{days_of_quarter}
use Rattle.aq_rules.specs.Particles.Strata.{stratum_by}
use Rattle.aq_particle_cells.specs.Days.KeptDays.{cell_at, sample_at}
use Rattle.aq_particle_cells.specs.Days.Observed.{lies_on, observes}
use Rattle.aq_particle_cells.specs.Pm10.Pm10Cells.{scheduled_sample, stratum_from, Pm10Kept}
use Rattle.aq_particle_cells.specs.Pm10.Pm10Levels.{office_stratum, AreFilling, AreKept, AreStrataFilling, AreValuesOf, CountsAs, HasStratumOf, HasValueOf, StrataStay, ValuesStay}
use Rattle.aq_particle_cells.specs.Pm10.Strata.{is_in_stratum, stratum_at, stratum_of_samples}
use Rattle.aq_particle_cells.proofs.DaysLemmas.ObservedLemmas.{lies-there}
use Rattle.aq_particle_cells.proofs.Pm10Lemmas.Pm10Settled.{counts-stay, sample-same, stratum-here, stratum-stays, value-stays}
use Rattle.aq_particle_cells.proofs.DaysLemmas.TimeLemmas.{named}
use Rattle.aq_particle_cells.proofs.DaysLemmas.Unobserved.{unobserved}

-- ---- days

module _ (office : Office) (before after : Pm10Kept) (site : Site) (day : ℕ) (new : Option Cell)
    (cells : (other : Site) (number : ℕ) → cell_at after.days other number ≡ cond (is_same_site site other && (day == number)) new (cell_at before.days other number))
    (samples : (other : Site) (number : ℕ) → sample_at after.days other number ≡ cond (is_same_site site other && (day == number)) (scheduled_sample office.records after.days site day) (sample_at before.days other number))
    (value : new ≡ site_day office site Pm10 day) where
  pub values-stay : ValuesStay office before after
  unfolding ValuesStay
  values-stay = value-stays office before after site day new cells samples value

  pub filling-after : AreFilling office before → AreFilling office after
  unfolding AreFilling
  filling-after each other number = record {
    value = by (is_same_site site other && (day == number)) refl (each other number).value;
    counts = counts-stay office before after site day new cells samples other number (each other number).counts;
  }
    where
      by : (b : Bool) → (is_same_site site other && (day == number)) ≡ b → HasValueOf office before other number ⊎ (cell_at before.days other number ≡ None) → HasValueOf office after other number ⊎ (cell_at after.days other number ≡ None)
      by true both was = let same = named site other day number both in inl (cells other number ∙ ap (λ b. cond b new (cell_at before.days other number)) both ∙ value ∙ (λ i. site_day office (same.0 i) Pm10 (same.1 i)))
      by false off (inl was) = inl (cells other number ∙ ap (λ b. cond b new (cell_at before.days other number)) off ∙ was)
      by false off (inr none) = inr (cells other number ∙ ap (λ b. cond b new (cell_at before.days other number)) off ∙ none)

pub stay-itself : (office : Office) (kept : Pm10Kept) → ValuesStay office kept kept
unfolding ValuesStay
stay-itself office kept site day was = was

pub stay-at : (office : Office) (before after : Pm10Kept) → ValuesStay office before after → (site : Site) (day : ℕ) → HasValueOf office before site day → HasValueOf office after site day
unfolding ValuesStay
stay-at office before after stay = stay

-- nothing counts where nothing is kept
pub none-filling : (office : Office) (kept : Pm10Kept) → ((site : Site) (day : ℕ) → cell_at kept.days site day ≡ None) → ((site : Site) (day : ℕ) → sample_at kept.days site day ≡ None) → AreFilling office kept
unfolding AreFilling scheduled_sample
none-filling office kept cells samples site day = record {
  value = inr (cells site day);
  counts = samples site day ∙ sym (by (is_scheduled office.records site Pm10 day));
}
  where
    by : (b : Bool) → cond b (cell_at kept.days site day) None ≡ None
    by true = cells site day
    by false = refl

pub values-filled : (office : Office) (kept : Pm10Kept) → AreFilling office kept → ((site : Site) (day : ℕ) → list_any (observes Pm10 site day) office.observations ≡ true → HasValueOf office kept site day) → (site : Site) → AreValuesOf office kept site
unfolding AreFilling AreValuesOf
values-filled office kept each observed site day = by (list_any (observes Pm10 site day) office.observations) refl (each site day).value
  where
    by : (b : Bool) → list_any (observes Pm10 site day) office.observations ≡ b → HasValueOf office kept site day ⊎ (cell_at kept.days site day ≡ None) → HasValueOf office kept site day
    by true is was = observed site day is
    by false is (inl was) = was
    by false is (inr none) = none ∙ sym (unobserved office site Pm10 day is)

pub counts-filled : (office : Office) (kept : Pm10Kept) → AreFilling office kept → (site : Site) (day : ℕ) → CountsAs office kept site day
unfolding AreFilling
counts-filled office kept each site day = (each site day).counts

-- ---- strata

module _ (office : Office) (before after : Pm10Kept) (site : Site) (first : ℕ)
    (strata : (other : Site) (number : ℕ) → stratum_at after.strata other number ≡ cond (is_same_site site other && (first == number)) (stratum_from office.records before.days site first) (stratum_at before.strata other number))
    (cells : (other : Site) (day : ℕ) → cell_at after.days other day ≡ cell_at before.days other day)
    (samples : (other : Site) (day : ℕ) → sample_at after.days other day ≡ sample_at before.days other day)
    (filling : AreStrataFilling office before) where
  pub strata-stay : StrataStay office before after
  unfolding StrataStay
  strata-stay = stratum-stays office before after site first strata cells samples (filling.values site)

  pub strata-here : HasStratumOf office after site first
  strata-here = stratum-here office before after site first strata cells samples (filling.values site)

  pub strata-filling : AreStrataFilling office after
  unfolding AreValuesOf
  strata-filling = record {
    values = λ other day. cells other day ∙ filling.values other day;
    strata = λ other number within. by other number (is_same_site site other && (first == number)) refl (filling.strata other number within);
  }
    where
      by : (other : Site) (number : ℕ) (b : Bool) → (is_same_site site other && (first == number)) ≡ b → HasStratumOf office before other number ⊎ (stratum_at before.strata other number ≡ None)
          → HasStratumOf office after other number ⊎ (stratum_at after.strata other number ≡ None)
      by other number true both was = let same = named site other first number both in inl (subst (λ (s : Site). HasStratumOf office after s number) same.0 (subst (HasStratumOf office after site) same.1 strata-here))
      by other number false off (inl was) = inl (stratum-stays office before after site first strata cells samples (filling.values site) other number was)
      by other number false off (inr none) = inr (strata other number ∙ ap (λ b. cond b (stratum_from office.records before.days site first) (stratum_at before.strata other number)) off ∙ none)

pub strata-itself : (office : Office) (kept : Pm10Kept) → StrataStay office kept kept
unfolding StrataStay
strata-itself office kept site first was = was

pub strata-at : (office : Office) (before after : Pm10Kept) → StrataStay office before after → (site : Site) (first : ℕ) → HasStratumOf office before site first → HasStratumOf office after site first
unfolding StrataStay
strata-at office before after stay = stay

-- the stratum of the day in which an observation lies
pub lies-stratum : (office : Office) (kept : Pm10Kept) (key : ObsKey) (at : ℕ) (start : ℕ) → key.hour / 24 ≡ at → stratum_by office.records key.monitor.site at ≡ Some start → HasStratumOf office kept key.monitor.site start
    → (site : Site) (day first : ℕ) → lies_on Pm10 site day key ≡ true → stratum_by office.records site day ≡ Some first → HasStratumOf office kept site first
lies-stratum office kept key at start is found of site day first lies held =
    let there = lies-there Pm10 key at is site day lies in
    let same : stratum_by office.records key.monitor.site at ≡ stratum_by office.records site day = λ i. stratum_by office.records (there.0 i) (there.1 i) in
    let starts : start ≡ first = cc in
    subst (λ (s : Site). HasStratumOf office kept s first) there.0 (subst (HasStratumOf office kept key.monitor.site) starts of)

-- ---- the strata that no observation lies in

-- if each observed day of a stratum shows it to be the office's, it is, or it has no sample
module _ (office : Office) (kept : Pm10Kept) (site : Site) (first : ℕ)
    (shown : (day : ℕ) → list_any (observes Pm10 site day) office.observations ≡ true → stratum_by office.records site day ≡ Some first → HasStratumOf office kept site first) where
  held : (o : Option ℕ) → option_map_or (λ s. s == first) o false ≡ true → o ≡ Some first
  held None is = absurd (false≢true is)
  held (Some s) is = let e : s ≡ first = grind (arith, nat_tests, is) in ap (λ k. Some k) e

  no-sample : (a n : ℕ) → HasStratumOf office kept site first ⊎ (filter_map (net_day office site Pm10) (filter (is_in_stratum office.records site first) (range_with_len a n)) ≡ [])
  no-sample a zero = inr refl
  no-sample a (suc n) = by (is_in_stratum office.records site first a) (list_any (observes Pm10 site a) office.observations) refl refl (no-sample (a + 1) n)
    where
      by : (b o : Bool) → is_in_stratum office.records site first a ≡ b → list_any (observes Pm10 site a) office.observations ≡ o
          → HasStratumOf office kept site first ⊎ (filter_map (net_day office site Pm10) (filter (is_in_stratum office.records site first) (range_with_len (a + 1) n)) ≡ [])
          → HasStratumOf office kept site first ⊎ (filter_map (net_day office site Pm10) (cond b (a ∷ filter (is_in_stratum office.records site first) (range_with_len (a + 1) n)) (filter (is_in_stratum office.records site first) (range_with_len (a + 1) n))) ≡ [])
      by b o is any (inl of) = inl of
      by false o is any (inr none) = inr none
      by true true is any (inr none) = inl (shown a any (held (stratum_by office.records site a) is))
      by true false is any (inr none) =
          let value = unobserved office site Pm10 a any in
          inr (λ i. cons_option (option_and_then unless_excluded (value i)) (none i))

  pub stratum-filled : HasStratumOf office kept site first ⊎ (stratum_at kept.strata site first ≡ None) → HasStratumOf office kept site first
  unfolding office_stratum days_of_quarter
  stratum-filled (inl of) = of
  stratum-filled (inr nothing) = elim (no-sample (quarter_first (quarter_of first)) (days_in_quarter (quarter_of first))) [
    | inl of ↦ of
    | inr none ↦ nothing ∙ sym (ap stratum_of_samples none)
  ]

-- ---- all that is kept

pub all-filled : (office : Office) (before after : Pm10Kept) → ((site : Site) → AreValuesOf office before site) → ((site : Site) (day : ℕ) → CountsAs office before site day)
    → ((site : Site) (first : ℕ) → first ≤ LAST_DAY → HasStratumOf office after site first)
    → ((site : Site) (day : ℕ) → cell_at after.days site day ≡ cell_at before.days site day) → ((site : Site) (day : ℕ) → sample_at after.days site day ≡ sample_at before.days site day)
    → AreKept office after
unfolding AreKept AreValuesOf
all-filled office before after values counts strata cells samples site day = record {
  value = cells site day ∙ values site day;
  counts = λ within. samples site day ∙ counts site day ∙ sample-same office.records before after site day (sym (cells site day));
  stratum = strata site day;
}
