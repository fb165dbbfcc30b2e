-- PM2.5 days that are filled one after another from the rows of an office.
use Rattle.std.proofs.Common.{◌≡◌, ℕ, Bool, true, false, cond, ◌&&◌, List, refl, ap, sym, ◌∙◌, ◌⊎◌, inl, inr}
use Rattle.std.specs.Prelude.{◌==◌, Option, Some, None, option_and_then}
use Rattle.std.specs.List.{list_any}
use Rattle.std.specs.Option.{option_or}
use Rattle.aq_base.specs.Site.{Site}
use Rattle.aq_base.specs.declared.monitor.Pollutant.TheVariants.{Pm25}
use Rattle.aq_base.specs.declared.office.OfficeRecord.{OfficeRecord}
use Rattle.aq_rules.specs.Office.Monitors.{is_same_site}
use Rattle.aq_rules.specs.Office.Office.{IsOffice, Office}
use Rattle.aq_rules.specs.Office.Questions.{makeup_of}
use Rattle.aq_rules.specs.Office.Schedule.{is_scheduled}
use Rattle.aq_rules.specs.Ozone.SiteHour.{Cell}
use Rattle.aq_rules.specs.Particles.ParticleDay.{site_day}
use Rattle.aq_registry.specs.Registry.{office_with}
use Rattle.aq_particles.specs.Pm25.QuarterDays.{is_makeup_day}
use Rattle.aq_particle_cells.specs.Days.KeptDays.{cell_at, sample_at, Days}
use Rattle.aq_particle_cells.specs.Days.Observed.{observes}
use Rattle.aq_particle_cells.specs.Pm25.Pm25Cells.{credited_by, is_counted_by, sample_from}
use Rattle.aq_particle_cells.specs.Pm25.Pm25Levels.{AreFilling, AreKept, HasValueOf, ValuesStay}
use Rattle.aq_particle_cells.proofs.Pm25Lemmas.Pm25Settled.{counts-so, value-stays}
use Rattle.aq_particle_cells.proofs.DaysLemmas.TimeLemmas.{named}
use Rattle.aq_particle_cells.proofs.DaysLemmas.Unobserved.{unobserved}

module _ (office : Office) (valid : IsOffice (office_with office.records)) (before after : Days) (site : Site) (day : ℕ) (new : Option Cell)
    (cells : (other : Site) (number : ℕ) → cell_at after other number ≡ cond (is_same_site site other && (day == number)) new (cell_at before other number))
    (samples : (other : Site) (number : ℕ) → sample_at after other number ≡ cond (is_same_site site other && is_counted_by office.records site day number) (sample_from office.records after site number) (sample_at before other number))
    (value : new ≡ site_day office site Pm25 day) where
  pub values-stay : ValuesStay office before after
  unfolding ValuesStay
  values-stay = value-stays office.records valid before after site day new cells samples office refl value

  pub filling-after : AreFilling office before → AreFilling office after
  unfolding AreFilling
  filling-after each other number = record {
    value = by (is_same_site site other && (day == number)) refl (each other number).value;
    counts = counts-so office.records valid before after site day new cells samples office refl value other number (each other number).counts;
  }
    where
      by : (b : Bool) → (is_same_site site other && (day == number)) ≡ b → HasValueOf office before other number ⊎ (cell_at before other number ≡ None) → HasValueOf office after other number ⊎ (cell_at after other number ≡ None)
      by true both was = let same = named site other day number both in inl (cells other number ∙ ap (λ b. cond b new (cell_at before other number)) both ∙ value ∙ (λ i. site_day office (same.0 i) Pm25 (same.1 i)))
      by false off (inl was) = inl (cells other number ∙ ap (λ b. cond b new (cell_at before other number)) off ∙ was)
      by false off (inr none) = inr (cells other number ∙ ap (λ b. cond b new (cell_at before other number)) off ∙ none)

pub stay-itself : (office : Office) (days : Days) → ValuesStay office days days
unfolding ValuesStay
stay-itself office days site day was = was

pub stay-at : (office : Office) (before after : Days) → ValuesStay office before after → (site : Site) (day : ℕ) → HasValueOf office before site day → HasValueOf office after site day
unfolding ValuesStay
stay-at office before after stay = stay

-- ---- all days

-- without a value there is no creditable sample
no-credit : (records : List OfficeRecord) (site : Site) (cell : ℕ → Option Cell) → ((day : ℕ) → cell day ≡ None) → (day : ℕ) → credited_by records site cell day ≡ None
no-credit records site cell none day =
    (λ i. cond (is_scheduled records site Pm25 day) (option_or (none day i) (option_and_then (λ makeup. cond (is_makeup_day (is_scheduled records site Pm25) day makeup) (none makeup i) None) (makeup_of records site day))) None)
    ∙ by (is_scheduled records site Pm25 day) (makeup_of records site day)
  where
    either : (b : Bool) → ◌≡◌ {A = Option Cell} (cond b None None) None
    either true = refl
    either false = refl

    by : (s : Bool) (found : Option ℕ) → ◌≡◌ {A = Option Cell} (cond s (option_or None (option_and_then (λ makeup. cond (is_makeup_day (is_scheduled records site Pm25) day makeup) None None) found)) None) None
    by false found = refl
    by true None = refl
    by true (Some makeup) = either (is_makeup_day (is_scheduled records site Pm25) day makeup)

-- nothing counts where nothing is kept
pub none-filling : (office : Office) (days : Days) → ((site : Site) (day : ℕ) → cell_at days site day ≡ None) → ((site : Site) (day : ℕ) → sample_at days site day ≡ None) → AreFilling office days
unfolding AreFilling sample_from
none-filling office days cells samples site day = record {
  value = inr (cells site day);
  counts = samples site day ∙ sym (nothing office.records site day);
}
  where
    nothing : (records : List OfficeRecord) (site : Site) (day : ℕ) → sample_from records days site day ≡ None
    nothing records site day = no-credit records site (cell_at days site) (cells site) day

pub all-filled : (office : Office) (days : Days) → AreFilling office days → ((site : Site) (day : ℕ) → list_any (observes Pm25 site day) office.observations ≡ true → HasValueOf office days site day) → AreKept office days
unfolding AreFilling AreKept
all-filled office days each observed site day = record {
  value = by (list_any (observes Pm25 site day) office.observations) refl (each site day).value;
  counts = λ within. (each site day).counts;
}
  where
    by : (b : Bool) → list_any (observes Pm25 site day) office.observations ≡ b → HasValueOf office days site day ⊎ (cell_at days site day ≡ None) → HasValueOf office days site day
    by true is was = observed site day is
    by false is (inl was) = was
    by false is (inr none) = none ∙ sym (unobserved office site Pm25 day is)
