-- What is kept of days, once one of them is kept otherwise, or none is kept.
use Rattle.std.proofs.Common.{◌≡◌, ℕ, Bool, true, false, cond, ◌&&◌, List, [], ◌∷◌, refl, ap, sym, subst, ◌∙◌}
use Rattle.std.specs.Prelude.{◌==◌, Option, None, IfSome, filter_map}
use Rattle.std.specs.List.{cons_option}
use Rattle.aq_base.specs.Site.{Site}
use Rattle.aq_rules.specs.Office.Monitors.{is_same_site}
use Rattle.aq_rules.specs.Ozone.SiteHour.{Cell}
use Rattle.aq_series.specs.DayCells.{IsParticle}
use Rattle.aq_particle_cells.specs.Days.KeptDays.{cell_at, day_at, no_day, sample_at, AreDaysOfParticles, Days}
use Rattle.aq_particle_cells.specs.declared.days.kept_days.KeptDay.{KeptDay}
use Rattle.aq_particle_cells.proofs.DaysLemmas.TimeLemmas.{itself}

-- one day is kept otherwise
abbrev pub Replaces : Days → Days → KeptDay → Site → ℕ → Type 0
Replaces before after new site day =
    (other : Site) (number : ℕ) → day_at after other number ≡ cond (is_same_site site other && (day == number)) new (day_at before other number)

module _ (before after : Days) (new : KeptDay) (site : Site) (day : ℕ) (replaces : Replaces before after new site day) where
  pub day-here : day_at after site day ≡ new
  day-here = replaces site day ∙ ap (λ b. cond b new (day_at before site day)) (itself site day)

  pub day-elsewhere : (other : Site) (number : ℕ) → (is_same_site site other && (day == number)) ≡ false → day_at before other number ≡ day_at after other number
  day-elsewhere other number off = sym (replaces other number ∙ ap (λ b. cond b new (day_at before other number)) off)

  -- ---- the parts of a day

  pub cells-after : (cell : Option Cell) → new.cell ≡ cell → (other : Site) (number : ℕ) → cell_at after other number ≡ cond (is_same_site site other && (day == number)) cell (cell_at before other number)
  unfolding cell_at
  cells-after cell is other number =
      ap (λ (d : KeptDay). d.cell) (replaces other number) ∙ by (is_same_site site other && (day == number))
    where
      by : (b : Bool) → (cond b new (day_at before other number)).cell ≡ cond b cell (day_at before other number).cell
      by true = is
      by false = refl

  pub samples-after : (sample : Option Cell) → new.sample ≡ sample → (other : Site) (number : ℕ) → sample_at after other number ≡ cond (is_same_site site other && (day == number)) sample (sample_at before other number)
  unfolding sample_at
  samples-after sample is other number =
      ap (λ (d : KeptDay). d.sample) (replaces other number) ∙ by (is_same_site site other && (day == number))
    where
      by : (b : Bool) → (cond b new (day_at before other number)).sample ≡ cond b sample (day_at before other number).sample
      by true = is
      by false = refl

-- ---- the values stay those of particles

pub particles-put : (before after : Days) (site : Site) (day : ℕ) (cell : Option Cell)
    → ((other : Site) (number : ℕ) → cell_at after other number ≡ cond (is_same_site site other && (day == number)) cell (cell_at before other number))
    → IfSome cell (λ (c : Cell). IsParticle c.value) → AreDaysOfParticles before → AreDaysOfParticles after
particles-put before after site day cell cells is all other number =
    subst (λ (o : Option Cell). IfSome o (λ (c : Cell). IsParticle c.value)) (sym (cells other number)) (by (is_same_site site other && (day == number)))
  where
    by : (b : Bool) → IfSome (cond b cell (cell_at before other number)) (λ (c : Cell). IsParticle c.value)
    by true = is
    by false = all other number

pub particles-same : (before after : Days) → ((other : Site) (number : ℕ) → cell_at after other number ≡ cell_at before other number) → AreDaysOfParticles before → AreDaysOfParticles after
particles-same before after same all other number =
    subst (λ (o : Option Cell). IfSome o (λ (c : Cell). IsParticle c.value)) (sym (same other number)) (all other number)

-- ---- nothing is kept

module _ (days : Days) (none : (site : Site) (day : ℕ) → day_at days site day ≡ no_day) where
  pub no-cells : (site : Site) (day : ℕ) → cell_at days site day ≡ None
  unfolding cell_at
  no-cells site day = ap (λ (d : KeptDay). d.cell) (none site day)

  pub no-samples : (site : Site) (day : ℕ) → sample_at days site day ≡ None
  unfolding sample_at
  no-samples site day = ap (λ (d : KeptDay). d.sample) (none site day)

  pub nothing-of : {I : Type 0} (item : KeptDay → Option I) → item no_day ≡ None → (site : Site) (span : List ℕ) → [] ≡ filter_map (λ day. item (day_at days site day)) span
  nothing-of item is site [] = refl
  nothing-of {I = I} item is site (day ∷ span) =
      let one : None ≡ item (day_at days site day) = sym (ap item (none site day) ∙ is) in
      λ i. cons_option (one i) (nothing-of item is site span i)

  pub no-particles : AreDaysOfParticles days
  no-particles site day = subst (λ (o : Option Cell). IfSome o (λ (c : Cell). IsParticle c.value)) (sym (no-cells site day)) tt
