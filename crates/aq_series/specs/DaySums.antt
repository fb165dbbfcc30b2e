-- What one more monitor changes in the state of a site's day.
use Rattle.std.specs.Prelude.{◌≡◌, ◌+◌, ◌<◌, ◌≤◌, ℕ, ◌==◌, Bool, true, false, Option, Some, None, List, [], ◌++◌, IfSome}
use Rattle.std.specs.Option.{option_eq, option_or, option_to_list}
use Rattle.aq_rules.specs.Ozone.SiteHour.{Cell}
use Rattle.aq_series.specs.DayCells.{IsOfParticles, IsParticle, IsTallyOf}
use Rattle.aq_series.specs.declared.site_spans.DayState.{DayState}

-- the state of no values
pub record IsNew (state : DayState) : Type 0 where
  pub own : state.own ≡ None
  pub tally : IsTallyOf [] state.others
  pub values : IsOfParticles state.others

-- room for one more value
pub record HasDayRoom (state : DayState) : Type 0 where
  pub values : IsOfParticles state.others
  pub count : state.others.count < 24

-- whether a POC is that of the day's primary
abbrev pub is_days_primary : DayState → ℕ → Bool
is_days_primary state poc = option_eq (λ m n. m == n) state.primary (Some poc)

-- a state with what one more monitor has
pub record AddsDay (poc : ℕ) (cell : Option Cell) (old new : DayState) : Type 0 where
  pub kept : new.primary ≡ old.primary
  pub own : is_days_primary old poc ≡ true → new.own ≡ option_or cell old.own
  pub other : is_days_primary old poc ≡ false → new.own ≡ old.own
  pub same : is_days_primary old poc ≡ true → new.others ≡ old.others
  pub more : is_days_primary old poc ≡ false → (before : List Cell) → IsTallyOf before old.others → IsTallyOf (before ++ option_to_list cell) new.others
  pub count : new.others.count ≤ old.others.count + 1
  pub values : IsOfParticles new.others
  pub range : IfSome old.own (λ (c : Cell). IsParticle c.value) → IfSome new.own (λ (c : Cell). IsParticle c.value)
