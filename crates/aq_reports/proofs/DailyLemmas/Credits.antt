-- A day is the make-up day of one record at most, so whether it is credited is told by that record.
use Rattle.std.proofs.Common.{◌≡◌, ℕ, ◌+◌, ◌≤◌, Bool, true, false, cond, ◌&&◌, ◌||◌, ◌==◌, Some, None, Option, List, [], ◌∷◌, refl, ap, sym, ◌∙◌, arith}
use Rattle.std.specs.Prelude.{count_by, filter, slice_get}
use Rattle.std.specs.List.{filter_map, cons_option, list_any}
use Rattle.std.specs.Option.{option_map_or}
use Rattle.std.proofs.lemmas.Bool.{eqb-true}
use Rattle.std.proofs.lemmas.List.Sums.{sum_by-cons}
use Rattle.aq_base.specs.Calendar.{days_in_quarter, quarter_first}
use Rattle.aq_base.specs.Site.{Site}
use Rattle.aq_base.specs.declared.office.OfficeRecord.{OfficeRecord}
use Rattle.aq_base.specs.declared.office.OfficeRecord.TheVariants.{Makeup as MakeupRecord}
use Rattle.aq_cal.proofs.Within.{quarter_holds}
use Rattle.aq_rules.specs.Listed.Daily.{is_credited, makeup_of_site}
use Rattle.aq_rules.specs.Office.Monitors.{is_same_site}
use Rattle.aq_rules.specs.Office.Office.{IsOffice, Office, makes_up_on}
use Rattle.aq_rules.specs.Office.Questions.{missed_for, missed_of}
use Rattle.aq_rules.specs.Particles.QuarterCounts.{Makeup, gives_credit}
use Rattle.aq_registry.specs.Registry.{office_with}
use Rattle.aq_particles.specs.Pm25.SiteDays.{as_makeup}
use Rattle.aq_particles.proofs.Pm25Lemmas.MakeupDays.{one_makeup}

module _ (site : Site) (day : ℕ) (g : Makeup → Bool) where
  abbrev is_on : Makeup → Bool
  is_on m = m.makeup == day

  abbrev made : List OfficeRecord → List Makeup
  made rows = filter_map (makeup_of_site site) rows

  abbrev on_day : List OfficeRecord → Bool
  on_day rows = list_any is_on (filter g (made rows))

  abbrev told : Option ℕ → Bool
  told missed = option_map_or (λ m. g (as_makeup m day)) missed false

  abbrev number : List OfficeRecord → ℕ
  number rows = count_by (makes_up_on site day) rows

  number-cons : (r : OfficeRecord) (rows : List OfficeRecord) → number (r ∷ rows) ≡ cond (makes_up_on site day r) 1 0 + number rows
  number-cons r rows = sum_by-cons (λ (s : OfficeRecord). cond (makes_up_on site day s) 1 0) r rows

  same-tests : (a b c d : Bool) → ((a && (b && (c && true))) && d) ≡ ((a && b && c) && d)
  same-tests true true true d = refl
  same-tests true true false d = refl
  same-tests true false c d = refl
  same-tests false b c d = refl

  made-number : (other : Site) (missed makeup : ℕ) (rows : List OfficeRecord) (s e : Bool) → is_same_site other site ≡ s → (makeup == day) ≡ e
      → number (MakeupRecord other missed makeup ∷ rows) ≡ cond (s && e) 1 0 + number rows
  made-number other missed makeup rows s e same at =
      number-cons (MakeupRecord other missed makeup) rows
      ∙ ap (λ b. cond b 1 0 + number rows) (same-tests (other.state == site.state) (other.county == site.county) (other.number == site.number) (makeup == day) ∙ (λ i. same i && at i))

  -- one that is not on the day changes nothing
  off : (m : Makeup) (ms : List Makeup) → is_on m ≡ false → list_any is_on (filter g (m ∷ ms)) ≡ list_any is_on (filter g ms)
  off m ms is = by (g m)
    where
      by : (b : Bool) → list_any is_on (cond b (m ∷ filter g ms) (filter g ms)) ≡ list_any is_on (filter g ms)
      by true = ap (λ b. b || list_any is_on (filter g ms)) is
      by false = refl

  none : (rows : List OfficeRecord) → number rows ≡ 0 → on_day rows ≡ false
  none [] few = refl
  none (MakeupRecord other missed makeup ∷ rows) few = by (is_same_site other site) (makeup == day) refl refl (none rows)
    where
      by : (s e : Bool) → is_same_site other site ≡ s → (makeup == day) ≡ e → (number rows ≡ 0 → on_day rows ≡ false)
          → list_any is_on (filter g (cons_option (cond s (Some (as_makeup missed makeup)) None) (made rows))) ≡ false
      by false e same at rest = rest (omega (arith, few, made-number other missed makeup rows false e same at))
      by true true same at rest = absurd (omega (arith, few, made-number other missed makeup rows true true same at))
      by true false same at rest =
          off (as_makeup missed makeup) (made rows) at ∙ rest (omega (arith, few, made-number other missed makeup rows true false same at))
  none (r ∷ rows) few = none rows (omega (arith, few, number-cons r rows))

  one : (rows : List OfficeRecord) → number rows ≤ 1 → on_day rows ≡ told (slice_get (filter_map (missed_for site day) rows) 0)
  one [] few = refl
  one (MakeupRecord other missed makeup ∷ rows) few = by (is_same_site other site) (makeup == day) refl refl (one rows)
    where
      here : (b : Bool) → (makeup == day) ≡ true → on_day rows ≡ false → list_any is_on (cond b (as_makeup missed makeup ∷ filter g (made rows)) (filter g (made rows))) ≡ b
      here true at rest = ap (λ b. b || on_day rows) at
      here false at rest = rest

      by : (s e : Bool) → is_same_site other site ≡ s → (makeup == day) ≡ e → (number rows ≤ 1 → on_day rows ≡ told (slice_get (filter_map (missed_for site day) rows) 0))
          → list_any is_on (filter g (cons_option (cond s (Some (as_makeup missed makeup)) None) (made rows)))
          ≡ told (slice_get (cons_option (cond (s && e) (Some missed) None) (filter_map (missed_for site day) rows)) 0)
      by false e same at rest = rest (omega (arith, few, made-number other missed makeup rows false e same at))
      by true false same at rest =
          off (as_makeup missed makeup) (made rows) at ∙ rest (omega (arith, few, made-number other missed makeup rows true false same at))
      by true true same at rest =
          let day-is : makeup ≡ day = eqb-true makeup day at in
          here (g (as_makeup missed makeup)) at (none rows (omega (arith, few, made-number other missed makeup rows true true same at)))
          ∙ ap (λ d. g (as_makeup missed d)) day-is
  one (r ∷ rows) few = one rows (omega (arith, few, number-cons r rows))

module _ (office : Office) (records : List OfficeRecord) (its : records ≡ office.records) (site : Site) (day : ℕ) (valid : IsOffice (office_with records)) where
  credited-by : is_credited office site day ≡ option_map_or (λ missed. gives_credit office site (as_makeup missed day)) (missed_of records site day) false
  unfolding is_credited missed_of
  credited-by =
      ap (on_day site day (gives_credit office site)) (sym its)
      ∙ one site day (gives_credit office site) records
      (one_makeup records site 0 (quarter_first 0) (days_in_quarter 0) valid (quarter_holds 0) day)

  pub none-credited : None ≡ missed_of records site day → false ≡ is_credited office site day
  none-credited is =
      ap (λ (o : Option ℕ). option_map_or (λ missed. gives_credit office site (as_makeup missed day)) o false) is ∙ sym credited-by

  pub one-credited : (missed : ℕ) → Some missed ≡ missed_of records site day → gives_credit office site (as_makeup missed day) ≡ is_credited office site day
  one-credited missed is =
      ap (λ (o : Option ℕ). option_map_or (λ m. gives_credit office site (as_makeup m day)) o false) is ∙ sym credited-by
