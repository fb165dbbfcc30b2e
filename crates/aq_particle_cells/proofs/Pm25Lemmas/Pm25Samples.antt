-- The creditable samples of days, once the value of a day or a sample is another one.
use Rattle.std.proofs.Common.{◌≡◌, ℕ, Bool, true, false, cond, ◌&&◌, ◌||◌, List, refl, ap, sym, ◌∙◌, arith}
use Rattle.std.specs.Prelude.{◌==◌, Option, Some, None}
use Rattle.std.specs.Option.{option_map_or}
use Rattle.std.proofs.lemmas.Bool.Decides.{nat_tests}
use Rattle.aq_base.specs.Site.{Site}
use Rattle.aq_base.specs.declared.office.OfficeRecord.{OfficeRecord}
use Rattle.aq_rules.specs.Office.Monitors.{is_same_site}
use Rattle.aq_rules.specs.Office.Questions.{missed_of}
use Rattle.aq_rules.specs.Ozone.SiteHour.{Cell}
use Rattle.aq_particle_cells.specs.Days.KeptDays.{cell_at, sample_at, Days}
use Rattle.aq_particle_cells.specs.Pm25.Pm25Cells.{credited_by, is_counted_by, sample_from}

-- a sample rests on the values alone
pub sample-same : (records : List OfficeRecord) (a b : Days) (site : Site) (day : ℕ) → ((other : Site) (number : ℕ) → cell_at a other number ≡ cell_at b other number)
    → sample_from records a site day ≡ sample_from records b site day
unfolding sample_from
sample-same records a b site day same = λ i. credited_by records site (λ d. same site d i) day

module _ (records : List OfficeRecord) (site : Site) (day : ℕ) (start put once : Days) (after : Days)
    (stay : (other : Site) (number : ℕ) → sample_at put other number ≡ sample_at start other number)
    (cells-once : (other : Site) (number : ℕ) → cell_at once other number ≡ cell_at put other number)
    (samples-once : (other : Site) (number : ℕ) → sample_at once other number ≡ cond (is_same_site site other && (day == number)) (sample_from records put site day) (sample_at put other number)) where
  here : (number : ℕ) → (day == number) ≡ true → sample_from records put site day ≡ sample_from records once site number
  here number is =
      let same : day ≡ number = grind (arith, nat_tests) in
      ap (sample_from records put site) same ∙ sample-same records put once site number (λ other n. sym (cells-once other n))

  -- if the sample makes up for no day
  pub counted-one : missed_of records site day ≡ None
      → (other : Site) (number : ℕ) → sample_at once other number ≡ cond (is_same_site site other && is_counted_by records site day number) (sample_from records once site number) (sample_at start other number)
  counted-one none other number =
      samples-once other number ∙ by (is_same_site site other) (day == number) refl
      ∙ ap (λ (o : Option ℕ). cond (is_same_site site other && ((day == number) || option_map_or (λ missed. missed == number) o false)) (sample_from records once site number) (sample_at start other number)) (sym none)
    where
      by : (p q : Bool) → (day == number) ≡ q
          → cond (p && q) (sample_from records put site day) (sample_at put other number) ≡ cond (p && (q || false)) (sample_from records once site number) (sample_at start other number)
      by true true is = here number is
      by true false is = stay other number
      by false q is = stay other number

  module _ (missed : ℕ) (found : missed_of records site day ≡ Some missed)
      (cells-after : (other : Site) (number : ℕ) → cell_at after other number ≡ cell_at once other number)
      (samples-after : (other : Site) (number : ℕ) → sample_at after other number ≡ cond (is_same_site site other && (missed == number)) (sample_from records once site missed) (sample_at once other number)) where
    -- if it makes up for one
    pub counted-two : (other : Site) (number : ℕ) → sample_at after other number ≡ cond (is_same_site site other && is_counted_by records site day number) (sample_from records after site number) (sample_at start other number)
    counted-two other number =
        samples-after other number
        ∙ ap (λ (o : Option Cell). cond (is_same_site site other && (missed == number)) (sample_from records once site missed) o) (samples-once other number)
        ∙ by (is_same_site site other) (day == number) (missed == number) refl refl
        ∙ ap (λ (o : Option ℕ). cond (is_same_site site other && ((day == number) || option_map_or (λ m. m == number) o false)) (sample_from records after site number) (sample_at start other number)) (sym found)
      where
        later : sample_from records once site number ≡ sample_from records after site number
        later = sample-same records once after site number (λ o n. sym (cells-after o n))

        by : (p q r : Bool) → (day == number) ≡ q → (missed == number) ≡ r
            → cond (p && r) (sample_from records once site missed) (cond (p && q) (sample_from records put site day) (sample_at put other number))
            ≡ cond (p && (q || r)) (sample_from records after site number) (sample_at start other number)
        by true true true is also = let same : missed ≡ number = grind (arith, nat_tests) in ap (sample_from records once site) same ∙ later
        by true false true is also = let same : missed ≡ number = grind (arith, nat_tests) in ap (sample_from records once site) same ∙ later
        by true true false is also = here number is ∙ later
        by true false false is also = stay other number
        by false q r is also = stay other number
