-- Lines of a load that are written one after the other.
use Rattle.std.proofs.Common.{◌≡◌, ℕ, zero, suc, ◌+◌, ◌-◌, ◌*◌, ◌%◌, ◌<◌, ◌≤◌, Bool, true, false, cond, List, [], ◌∷◌, ◌++◌, refl, sym, ap, ◌∙◌, arith, append_assoc, append-nil, map, filter}
use Rattle.std.specs.Prelude.{flat_map, ◌≢◌}
use Rattle.std.specs.List.{range_with_len}
use Rattle.std.proofs.lemmas.Bool.Decides.{nat_tests}
use Rattle.std.proofs.lemmas.Grind.{flat_map-append}
use Rattle.aq_base.specs.Calendar.{days_of_years, days_of_months, year_first, days_in_year, hour_number}
use Rattle.aq_base.specs.Site.{Site}
use Rattle.aq_base.specs.declared.monitor.Pollutant.TheVariants.{Ozone, Pm25, Pm10}
use Rattle.aq_base.specs.declared.monitor.Duration.{Duration}
use Rattle.aq_base.specs.declared.monitor.Duration.TheVariants.{Hour, Day}
use Rattle.aq_base.specs.declared.observation.Observation.{Observation}
use Rattle.aq_base.specs.declared.office.OfficeRecord.TheVariants.{Monitor, Primary, Schedule}
use Rattle.aq_rules.specs.Lines.Canonical.{canonical_rd}
use Rattle.aq_rules.specs.Lines.RdForm.{Put as PutSample}
use Rattle.aq_rules.specs.Ozone.OzoneYear.{days_of}
use Rattle.aq_rules.specs.Shown.Generator.{next_state, observed, generated_start, generated_site, generated_season, generated_years, generated_records, record_text, Wanted, wanted_in, samples_from, FIRST_GENERATED_YEAR}
use Rattle.aq_simulation.specs.Generator.Samples.{wanted, wanted_at_midnight, is_due}
use Rattle.aq_simulation.proofs.GeneratorLemmas.Walks.{range-first, range-none}

-- ---- samples

pub sample-written : (w : Wanted) (x least count state : ℕ) (duration : Duration) (content : Observation) (old line added ended : List ℕ)
    → least ≡ w.base → count ≡ w.span → duration ≡ w.duration
    → content ≡ (observed least count (next_state x)).content → state ≡ (observed least count (next_state x)).state
    → line ≡ canonical_rd (PutSample false w.monitor duration w.hour content)
    → added ≡ old ++ line → ended ≡ added ++ 10 ∷ []
    → (more : List Wanted) → ended ++ samples_from state more ≡ old ++ samples_from x (w ∷ more)
unfolding samples_from
sample-written w x least count state duration content old line added ended l c d o s is e f more =
    rw (f, e, is, o, s, d, l, c) (simp append_assoc)

pub start_is : year_first FIRST_GENERATED_YEAR ≡ generated_start
unfolding days_of_years days_of_months
start_is = refl

-- a sample for each number, where `before` and `after` are the texts that come of what is left to be written
pub sample-step : (f : ℕ → Wanted) (before after : List Wanted → List ℕ) (number end at : ℕ) (whole : List ℕ) (more : List Wanted)
    → number < end → f at ≡ f number → ((rest : List Wanted) → after rest ≡ before (f at ∷ rest))
    → before (map f (range_with_len number (end - number)) ++ more) ≡ whole
    → after (map f (range_with_len (number + 1) (end - (number + 1))) ++ more) ≡ whole
sample-step f before after number end at whole more low same added is =
    added (map f (range_with_len (number + 1) (end - (number + 1))) ++ more)
    ∙ ap (λ (w : Wanted). before (w ∷ (map f (range_with_len (number + 1) (end - (number + 1))) ++ more))) same
    ∙ ap (λ (numbers : List ℕ). before (map f numbers ++ more)) (sym (range-first number end low))
    ∙ is

pub samples-end : (f : ℕ → Wanted) (before whole : List Wanted → List ℕ) (number end start first count : ℕ) (more : List Wanted)
    → end ≤ number → start ≡ first → end ≡ first + count
    → before (map f (range_with_len number (end - number)) ++ more) ≡ whole (map f (range_with_len start (end - start)) ++ more)
    → before more ≡ whole (map f (range_with_len first count) ++ more)
samples-end f before whole number end start first count more high from to is =
    let length : end - start ≡ count = omega (arith, from, to) in
    ap (λ (numbers : List ℕ). before (map f numbers ++ more)) (sym (range-none number end high)) ∙ is
    ∙ ap (λ (n : ℕ). whole (map f (range_with_len start n) ++ more)) length
    ∙ ap (λ (n : ℕ). whole (map f (range_with_len n count) ++ more)) from

pub due : (interval start day from : ℕ) → from ≡ start → (day - from) % interval ≡ 0 → is_due interval start day ≡ true
due interval start day from same is = rw (← same) (grind (arith, nat_tests))

pub undue : (interval start day from : ℕ) → from ≡ start → (day - from) % interval ≢ 0 → is_due interval start day ≡ false
undue interval start day from same is = rw (← same) (grind (arith, nat_tests))

-- the same for the days that are due
module _ (f : ℕ → Wanted) (p : ℕ → Bool) (before after : List Wanted → List ℕ) where
  due-step : (number : ℕ) (days : List ℕ) (due : Bool) → p number ≡ due
      → ((rest : List Wanted) → after rest ≡ before (cond due (f number ∷ rest) rest))
      → (more : List Wanted) → after (map f (filter p days) ++ more) ≡ before (map f (filter p (number ∷ days)) ++ more)
  due-step number days true is added more =
      added (map f (filter p days) ++ more) ∙ ap (λ b. before (map f (cond b (number ∷ filter p days) (filter p days)) ++ more)) (sym is)
  due-step number days false is added more =
      added (map f (filter p days) ++ more) ∙ ap (λ b. before (map f (cond b (number ∷ filter p days) (filter p days)) ++ more)) (sym is)

  pub day-step : (number end : ℕ) (due : Bool) (whole : List ℕ) (more : List Wanted)
      → number < end → p number ≡ due → ((rest : List Wanted) → after rest ≡ before (cond due (f number ∷ rest) rest))
      → before (map f (filter p (range_with_len number (end - number))) ++ more) ≡ whole
      → after (map f (filter p (range_with_len (number + 1) (end - (number + 1)))) ++ more) ≡ whole
  day-step number end due whole more low is added so_far =
      due-step number (range_with_len (number + 1) (end - (number + 1))) due is added more
      ∙ ap (λ (numbers : List ℕ). before (map f (filter p numbers) ++ more)) (sym (range-first number end low))
      ∙ so_far

pub days-end : (f : ℕ → Wanted) (p : ℕ → Bool) (before whole : List Wanted → List ℕ) (number end start count : ℕ) (more : List Wanted)
    → end ≤ number → end ≡ start + count
    → before (map f (filter p (range_with_len number (end - number))) ++ more) ≡ whole (map f (filter p (range_with_len start (end - start))) ++ more)
    → before more ≡ whole (map f (filter p (range_with_len start count)) ++ more)
days-end f p before whole number end start count more high to is =
    let length : end - start ≡ count = omega (arith, to) in
    ap (λ (numbers : List ℕ). before (map f (filter p numbers) ++ more)) (sym (range-none number end high)) ∙ is
    ∙ ap (λ (n : ℕ). whole (map f (filter p (range_with_len start n)) ++ more)) length

three_parts : (a b c : List Wanted) → a ++ (b ++ (c ++ [])) ≡ (a ++ b) ++ c
three_parts a b c = simp (append_assoc, append-nil)

pub year-joined : (n year first days start : ℕ) (site : Site) → site ≡ generated_site n → first ≡ year_first year → days ≡ days_in_year year → start ≡ year_first FIRST_GENERATED_YEAR
    → map (wanted site Ozone) (range_with_len (24 * first) (24 * days))
    ++ (map (wanted_at_midnight site Pm25) (filter (is_due 3 start) (range_with_len first days))
    ++ (map (wanted_at_midnight site Pm10) (filter (is_due 6 start) (range_with_len first days)) ++ []))
    ≡ wanted_in n year
unfolding wanted_in days_of
year-joined n year first days start site s f d e =
    let hour : 24 * first ≡ hour_number (year_first year) 0 = omega (arith, f) in
    rw (s, hour, f, d, e ∙ start_is) (three_parts
    (map (wanted (generated_site n) Ozone) (range_with_len (hour_number (year_first year) 0) (24 * days_in_year year)))
    (map (wanted_at_midnight (generated_site n) Pm25) (filter (is_due 3 generated_start) (range_with_len (year_first year) (days_in_year year))))
    (map (wanted_at_midnight (generated_site n) Pm10) (filter (is_due 6 generated_start) (range_with_len (year_first year) (days_in_year year)))))

years-grow : (n k : ℕ) → days_of_years n ≤ days_of_years (k + n)
unfolding days_of_years
years-grow n zero = let e : n ≡ 0 + n = omega arith in let same : days_of_years n ≡ days_of_years (0 + n) = ap days_of_years e in omega (arith, same)
years-grow n (suc k) =
    let e : suc k + n ≡ suc (k + n) = omega arith in
    let more : days_of_years (suc k + n) ≡ days_of_years (suc (k + n)) = ap days_of_years e in
    omega (arith, more, years-grow n k)

pub year-later : (year first later : ℕ) → FIRST_GENERATED_YEAR ≤ year → first ≡ year_first FIRST_GENERATED_YEAR → later ≡ year_first year → first ≤ later
year-later year first later low f l =
    let years : (year - FIRST_GENERATED_YEAR) + 31 ≡ year - 1990 = omega (arith, low) in
    rw (f, l, ← years) (years-grow 31 (year - FIRST_GENERATED_YEAR))

-- what is written, of the three parts of a year
pub year-written : (state : ℕ) (hours fine coarse whole : List Wanted) (hourly daily last : List Wanted → List ℕ) (before text : List ℕ) → before ≡ []
    → ((more : List Wanted) → hourly more ≡ before ++ samples_from state (hours ++ more)) → ((more : List Wanted) → daily more ≡ hourly (fine ++ more))
    → ((more : List Wanted) → last more ≡ daily (coarse ++ more)) → text ≡ last []
    → hours ++ (fine ++ (coarse ++ [])) ≡ whole → text ≡ samples_from state whole
year-written state hours fine coarse whole hourly daily last before text none a b c is joined =
    is ∙ c [] ∙ b (coarse ++ []) ∙ a (fine ++ (coarse ++ [])) ∙ ap (λ (front : List ℕ). front ++ samples_from state (hours ++ (fine ++ (coarse ++ [])))) none
    ∙ ap (samples_from state) joined

pub text-is : (text : List ℕ) (state : ℕ) → text ≡ text ++ samples_from state []
unfolding samples_from
text-is text state = sym (append-nil text)

-- ---- the office

pub nine-written : (o0 o1 o2 o3 o4 o5 o6 o7 o8 o9 : List ℕ) (n years from : ℕ) (s : Site) → s ≡ generated_site n → from ≡ year_first FIRST_GENERATED_YEAR
    → o1 ≡ o0 ++ record_text (Monitor (record { site = s; pollutant = Ozone; poc = 1 }) Hour true)
    → o2 ≡ o1 ++ record_text (Monitor (record { site = s; pollutant = Pm25; poc = 1 }) Day true)
    → o3 ≡ o2 ++ record_text (Monitor (record { site = s; pollutant = Pm10; poc = 1 }) Day true)
    → o4 ≡ o3 ++ record_text (Primary s Ozone from 1)
    → o5 ≡ o4 ++ record_text (Primary s Pm25 from 1)
    → o6 ≡ o5 ++ record_text (Primary s Pm10 from 1)
    → o7 ≡ o6 ++ record_text (Schedule s Pm25 from 3 from)
    → o8 ≡ o7 ++ record_text (Schedule s Pm10 from 6 from)
    → o9 ≡ o8 ++ flat_map record_text (map (generated_season n) (generated_years years))
    → o9 ≡ o0 ++ flat_map record_text (generated_records years n)
nine-written o0 o1 o2 o3 o4 o5 o6 o7 o8 o9 n years from s is first e1 e2 e3 e4 e5 e6 e7 e8 e9 =
    rw (e9, e8, e7, e6, e5, e4, e3, e2, e1, is, first ∙ start_is) (simp append_assoc)

pub records-of-sites : (years n : ℕ) (rest : List ℕ)
    → flat_map record_text (flat_map (generated_records years) (n ∷ rest)) ≡ flat_map record_text (generated_records years n) ++ flat_map record_text (flat_map (generated_records years) rest)
records-of-sites years n rest = flat_map-append record_text (generated_records years n) (flat_map (generated_records years) rest)
