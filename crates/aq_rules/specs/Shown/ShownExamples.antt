-- Records with fields that all differ, and small offices, on which the laws of sheets, exports and answers work out what prints where.
use Rattle.std.specs.Prelude.{ℕ, ◌+◌, ◌*◌, true, false, List, [], ◌∷◌, map, codes, Option, Some, None, pos, neg_ℤ}
use Rattle.std.specs.List.{range_with_len}
use Rattle.aq_base.specs.Calendar.{day_number, hour_number}
use Rattle.aq_base.specs.Site.{Site}
use Rattle.aq_base.specs.declared.monitor.Duration.TheVariants.{Hour, Day}
use Rattle.aq_base.specs.declared.monitor.Pollutant.{Pollutant}
use Rattle.aq_base.specs.declared.monitor.Pollutant.TheVariants.{Ozone, Pm25}
use Rattle.aq_base.specs.declared.observation.ObsKey.{ObsKey}
use Rattle.aq_base.specs.declared.observation.Observation.{Observation}
use Rattle.aq_base.specs.declared.office.OfficeRecord.TheVariants.{Monitor, Schedule}
use Rattle.aq_base.specs.declared.reply.LoadReply.{LoadReply}
use Rattle.aq_base.specs.declared.rule.Rule.TheVariants.{BadPoc, BadDate, AlreadyThere, NotThere}
use Rattle.aq_base.specs.declared.standard.Standard.{Standard}
use Rattle.aq_base.specs.declared.standard.Standard.TheVariants.{Ozone2015, Annual2012, AnnualSecondary, Annual2024, Daily2006, Pm10Of1987}
use Rattle.aq_base.specs.declared.standard.Verdict.TheVariants.{NotMet, Incomplete}
use Rattle.aq_rules.specs.Office.Office.{Office}
use Rattle.aq_rules.specs.Ozone.EightHour.{WindowRow}
use Rattle.aq_rules.specs.Ozone.OzoneDay.{OzoneDay}
use Rattle.aq_rules.specs.Ozone.OzoneYear.{OzoneYear}
use Rattle.aq_rules.specs.Ozone.OzoneVerdict.{OzoneDv}
use Rattle.aq_rules.specs.Particles.AnnualVerdict.{ParticleDv}
use Rattle.aq_rules.specs.Particles.Pm10Estimate.{Pm10Quarter}
use Rattle.aq_rules.specs.Particles.Pm10Verdict.{Pm10Dv}
use Rattle.aq_rules.specs.Kept.Summaries.{PmQuarter, PmYear}
use Rattle.aq_rules.specs.Shown.Sheet.{SheetCell, Sheet, cell_at}
use Rattle.aq_rules.specs.Questions.Answer.{Answer, OfSheets, OfText, Lacks}
use Rattle.aq_rules.specs.Ozone.OzoneExamples.{site, office_of, summer_day}
use Rattle.aq_rules.specs.Particles.ParticleExamples.{winter_day}

-- ---- loads: two lines listed, and further ones of two rules

abbrev pub reply_with_rest : LoadReply
reply_with_rest = record {
  number = 8;
  lines = 530;
  accepted = 12;
  refused = 515;
  listed = record { line = 3; rule = AlreadyThere } ∷ record { line = 17; rule = BadPoc } ∷ [];
  rest = record { rule = BadDate; count = 9 } ∷ record { rule = NotThere; count = 4 } ∷ [];
}

-- ---- ozone

abbrev pub three_windows : List WindowRow
three_windows =
    record { net = Some (pos 65); net_hours = 6; full = Some (pos 71); full_hours = 8 }
    ∷ record { net = None; net_hours = 2; full = None; full_hours = 5 }
    ∷ record { net = None; net_hours = 4; full = Some (pos 68); full_hours = 7 } ∷ []

-- a valid day and one that is not, each with a maximum
abbrev pub two_days : List OzoneDay
two_days = record { averages = 13; valid = true; maximum = Some (pos 66) } ∷ record { averages = 5; valid = false; maximum = Some (pos 59) } ∷ []

abbrev pub three_ozone_years : List OzoneYear
three_ozone_years =
    record { season_days = 245; season_valid = 240; ranked = 250; fourth = Some (pos 71) }
    ∷ record { season_days = 214; season_valid = 209; ranked = 230; fourth = Some (pos 69) }
    ∷ record { season_days = 365; season_valid = 301; ranked = 3; fourth = None } ∷ []

abbrev pub incomplete_ozone : OzoneDv
incomplete_ozone = record { value = Some (pos 70); verdict = Incomplete }

-- ---- PM2.5: quarters with captures of 60, 88, 97 and 50, and one without a day

abbrev pub first_pm25 : PmQuarter
first_pm25 = record { scheduled = 90; creditable = 54; counted = 50; net_days = 56; sum = pos 6160; least = Some (pos 31); greatest = Some (pos 254) }

abbrev pub second_pm25 : PmQuarter
second_pm25 = record { scheduled = 91; creditable = 80; counted = 77; net_days = 79; sum = pos 7900; least = Some (pos 12); greatest = Some (pos 301) }

abbrev pub third_pm25 : PmQuarter
third_pm25 = record { scheduled = 30; creditable = 29; counted = 28; net_days = 33; sum = pos 3300; least = Some (neg_ℤ (pos 5)); greatest = Some (pos 187) }

abbrev pub fourth_pm25 : PmQuarter
fourth_pm25 = record { scheduled = 46; creditable = 23; counted = 21; net_days = 22; sum = pos 2640; least = Some (pos 40); greatest = Some (pos 260) }

abbrev pub no_pm25 : PmQuarter
no_pm25 = record { scheduled = 20; creditable = 0; counted = 0; net_days = 0; sum = pos 0; least = None; greatest = None }

abbrev pub pm25_year_of : List PmQuarter → List ℕ → PmYear
pm25_year_of quarters top = record { quarters = quarters; top = map pos top }

-- the second has a quarter without a day
abbrev pub three_pm25_years : List PmYear
three_pm25_years =
    pm25_year_of (first_pm25 ∷ second_pm25 ∷ third_pm25 ∷ fourth_pm25 ∷ []) (301 ∷ 260 ∷ 254 ∷ 250 ∷ 240 ∷ 230 ∷ 220 ∷ 210 ∷ [])
    ∷ pm25_year_of (no_pm25 ∷ third_pm25 ∷ second_pm25 ∷ first_pm25 ∷ []) (310 ∷ 305 ∷ 299 ∷ 280 ∷ 270 ∷ 231 ∷ 221 ∷ 211 ∷ [])
    ∷ pm25_year_of (second_pm25 ∷ first_pm25 ∷ fourth_pm25 ∷ third_pm25 ∷ []) (200 ∷ 190 ∷ 180 ∷ 170 ∷ 160 ∷ 150 ∷ 140 ∷ 130 ∷ [])
    ∷ []

-- a value of 12.3 and a test of 11.8; and 36 and 37
abbrev pub tested_annual : ParticleDv
tested_annual = record { value = Some (pos 123); test = Some (pos 118); valid = true ∷ false ∷ true ∷ []; verdict = Incomplete }

abbrev pub tested_daily : ParticleDv
tested_daily = record { value = Some (pos 36); test = Some (pos 37); valid = true ∷ false ∷ true ∷ []; verdict = NotMet }

-- ---- PM10: the second quarter is not complete, and in the fourth nothing is scheduled

abbrev pub first_pm10 : Pm10Quarter
first_pm10 = record { calendar_days = 90; scheduled = 16; captured = 14; strata = 12; samples = 13; exceedances = 3; scheduled_exceedances = 2; sixtieths = 150 }

abbrev pub second_pm10 : Pm10Quarter
second_pm10 = record { calendar_days = 91; scheduled = 15; captured = 11; strata = 8; samples = 9; exceedances = 1; scheduled_exceedances = 0; sixtieths = 30 }

abbrev pub third_pm10 : Pm10Quarter
third_pm10 = record { calendar_days = 92; scheduled = 31; captured = 30; strata = 28; samples = 29; exceedances = 4; scheduled_exceedances = 3; sixtieths = 200 }

abbrev pub fourth_pm10 : Pm10Quarter
fourth_pm10 = record { calendar_days = 92; scheduled = 0; captured = 0; strata = 5; samples = 6; exceedances = 2; scheduled_exceedances = 0; sixtieths = 90 }

abbrev pub no_pm10 : Pm10Quarter
no_pm10 = record { calendar_days = 91; scheduled = 15; captured = 0; strata = 0; samples = 0; exceedances = 0; scheduled_exceedances = 0; sixtieths = 0 }

abbrev pub three_pm10_years : List (List Pm10Quarter)
three_pm10_years =
    (first_pm10 ∷ second_pm10 ∷ third_pm10 ∷ fourth_pm10 ∷ [])
    ∷ (third_pm10 ∷ third_pm10 ∷ third_pm10 ∷ third_pm10 ∷ [])
    ∷ (no_pm10 ∷ first_pm10 ∷ third_pm10 ∷ fourth_pm10 ∷ []) ∷ []

abbrev pub exceeding_pm10 : Pm10Dv
exceeding_pm10 = record { value = Some (pos 437); verdict = NotMet }

-- ---- an office of two sites and two pollutants

-- 06-037-1104
abbrev pub other_site : Site
other_site = record { state = 6; county = 37; number = 1104 }

-- 06-037-1105, which has no monitor
abbrev pub third_site : Site
third_site = record { state = 6; county = 37; number = 1105 }

abbrev pub value_at : Site → Pollutant → ℕ → ℕ → ℕ → (ObsKey × Observation)
value_at at pollutant poc hour value =
    (record { monitor = record { site = at; pollutant = pollutant; poc = poc }; hour = hour }, record { value = Some (pos value); null = None; quals = []; method = None })

abbrev pub two_sites : Office
two_sites =
    office_of
    (Monitor (record { site = site; pollutant = Ozone; poc = 1 }) Hour true ∷ Monitor (record { site = site; pollutant = Ozone; poc = 12 }) Hour true
    ∷ Monitor (record { site = site; pollutant = Pm25; poc = 1 }) Day true ∷ Monitor (record { site = other_site; pollutant = Ozone; poc = 1 }) Hour true ∷ [])
    (value_at site Ozone 1 (hour_number summer_day 10) 71 ∷ value_at site Ozone 12 (hour_number summer_day 9) 64
    ∷ value_at site Pm25 1 (hour_number winter_day 0) 120 ∷ value_at other_site Ozone 1 (hour_number summer_day 10) 55 ∷ [])

-- every sixth day of 2022 to 2024 is scheduled, and sampled at 13.0
abbrev pub between_levels : Office
between_levels =
    office_of
    (Monitor (record { site = site; pollutant = Pm25; poc = 1 }) Day true ∷ Schedule site Pm25 (day_number 2022 1 1) 6 (day_number 2022 1 1) ∷ [])
    (map (λ k. value_at site Pm25 1 (hour_number (day_number 2022 1 1 + 6 * k) 0) 130) (range_with_len 0 183))

-- ---- answers

-- of the first sheet the cells under these heads, and the column names
abbrev pub outline : List (List ℕ) → Answer → Option (List SheetCell × List (List ℕ))
outline names (OfSheets []) = None
outline names (OfSheets (sheet ∷ sheets)) = Some (map (λ name. cell_at name sheet) names, sheet.columns)
outline names (OfText text) = None
outline names (Lacks what) = None

-- what is made of an answer's first sheet
abbrev pub map_sheet : {X : Type 0} → (Sheet → X) → Answer → Option X
map_sheet f (OfSheets []) = None
map_sheet f (OfSheets (sheet ∷ sheets)) = Some (f sheet)
map_sheet f (OfText text) = None
map_sheet f (Lacks what) = None

-- the columns of a design value's years
abbrev pub value_columns : Standard → List (List ℕ)
value_columns Ozone2015 = codes "year" ∷ codes "ranked" ∷ codes "fourth" ∷ codes "season_days" ∷ codes "season_valid" ∷ []
value_columns Annual2012 =
    codes "year" ∷ codes "mean" ∷ codes "capture1" ∷ codes "capture2" ∷ codes "capture3" ∷ codes "capture4" ∷ codes "valid" ∷ []
value_columns AnnualSecondary =
    codes "year" ∷ codes "mean" ∷ codes "capture1" ∷ codes "capture2" ∷ codes "capture3" ∷ codes "capture4" ∷ codes "valid" ∷ []
value_columns Annual2024 =
    codes "year" ∷ codes "mean" ∷ codes "capture1" ∷ codes "capture2" ∷ codes "capture3" ∷ codes "capture4" ∷ codes "valid" ∷ []
value_columns Daily2006 =
    codes "year" ∷ codes "percentile" ∷ codes "counted" ∷ codes "capture1" ∷ codes "capture2" ∷ codes "capture3" ∷ codes "capture4" ∷ codes "valid" ∷ []
value_columns Pm10Of1987 = codes "year" ∷ codes "estimate" ∷ codes "lower" ∷ codes "exceedances" ∷ codes "complete" ∷ []
