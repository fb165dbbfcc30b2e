-- How sites, days and hours print, in sheets and words alike (own).
use Rattle.std.specs.Prelude.{ℕ, List, ◌++◌, codes}
use Rattle.aq_base.specs.Calendar.{year_of, month_of, day_of_month}
use Rattle.aq_base.specs.Decimal.{last_digits}
use Rattle.aq_base.specs.Site.{Site}

-- SS-CCC-NNNN
unfoldable pub site_text : Site → List ℕ
site_text site = last_digits 2 site.state ++ codes "-" ++ last_digits 3 site.county ++ codes "-" ++ last_digits 4 site.number

-- YYYY-MM-DD
unfoldable pub day_text : ℕ → List ℕ
day_text day = last_digits 4 (year_of day) ++ codes "-" ++ last_digits 2 (month_of day) ++ codes "-" ++ last_digits 2 (day_of_month day)

-- an hour of a day, HH:00
unfoldable pub hour_text : ℕ → List ℕ
hour_text hour = last_digits 2 hour ++ codes ":00"
