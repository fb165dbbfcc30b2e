use Rattle.std.proofs.Common.{refl}
use Rattle.std.specs.Fmt.{digits}
use Rattle.aq_base.specs.Calendar.{days_of_months, days_of_years, month_of, year_of}
use Rattle.aq_base.specs.Decimal.{last_digits}
use Rattle.aq_base.specs.Text.{day_text}
use Rattle.aq_rules.specs.Listed.Places.{standing_of}
use Rattle.aq_rules.proofs.listed.lists.flags_are_listed.Goals as goal

pub returns : goal.returns
unfolding digits day_text days_of_months days_of_years last_digits month_of standing_of year_of
returns c = record { agreed = refl; denied = refl; unsaid = refl; without = refl; other_code = refl; missed = refl; two_codes = refl; by_its_code = refl; null_code = refl; no_flag = refl; ends = refl }
