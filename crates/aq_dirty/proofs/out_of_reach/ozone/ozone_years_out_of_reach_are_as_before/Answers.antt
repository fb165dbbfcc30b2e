use Rattle.std.proofs.Common.{refl}
use Rattle.aq_base.specs.Calendar.{year_of}
use Rattle.aq_dirty.proofs.OutOfReachLemmas.Years.{day-same, valid-same, days-same, year-same}
use Rattle.aq_dirty.proofs.out_of_reach.ozone.ozone_years_out_of_reach_are_as_before.Goals as goal

pub returns : goal.returns
returns c = record {
  day = λ a b site day valid after out. day-same a b site (year_of day) valid after out day refl;
  counts = λ a b site day valid after out. valid-same a b site (year_of day) valid after out day refl;
  days = λ a b site year inside valid after out. days-same a b site year valid after out inside;
  year = λ a b site year inside valid after out. year-same a b site year valid after out inside;
}
