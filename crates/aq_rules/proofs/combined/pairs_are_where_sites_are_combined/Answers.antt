use Rattle.std.proofs.Common.{◌≡◌, refl}
use Rattle.std.specs.Prelude.{Option, Some, None, option_map, is_some}
use Rattle.aq_base.specs.Site.{Site}
use Rattle.aq_base.specs.declared.monitor.Pollutant.TheVariants.{Ozone, Pm25}
use Rattle.aq_base.specs.declared.standard.Standard.TheVariants.{Ozone2015, Annual2012, AnnualSecondary, Annual2024, Daily2006, Pm10Of1987}
use Rattle.aq_rules.specs.Office.Questions.{Joined, combined}
use Rattle.aq_rules.specs.Combined.Pair.{Pair, pair_windows, pair_value}
use Rattle.aq_rules.proofs.combined.pairs_are_where_sites_are_combined.Goals as goal

some-pair : {B : Type 0} (f : Pair → B) (site : Site) (o : Option Joined)
    → is_some (option_map f (option_map (λ (j : Joined). record { site = site; joined = j.site; from = j.from }) o)) ≡ is_some o
some-pair f site None = refl
some-pair f site (Some j) = refl

pub returns-clause-averages : goal.returns-clause-averages
unfolding pair_windows
returns-clause-averages c office site day = some-pair _ site (combined office.records site Ozone)

pub returns-clause-values : goal.returns-clause-values
unfolding pair_value
returns-clause-values c Ozone2015 office site year other = some-pair _ site (combined office.records site Ozone)
returns-clause-values c Annual2012 office site year other = some-pair _ site (combined office.records site Pm25)
returns-clause-values c AnnualSecondary office site year other = some-pair _ site (combined office.records site Pm25)
returns-clause-values c Annual2024 office site year other = some-pair _ site (combined office.records site Pm25)
returns-clause-values c Daily2006 office site year other = some-pair _ site (combined office.records site Pm25)
returns-clause-values c Pm10Of1987 office site year other = cc

pub returns-clause-pm10 : goal.returns-clause-pm10
unfolding pair_value
returns-clause-pm10 c office site year = refl
