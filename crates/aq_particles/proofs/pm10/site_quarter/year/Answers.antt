use Rattle.std.proofs.Common.{◌≡◌, ℕ, [], ◌∷◌, ap, ◌∙◌}
use Rattle.aq_base.specs.Calendar.{quarter_number}
use Rattle.aq_base.specs.Site.{Site}
use Rattle.aq_rules.specs.Office.Office.{Office}
use Rattle.aq_rules.specs.Particles.Pm10Estimate.{Pm10Quarter, pm10_quarter, pm10_year}
use Rattle.aq_series.specs.OfficeView.{office_of}
use Rattle.aq_particles.proofs.pm10.site_quarter.year.Goals as goal

module _ (office : Office) (site : Site) where
  of-part : (quarter : Pm10Quarter) (number year part : ℕ) → quarter ≡ pm10_quarter office site number → number ≡ quarter_number year part → quarter ≡ pm10_quarter office site (quarter_number year part)
  of-part quarter number year part is at = is ∙ ap (pm10_quarter office site) at

  year-is : (year : ℕ) (a b c d : Pm10Quarter) → a ≡ pm10_quarter office site (quarter_number year 0) → b ≡ pm10_quarter office site (quarter_number year 1) → c ≡ pm10_quarter office site (quarter_number year 2) → d ≡ pm10_quarter office site (quarter_number year 3) → a ∷ b ∷ c ∷ d ∷ [] ≡ pm10_year office site year
  unfolding pm10_year
  year-is year a b c d is_a is_b is_c is_d = λ i. is_a i ∷ is_b i ∷ is_c i ∷ is_d i ∷ []

pub returns : goal.returns
returns g c =
    let office = office_of c.args.registry.now c.args.shelf.now in
    c.new.ensures
    ∙ year-is office c.args.site c.args.year c.quarter-first.result c.quarter-second.result c.quarter-third.result c.quarter-fourth.result
    (of-part office c.args.site c.quarter-first.result c.quarter_in.result c.args.year 0 c.quarter-first.ensures c.quarter_in.ensures)
    (of-part office c.args.site c.quarter-second.result c.quarter_in-2.result c.args.year 1 c.quarter-second.ensures c.quarter_in-2.ensures)
    (of-part office c.args.site c.quarter-third.result c.quarter_in-3.result c.args.year 2 c.quarter-third.ensures c.quarter_in-3.ensures)
    (of-part office c.args.site c.quarter-fourth.result c.quarter_in-4.result c.args.year 3 c.quarter-fourth.ensures c.quarter_in-4.ensures)
