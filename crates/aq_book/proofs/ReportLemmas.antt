-- The rows of a report, site after site.
use Rattle.std.proofs.Common.{◌≡◌, ℕ, List, [], ◌∷◌, ◌++◌, map, ap, ◌∙◌}
use Rattle.std.proofs.lemmas.List.{append_assoc, map-append}
use Rattle.aq_base.specs.Site.{Site}
use Rattle.aq_base.specs.declared.standard.Standard.{Standard}
use Rattle.aq_rules.specs.DesignValues.{DesignValue as Design, design_value}
use Rattle.aq_rules.specs.Office.Office.{Office}
use Rattle.aq_verdict.specs.Designs.{design_of}
use Rattle.aq_verdict.specs.declared.design_value.DesignValue.{DesignValue}
use Rattle.aq_book.specs.Questions.{valued, valued_in}

module _ (standard : Standard) (office : Office) (year : ℕ) where
  -- one more site has its value
  pub valued-more : (values : List (Site × DesignValue)) (site : Site) (value : DesignValue) (behind : List Site) → design_of value ≡ design_value standard office site year
      → map valued_in (values ++ (site, value) ∷ []) ++ map (valued standard office year) behind ≡ map valued_in values ++ map (valued standard office year) (site ∷ behind)
  valued-more values site value behind is =
      ap (λ (l : List (Site × Design)). l ++ map (valued standard office year) behind) (map-append valued_in values ((site, value) ∷ []))
      ∙ append_assoc (map valued_in values) (valued_in (site, value) ∷ []) (map (valued standard office year) behind)
      ∙ (λ i. map valued_in values ++ (site, is i) ∷ map (valued standard office year) behind)
