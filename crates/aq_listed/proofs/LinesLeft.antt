-- The lines of the rows that are still to be gone through.
use Rattle.std.proofs.Common.{◌≡◌, ℕ, Bool, true, false, cond, List, ◌∷◌, ◌++◌, refl, ap, ◌∙◌}
use Rattle.std.specs.Prelude.{filter, flat_map}
use Rattle.std.proofs.lemmas.List.Concat.{flat_map-cons}
use Rattle.aq_base.specs.Site.{Site}
use Rattle.aq_base.specs.declared.monitor.Pollutant.{Pollutant}
use Rattle.aq_base.specs.declared.observation.ObsKey.{ObsKey}
use Rattle.aq_base.specs.declared.observation.Observation.{Observation}
use Rattle.aq_rules.specs.Office.Office.{Office}
use Rattle.aq_rules.specs.Listed.Places.{is_in_year, is_of_series, standing_of}
use Rattle.aq_rules.specs.Listed.ObservationLines.{lines_answer, observation_text}

abbrev pub Entry : Type 0
Entry = ObsKey × Observation

module _ (office : Office) (site : Site) (pollutant : Pollutant) (year : ℕ) where
  abbrev pub left : List Entry → List ℕ
  left rows = flat_map (observation_text office) (filter (is_in_year year) (filter (is_of_series site pollutant) rows))

  pub left_all : left office.observations ≡ lines_answer office site pollutant year
  unfolding lines_answer standing_of
  left_all = refl

  module _ (row : Entry) (rows : List Entry) where
    of_series : (b : Bool) → is_of_series site pollutant row ≡ b
        → left (row ∷ rows) ≡ flat_map (observation_text office) (filter (is_in_year year) (cond b (row ∷ filter (is_of_series site pollutant) rows) (filter (is_of_series site pollutant) rows)))
    of_series b is = ap (λ t. flat_map (observation_text office) (filter (is_in_year year) (cond t (row ∷ filter (is_of_series site pollutant) rows) (filter (is_of_series site pollutant) rows)))) is

    of_year : (b : Bool) → is_of_series site pollutant row ≡ true → is_in_year year row ≡ b
        → left (row ∷ rows) ≡ flat_map (observation_text office) (cond b (row ∷ filter (is_in_year year) (filter (is_of_series site pollutant) rows)) (filter (is_in_year year) (filter (is_of_series site pollutant) rows)))
    of_year b here is =
        of_series true here
        ∙ ap (λ t. flat_map (observation_text office) (cond t (row ∷ filter (is_in_year year) (filter (is_of_series site pollutant) rows)) (filter (is_in_year year) (filter (is_of_series site pollutant) rows)))) is

    pub left_kept : is_of_series site pollutant row ≡ true → is_in_year year row ≡ true → left (row ∷ rows) ≡ observation_text office row ++ left rows
    left_kept here now = of_year true here now ∙ flat_map-cons (observation_text office) row (filter (is_in_year year) (filter (is_of_series site pollutant) rows))

    pub left_elsewhere : is_of_series site pollutant row ≡ false → left (row ∷ rows) ≡ left rows
    left_elsewhere other = of_series false other

    pub left_other_year : is_of_series site pollutant row ≡ true → is_in_year year row ≡ false → left (row ∷ rows) ≡ left rows
    left_other_year here other = of_year false here other
