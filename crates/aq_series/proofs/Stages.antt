-- The walk over the POCs, as far as it has come, and where it ends.
use Rattle.std.proofs.Common.{◌≡◌, ℕ, suc, ◌+◌, ◌<◌, ◌≤◌, true, false, cond, Some, None, Option, List, [], ◌∷◌, ◌++◌, length, refl, ap, sym, ◌∙◌, arith, append_assoc}
use Rattle.std.specs.Prelude.{find, ◌==◌, IsTrue}
use Rattle.std.specs.List.{filter_map, cons_option}
use Rattle.std.specs.Option.{option_eq, option_or}
use Rattle.std.proofs.lemmas.Bool.Decides.{nat_tests}
use Rattle.std.proofs.lemmas.List.{append-nil}
use Rattle.std.proofs.lemmas.List.Folds.{find-append}
use Rattle.aq_base.specs.Calendar.{day_of_hour}
use Rattle.aq_base.specs.Site.{Site}
use Rattle.aq_base.specs.declared.monitor.Pollutant.TheVariants.{Ozone}
use Rattle.aq_base.specs.declared.observation.ObsKey.{ObsKey}
use Rattle.aq_base.specs.declared.observation.Observation.{Observation}
use Rattle.aq_base.specs.declared.office.OfficeRecord.{OfficeRecord}
use Rattle.aq_rules.specs.Office.Designation.{primary_on}
use Rattle.aq_rules.specs.Office.Office.{IsOffice, observation_rank, rises}
use Rattle.aq_rules.specs.Office.Questions.{next_poc}
use Rattle.aq_rules.specs.Ozone.SiteHour.{Cell, Sample, chosen, is_of_poc, mean_of, site_hour}
use Rattle.aq_registry.specs.Registry.{office_with}
use Rattle.aq_series.specs.declared.tally.Tally.{Tally}
use Rattle.aq_series.specs.OfficeView.{office_of}
use Rattle.aq_series.specs.Samples.{IsTally, pocs_above, sample_at, samples_above}
use Rattle.aq_series.proofs.Pocs.{pocs-end, pocs-few, pocs-next}
use Rattle.aq_series.proofs.Walk.{samples-are}

flipped : (m n : ℕ) → (m == n) ≡ (n == m)
flipped m n = grind (arith, nat_tests)

-- the primary's sample is the one of its POC
pub of_poc : (primary : Option ℕ) (poc : ℕ) (cell : Cell) → option_eq (λ m n. m == n) primary (Some poc) ≡ is_of_poc primary (record { poc = poc; cell = cell })
of_poc None poc cell = refl
of_poc (Some p) poc cell = flipped p poc

module _ (records : List OfficeRecord) (rows : List (ObsKey × Observation)) (site : Site) (hour : ℕ) (primary : Option ℕ) where
  -- the samples of the POCs so far, none of which is the primary's
  pub record Walked (after : ℕ) (tally : Tally) : Type 0 where
    pub before : List Sample
    pub tallied : IsTally before tally
    pub whole : before ++ samples_above records rows site hour after ≡ samples_above records rows site hour 0
    pub none : find (is_of_poc primary) before ≡ None
    pub few : tally.count + length (pocs_above records site after) ≤ length (pocs_above records site 0)

  pub walked-none : (tally : Tally) → IsTally [] tally → Walked 0 tally
  walked-none tally is = record {
    before = [];
    tallied = is;
    whole = refl;
    none = refl;
    few = omega (arith, is.count);
  }

  -- ---- one more POC

  module _ (after poc : ℕ) (tally : Tally) (valid : IsOffice (office_with records)) (next : next_poc records site Ozone after ≡ Some poc) (walked : Walked after tally) where
    listed : pocs_above records site after ≡ poc ∷ pocs_above records site poc
    listed = pocs-next site records after poc valid.keys_rise.records next

    fewer : length (pocs_above records site after) ≡ suc (length (pocs_above records site poc))
    fewer = ap length listed

    pub room : tally.count < 8
    room = omega (arith, walked.few, fewer, pocs-few site records valid)

    samples : (o : Option Sample) → sample_at records rows site hour poc ≡ o → samples_above records rows site hour after ≡ cons_option o (samples_above records rows site hour poc)
    samples o is = ap (filter_map (sample_at records rows site hour)) listed ∙ ap (λ p. cons_option p (samples_above records rows site hour poc)) is

    -- a monitor without a sample
    pub walked-past : sample_at records rows site hour poc ≡ None → Walked poc tally
    walked-past is = record {
      before = walked.before;
      tallied = walked.tallied;
      whole = ap (λ (l : List Sample). walked.before ++ l) (sym (samples None is)) ∙ walked.whole;
      none = walked.none;
      few = omega (arith, walked.few, fewer);
    }

    module _ (s : Sample) (given : sample_at records rows site hour poc ≡ Some s) where
      onto : walked.before ++ s ∷ samples_above records rows site hour poc ≡ samples_above records rows site hour 0
      onto = ap (λ (l : List Sample). walked.before ++ l) (sym (samples (Some s) given)) ∙ walked.whole

      -- a sample of another than the primary
      pub walked-more : (more : Tally) → is_of_poc primary s ≡ false → IsTally (walked.before ++ s ∷ []) more → more.count ≡ tally.count + 1 → Walked poc more
      walked-more more other is count = record {
        before = walked.before ++ s ∷ [];
        tallied = is;
        whole = append_assoc walked.before (s ∷ []) (samples_above records rows site hour poc) ∙ onto;
        none =
            find-append (is_of_poc primary) walked.before (s ∷ []) ∙ ap (λ o. option_or o (find (is_of_poc primary) (s ∷ []))) walked.none
            ∙ ap (λ b. cond b (Some s) None) other;
        few = omega (arith, walked.few, fewer, count);
      }

      -- the primary's sample
      pub primary-found : is_of_poc primary s ≡ true → find (is_of_poc primary) (samples_above records rows site hour 0) ≡ Some s
      primary-found is =
          ap (find (is_of_poc primary)) (sym onto)
          ∙ find-append (is_of_poc primary) walked.before (s ∷ samples_above records rows site hour poc)
          ∙ ap (λ o. option_or o (find (is_of_poc primary) (s ∷ samples_above records rows site hour poc))) walked.none
          ∙ ap (λ b. cond b (Some s) (find (is_of_poc primary) (samples_above records rows site hour poc))) is

  -- ---- the end

  -- those of the walk are all
  pub walked-all : (after : ℕ) (tally : Tally) (walked : Walked after tally) → next_poc records site Ozone after ≡ None → walked.before ≡ samples_above records rows site hour 0
  walked-all after tally walked end =
      let none : samples_above records rows site hour after ≡ [] = ap (filter_map (sample_at records rows site hour)) (pocs-end site records after end) in
      sym (append-nil walked.before) ∙ ap (λ (l : List Sample). walked.before ++ l) (sym none) ∙ walked.whole

  module _ (valid : IsOffice (office_with records)) (rising : IsTrue (rises observation_rank rows)) (is : primary ≡ primary_on records site Ozone (day_of_hour hour)) where
    pub hour-is : site_hour (office_of records rows) site hour ≡ chosen (find (is_of_poc primary) (samples_above records rows site hour 0)) (samples_above records rows site hour 0)
    unfolding site_hour
    hour-is =
        (λ i. chosen (find (is_of_poc (sym is i)) (samples-are records rows site hour valid rising i)) (samples-are records rows site hour valid rising i))

    pub hour-mean : (after : ℕ) (tally : Tally) (walked : Walked after tally) → next_poc records site Ozone after ≡ None → mean_of walked.before ≡ site_hour (office_of records rows) site hour
    hour-mean after tally walked end =
        ap (λ o. chosen o walked.before) (sym walked.none)
        ∙ ap (λ (l : List Sample). chosen (find (is_of_poc primary) l) l) (walked-all after tally walked end) ∙ sym hour-is

    pub hour-primary : (s : Sample) → find (is_of_poc primary) (samples_above records rows site hour 0) ≡ Some s → Some s.cell ≡ site_hour (office_of records rows) site hour
    hour-primary s found = ap (λ o. chosen o (samples_above records rows site hour 0)) (sym found) ∙ sym hour-is
