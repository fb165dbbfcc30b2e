-- Days taken one by one are cut into the strata of the quarter.
use Rattle.std.proofs.Common.{◌≡◌, ℕ, zero, suc, ◌+◌, ◌-◌, Bool, true, false, ◌||◌, ◌==◌, cond, List, [], ◌∷◌, ◌++◌, map, refl, ap, sym, ◌∙◌, arith}
use Rattle.std.specs.Prelude.{ℤ, Option, Some, None, fold}
use Rattle.std.specs.Option.{option_to_list}
use Rattle.std.specs.List.{filter_map, cons_option, range_with_len}
use Rattle.std.proofs.lemmas.List.{append_assoc}
use Rattle.std.proofs.lemmas.List.Elements.{filter_map-append}
use Rattle.aq_rules.specs.Particles.Strata.{first_day_onto, first_days_after, strata_from}
use Rattle.aq_particles.specs.declared.pm10.site_quarter.DayOfQuarter.{DayOfQuarter}
use Rattle.aq_particles.specs.Pm10.StrataSoFar.{StrataCut, all_ended, with_day, with_sample}
use Rattle.aq_particles.specs.Pm10.QuarterDays.{with_one}

pub one_or_none : (o : Option ℤ) → cons_option o [] ≡ option_to_list o
one_or_none None = refl
one_or_none (Some v) = refl

pub range_more : (a n : ℕ) → range_with_len a (n + 1) ≡ range_with_len a n ++ (a + n) ∷ []
range_more a n = by n a
  where
    by : (n a : ℕ) → range_with_len a (n + 1) ≡ range_with_len a n ++ (a + n) ∷ []
    by zero a = ap (λ (k : ℕ). k ∷ []) (omega arith)
    by (suc n) a =
        let less : suc n + 1 ≡ suc (n + 1) = omega arith in
        let last : a + 1 + n ≡ a + suc n = omega arith in
        ap (range_with_len a) less
        ∙ ap (λ (l : List ℕ). a ∷ l) (by n (a + 1))
        ∙ ap (λ (k : ℕ). a ∷ (range_with_len (a + 1) n ++ k ∷ [])) last

module _ (sample : ℕ → Option ℤ) where
  pub samples_more : (a n : ℕ) → with_sample (sample (a + n)) (filter_map sample (range_with_len a n)) ≡ filter_map sample (range_with_len a (n + 1))
  samples_more a n =
      ap (λ (l : List ℤ). filter_map sample (range_with_len a n) ++ l) (sym (one_or_none (sample (a + n))))
      ∙ sym (filter_map-append sample (range_with_len a n) ((a + n) ∷ []))
      ∙ ap (filter_map sample) (sym (range_more a n))

  module _ (is_scheduled : ℕ → Bool) (day : ℕ → DayOfQuarter) (day_is : (d : ℕ) (cut : StrataCut) → with_one cut (day d) ≡ with_day (is_scheduled d) (sample d) d cut) where
    abbrev pub in_strata : ℕ → List ℕ → List (List ℤ)
    in_strata end firsts = map (filter_map sample) (strata_from end firsts)

    -- the strata of the days from `a` on, where the last one began at the cut's first day
    pub rest_cut : (n k a : ℕ) (cut : StrataCut) → cut.first + k ≡ a → cut.samples ≡ filter_map sample (range_with_len cut.first k)
        → all_ended (fold with_one cut (map day (range_with_len a n))) ≡ cut.ended ++ in_strata (a + n) (cut.first ∷ first_days_after is_scheduled cut.first (range_with_len a n))
    unfolding first_days_after
    rest_cut zero k a cut at samples =
        let long : k ≡ a + 0 - cut.first = omega (arith, at) in
        ap (λ (l : List ℤ). cut.ended ++ l ∷ []) (samples ∙ ap (λ (m : ℕ). filter_map sample (range_with_len cut.first m)) long)
    rest_cut (suc n) k a cut at samples =
        let test : Bool = is_scheduled a || (a == cut.first + 6) in
        let begun : StrataCut = record { ended = cut.ended ++ cut.samples ∷ []; first = a; samples = with_sample (sample a) [] } in
        let going_on : StrataCut = record { ended = cut.ended; first = cut.first; samples = with_sample (sample a) cut.samples } in
        let end : a + 1 + n ≡ a + suc n = omega arith in
        let days : List ℕ = range_with_len (a + 1) n in
        let by : (b : Bool) → all_ended (fold with_one (cond b begun going_on) (map day days)) ≡ cut.ended ++ in_strata (a + suc n) (cut.first ∷ first_day_onto b a (first_days_after is_scheduled (cond b a cut.first) days)) =
        elim [
          | true ↦
              rest_cut n 1 (a + 1) begun refl (sym (one_or_none (sample a)))
              ∙ ap (λ (m : ℕ). (cut.ended ++ cut.samples ∷ []) ++ in_strata m (a ∷ first_days_after is_scheduled a days)) end
              ∙ append_assoc cut.ended (cut.samples ∷ []) (in_strata (a + suc n) (a ∷ first_days_after is_scheduled a days))
              ∙ ap (λ (l : List ℤ). cut.ended ++ l ∷ in_strata (a + suc n) (a ∷ first_days_after is_scheduled a days))
              (samples ∙ ap (λ (m : ℕ). filter_map sample (range_with_len cut.first m)) (omega (arith, at)))
          | false ↦
              rest_cut n (k + 1) (a + 1) going_on (omega (arith, at))
              (ap (λ (l : List ℤ). with_sample (sample a) l) samples
              ∙ ap (λ (d : ℕ). with_sample (sample d) (filter_map sample (range_with_len cut.first k))) (sym at)
              ∙ samples_more cut.first k)
              ∙ ap (λ (m : ℕ). cut.ended ++ in_strata m (cut.first ∷ first_days_after is_scheduled cut.first days)) end
        ]
        in
        ap (λ (c : StrataCut). all_ended (fold with_one c (map day days))) (day_is a cut) ∙ by test
