-- The days of a stratum, and the strata of a quarter, found by their first days among the quarter's days.
use Rattle.std.proofs.Common.{◌≡◌, ℕ, zero, suc, ◌+◌, ◌-◌, ◌<◌, ◌≤◌, Bool, true, false, cond, ◌&&◌, List, [], ◌∷◌, ◌++◌, map, refl, ap, sym, subst, ◌∙◌, arith}
use Rattle.std.specs.Prelude.{◌==◌, nat_le, nat_lt, filter, filter_map, Option, None, ℤ}
use Rattle.std.specs.List.{cons_option, range_with_len}
use Rattle.std.proofs.lemmas.Bool.Decides.{nat_tests}
use Rattle.std.proofs.lemmas.List.Elements.{filter_map-append}
use Rattle.aq_agg.proofs.ItemsOfDays.{range-joined}
use Rattle.aq_agg.specs.StratumSums.{stratum_with}
use Rattle.aq_rules.specs.Particles.Pm10Estimate.{sampled_strata}
use Rattle.aq_rules.specs.Particles.Strata.{begins, first_day_onto, first_days_after, first_days_among, strata_from}
use Rattle.aq_particle_cells.specs.Pm10.Strata.{stratum_of_samples}
use Rattle.aq_dirty.proofs.StratumStarts.{start-by, start_of}
use Rattle.aq_particle_cells.proofs.Pm10Lemmas.StratumStarts.{starts-later}

-- ---- filters of ranges

pub filter-same : (p q : ℕ → Bool) (a n : ℕ) → ((k : ℕ) → a ≤ k → k < a + n → p k ≡ q k) → filter p (range_with_len a n) ≡ filter q (range_with_len a n)
filter-same p q a zero same = refl
filter-same p q a (suc n) same =
    λ i. cond (same a (omega arith) (omega arith) i) (a ∷ filter-same p q (a + 1) n (λ k low high. same k (omega (arith, low)) (omega (arith, high))) i) (filter-same p q (a + 1) n (λ k low high. same k (omega (arith, low)) (omega (arith, high))) i)

pub filter-none : (p : ℕ → Bool) (a n : ℕ) → ((k : ℕ) → a ≤ k → k < a + n → p k ≡ false) → filter p (range_with_len a n) ≡ []
filter-none p a zero none = refl
filter-none p a (suc n) none =
    ap (λ b. cond b (a ∷ filter p (range_with_len (a + 1) n)) (filter p (range_with_len (a + 1) n))) (none a (omega arith) (omega arith))
    ∙ filter-none p (a + 1) n (λ k low high. none k (omega (arith, low)) (omega (arith, high)))

-- the numbers from one to before another
pub filter-between : (low high a n : ℕ) → a ≤ low → low ≤ high → high ≤ a + n → filter (λ k. nat_le low k && nat_lt k high) (range_with_len a n) ≡ range_with_len low (high - low)
filter-between low high a zero from to end = let none : high - low ≡ 0 = omega (arith, from, to, end) in ap (range_with_len low) (sym none)
filter-between low high a (suc n) from to end = by (a == low) refl (λ start from_next to_high. filter-between start high (a + 1) n from_next to_high (omega (arith, end)))
  where
    first : ℕ → List ℕ → List ℕ
    first k rest = cond (nat_le low k && nat_lt k high) (k ∷ rest) rest

    by : (b : Bool) → (a == low) ≡ b
        → ((start : ℕ) → a + 1 ≤ start → start ≤ high → filter (λ k. nat_le start k && nat_lt k high) (range_with_len (a + 1) n) ≡ range_with_len start (high - start))
        → first a (filter (λ k. nat_le low k && nat_lt k high) (range_with_len (a + 1) n)) ≡ range_with_len low (high - low)
    by false is again =
        let before : a + 1 ≤ low = grind (arith, nat_tests, from, is) in
        let off : (nat_le low a && nat_lt a high) ≡ false = grind (arith, nat_tests, before) in
        ap (λ b. cond b (a ∷ filter (λ k. nat_le low k && nat_lt k high) (range_with_len (a + 1) n)) (filter (λ k. nat_le low k && nat_lt k high) (range_with_len (a + 1) n))) off
        ∙ again low before to
    by true is again =
        let here : a ≡ low = grind (arith, nat_tests, is) in
        elim (nat_lt a high) as (λ b. nat_lt a high ≡ b → first a (filter (λ k. nat_le low k && nat_lt k high) (range_with_len (a + 1) n)) ≡ range_with_len low (high - low)) [
          | false ↦ λ none.
              let empty : high - low ≡ 0 = grind (arith, nat_tests, none, here, to) in
              let off : (nat_le low a && nat_lt a high) ≡ false = grind (arith, nat_tests, none) in
              ap (λ b. cond b (a ∷ filter (λ k. nat_le low k && nat_lt k high) (range_with_len (a + 1) n)) (filter (λ k. nat_le low k && nat_lt k high) (range_with_len (a + 1) n))) off
              ∙ filter-none (λ k. nat_le low k && nat_lt k high) (a + 1) n (λ k after within. grind (arith, nat_tests, after, none))
              ∙ ap (range_with_len low) (sym empty)
          | true ↦ λ some.
              let before : a < high = grind (arith, nat_tests, some) in
              let on : (nat_le low a && nat_lt a high) ≡ true = grind (arith, nat_tests, here, before) in
              let many : high - low ≡ suc (high - (a + 1)) = omega (arith, here, before) in
              ap (λ b. cond b (a ∷ filter (λ k. nat_le low k && nat_lt k high) (range_with_len (a + 1) n)) (filter (λ k. nat_le low k && nat_lt k high) (range_with_len (a + 1) n))) on
              ∙ ap (λ l. a ∷ l)
              (filter-same (λ k. nat_le low k && nat_lt k high) (λ k. nat_le (a + 1) k && nat_lt k high) (a + 1) n (λ k after within. grind (arith, nat_tests, after, here))
              ∙ again (a + 1) (omega arith) (omega (arith, before)))
              ∙ ap (λ k. k ∷ range_with_len (k + 1) (high - (a + 1))) here
              ∙ ap (range_with_len low) (sym many)
        ] refl

-- ---- the strata among the quarter's days

module _ (p : ℕ → Bool) (first many : ℕ) (net : ℕ → Option ℤ) where
  abbrev end : ℕ
  end = first + many

  abbrev quarter : List ℕ
  quarter = range_with_len first many

  -- the first day of the stratum that holds a day
  abbrev pub holder : ℕ → ℕ
  holder day = start_of p first (day - first)

  abbrev pub days_in : ℕ → List ℕ
  days_in start = filter (λ day. holder day == start) quarter

  abbrev pub kept_of : ℕ → Option (ℕ × ℕ)
  kept_of start = stratum_of_samples (filter_map net (days_in start))

  -- the days from one to before another are those of a stratum
  pub record IsStratumTo (start stop : ℕ) : Type 0 where
    pub from : first ≤ start
    pub some : start < stop
    pub until : stop ≤ end
    pub here : (day : ℕ) → start ≤ day → day < stop → holder day ≡ start
    pub behind : (day : ℕ) → stop ≤ day → day < end → stop ≤ holder day

  not-after : (day : ℕ) → first ≤ day → holder day ≤ day
  not-after day low = let by = start-by p first (day - first) in omega (arith, by.1, low)

  module _ (start stop : ℕ) (is : IsStratumTo start stop) where
    pub days-are : days_in start ≡ range_with_len start (stop - start)
    days-are =
        filter-same (λ day. holder day == start) (λ day. nat_le start day && nat_lt day stop) first many test
        ∙ (let f = is.from in let s = is.some in let u = is.until in filter-between start stop first many f (omega (arith, s)) u)
      where
        test : (day : ℕ) → first ≤ day → day < first + many → (holder day == start) ≡ (nat_le start day && nat_lt day stop)
        test day low high =
            elim (nat_le start day) as (λ b. nat_le start day ≡ b → (holder day == start) ≡ (b && nat_lt day stop)) [
              | false ↦ λ off. let before : day < start = grind (arith, nat_tests, off) in let by = not-after day low in grind (arith, nat_tests, before, by)
              | true ↦ λ on.
                  let after : start ≤ day = grind (arith, nat_tests, on) in
                  elim (nat_lt day stop) as (λ b. nat_lt day stop ≡ b → (holder day == start) ≡ b) [
                    | true ↦ λ inside. let before : day < stop = grind (arith, nat_tests, inside) in let h = is.here day after before in grind (arith, nat_tests, h)
                    | false ↦ λ outside. let past : stop ≤ day = grind (arith, nat_tests, outside) in let h = is.behind day past high in let s = is.some in grind (arith, nat_tests, h, s)
                  ] refl
            ] refl

    -- no stratum starts behind its first day
    none-inside : (d : ℕ) → start < d → d < stop → days_in d ≡ []
    none-inside d low high = filter-none (λ day. holder day == d) first many test
      where
        test : (day : ℕ) → first ≤ day → day < first + many → (holder day == d) ≡ false
        test day from to =
            elim (nat_lt day d) as (λ b. nat_lt day d ≡ b → (holder day == d) ≡ false) [
              | true ↦ λ before. let b : day < d = grind (arith, nat_tests, before) in let by = not-after day from in grind (arith, nat_tests, b, by)
              | false ↦ λ after.
                  let a : d ≤ day = grind (arith, nat_tests, after) in
                  elim (nat_lt day stop) as (λ b. nat_lt day stop ≡ b → (holder day == d) ≡ false) [
                    | true ↦ λ inside. let i : day < stop = grind (arith, nat_tests, inside) in let h = is.here day (omega (arith, a, low)) i in grind (arith, nat_tests, h, low)
                    | false ↦ λ outside. let past : stop ≤ day = grind (arith, nat_tests, outside) in let h = is.behind day past to in grind (arith, nat_tests, h, high)
                  ] refl
            ] refl

    none-kept : (a n : ℕ) → start < a → a + n ≤ stop → filter_map kept_of (range_with_len a n) ≡ []
    none-kept a zero low high = refl
    none-kept a (suc n) low high =
        let none : kept_of a ≡ None = ap (λ (l : List ℕ). stratum_of_samples (filter_map net l)) (none-inside a low (omega (arith, high))) in
        ap (λ (o : Option (ℕ × ℕ)). cons_option o (filter_map kept_of (range_with_len (a + 1) n))) none
        ∙ none-kept (a + 1) n (omega (arith, low)) (omega (arith, high))

    one-stratum : (values : List ℤ) → cons_option (stratum_of_samples values) [] ≡ map stratum_with (sampled_strata (values ∷ []))
    one-stratum [] = refl
    one-stratum (v ∷ values) = refl

    -- so it is kept under that day alone
    pub piece : filter_map kept_of (range_with_len start (stop - start)) ≡ map stratum_with (sampled_strata (filter_map net (range_with_len start (stop - start)) ∷ []))
    piece =
        let s = is.some in
        let all : stop - start ≡ suc (stop - (start + 1)) = omega (arith, s) in
        ap (λ n. filter_map kept_of (range_with_len start n)) all
        ∙ ap (λ (l : List (ℕ × ℕ)). cons_option (kept_of start) l) (none-kept (start + 1) (stop - (start + 1)) (omega arith) (omega (arith, s)))
        ∙ ap (λ (l : List ℕ). cons_option (stratum_of_samples (filter_map net l)) []) days-are
        ∙ one-stratum (filter_map net (range_with_len start (stop - start)))

  -- ---- all strata of the quarter

  abbrev totals : List (List ℕ) → List (ℕ × ℕ)
  totals strata = map stratum_with (sampled_strata (map (filter_map net) strata))

  totals-cons : (days : List ℕ) (strata : List (List ℕ)) → totals (days ∷ strata) ≡ map stratum_with (sampled_strata (filter_map net days ∷ [])) ++ totals strata
  totals-cons days strata = by (filter_map net days)
    where
      by : (values : List ℤ) → map stratum_with (sampled_strata (values ∷ map (filter_map net) strata)) ≡ map stratum_with (sampled_strata (values ∷ [])) ++ totals strata
      by [] = refl
      by (v ∷ values) = refl

  -- the days of the stratum that holds the day so many days after the first are in it so far
  record SoFar (k : ℕ) : Type 0 where
    here : (day : ℕ) → start_of p first k ≤ day → day ≤ first + k → holder day ≡ start_of p first k

  holder-at : (k : ℕ) → holder (first + k) ≡ start_of p first k
  holder-at k = let back : first + k - first ≡ k = omega arith in ap (start_of p first) back

  later-on : (k j : ℕ) → start_of p first k ≡ first + k → first + k ≤ start_of p first (k + j)
  later-on k j begun = starts-later p first k j begun

  behind-start : (k : ℕ) → start_of p first k ≡ first + k → (day : ℕ) → first + k ≤ day → day < end → first + k ≤ holder day
  behind-start k begun day low high =
      let place : day - first ≡ k + (day - (first + k)) = omega (arith, low) in
      subst (λ n. first + k ≤ start_of p first n) (sym place) (later-on k (day - (first + k)) begun)

  so-far-more : (k : ℕ) (b : Bool) → begins p (start_of p first k) (first + suc k) ≡ b → SoFar k → SoFar (suc k)
  unfolding start_of
  so-far-more k true is so_far =
      let next : start_of p first (suc k) ≡ first + suc k = ap (λ b. cond b (first + suc k) (start_of p first k)) is in
      record { here = λ day low high. (let same : day ≡ first + suc k = omega (arith, next, low, high) in ap holder same ∙ holder-at (suc k)) }
  so-far-more k false is so_far =
      let next : start_of p first (suc k) ≡ start_of p first k = ap (λ b. cond b (first + suc k) (start_of p first k)) is in
      record { here = λ day low high. by day low high (nat_le day (first + k)) refl next }
    where
      by : (day : ℕ) → start_of p first (suc k) ≤ day → day ≤ first + suc k → (b : Bool) → nat_le day (first + k) ≡ b → start_of p first (suc k) ≡ start_of p first k → holder day ≡ start_of p first (suc k)
      by day low high true inside next =
          let within : day ≤ first + k = grind (arith, nat_tests, inside) in
          so_far.here day (omega (arith, next, low)) within ∙ sym next
      by day low high false outside next =
          let last : day ≡ first + suc k = grind (arith, nat_tests, outside, high) in
          ap holder last ∙ holder-at (suc k)

  strata-rest : (n k : ℕ) → first + suc k + n ≡ end → SoFar k
      → filter_map kept_of (range_with_len (start_of p first k) (end - start_of p first k)) ≡ totals (strata_from end (start_of p first k ∷ first_days_after p (start_of p first k) (range_with_len (first + suc k) n)))
  unfolding first_days_after start_of
  strata-rest zero k at so_far =
      let by = start-by p first k in
      piece (start_of p first k) end (record {
        from = by.0;
        some = omega (arith, by.1, at);
        until = omega arith;
        here = λ day low high. so_far.here day low (omega (arith, high, at));
        behind = λ day low high. absurd (omega (arith, low, high));
      })
  strata-rest (suc n) k at so_far = step (begins p (start_of p first k) (first + suc k)) refl (strata-rest n (suc k) (omega (arith, at)))
    where
      step : (b : Bool) → begins p (start_of p first k) (first + suc k) ≡ b
          → (SoFar (suc k) → filter_map kept_of (range_with_len (start_of p first (suc k)) (end - start_of p first (suc k)))
          ≡ totals (strata_from end (start_of p first (suc k) ∷ first_days_after p (start_of p first (suc k)) (range_with_len (first + suc (suc k)) n))))
          → filter_map kept_of (range_with_len (start_of p first k) (end - start_of p first k))
          ≡ totals (strata_from end (start_of p first k ∷ first_day_onto b (first + suc k) (first_days_after p (cond b (first + suc k) (start_of p first k)) (range_with_len (first + suc k + 1) n))))
      step false is again =
          let next : start_of p first (suc k) ≡ start_of p first k = ap (λ b. cond b (first + suc k) (start_of p first k)) is in
          let a : first + suc k + 1 ≡ first + suc (suc k) = omega arith in
          ap (λ s. filter_map kept_of (range_with_len s (end - s))) (sym next)
          ∙ again (so-far-more k false is so_far)
          ∙ (λ i. totals (strata_from end (next i ∷ first_days_after p (next i) (range_with_len (sym a i) n))))
      step true is again =
          let next : start_of p first (suc k) ≡ first + suc k = ap (λ b. cond b (first + suc k) (start_of p first k)) is in
          let a : first + suc k + 1 ≡ first + suc (suc k) = omega arith in
          let by = start-by p first k in
          let whole : end - start_of p first k ≡ (first + suc k - start_of p first k) + (end - (first + suc k)) = omega (arith, by.1, at) in
          let middle : start_of p first k + (first + suc k - start_of p first k) ≡ first + suc k = omega (arith, by.1) in
          ap (λ m. filter_map kept_of (range_with_len (start_of p first k) m)) whole
          ∙ ap (filter_map kept_of) (range-joined (start_of p first k) (first + suc k - start_of p first k) (end - (first + suc k)))
          ∙ filter_map-append kept_of (range_with_len (start_of p first k) (first + suc k - start_of p first k)) (range_with_len (start_of p first k + (first + suc k - start_of p first k)) (end - (first + suc k)))
          ∙ (λ i. first_piece i ++ filter_map kept_of (range_with_len (middle i) (end - (first + suc k))))
          ∙ ap (λ l. map stratum_with (sampled_strata (filter_map net (range_with_len (start_of p first k) (first + suc k - start_of p first k)) ∷ [])) ++ l)
          (ap (λ s. filter_map kept_of (range_with_len s (end - s))) (sym next)
          ∙ again (so-far-more k true is so_far)
          ∙ (λ i. totals (strata_from end (next i ∷ first_days_after p (next i) (range_with_len (sym a i) n)))))
          ∙ sym (totals-cons (range_with_len (start_of p first k) (first + suc k - start_of p first k)) (strata_from end ((first + suc k) ∷ first_days_after p (first + suc k) (range_with_len (first + suc k + 1) n))))
        where
          begun : start_of p first (suc k) ≡ first + suc k
          begun = ap (λ b. cond b (first + suc k) (start_of p first k)) is

          first_piece : filter_map kept_of (range_with_len (start_of p first k) (first + suc k - start_of p first k))
              ≡ map stratum_with (sampled_strata (filter_map net (range_with_len (start_of p first k) (first + suc k - start_of p first k)) ∷ []))
          first_piece =
              let by = start-by p first k in
              piece (start_of p first k) (first + suc k) (record {
                from = by.0;
                some = omega (arith, by.1);
                until = omega (arith, at);
                here = λ day low high. so_far.here day low (omega (arith, high));
                behind = behind-start (suc k) begun;
              })

  -- what is kept under the first days of a quarter is what its strata with samples have
  strata-whole : (n : ℕ) → many ≡ suc n → filter_map kept_of (range_with_len first (suc n)) ≡ totals (strata_from end (first ∷ first_days_after p first (range_with_len (first + 1) n)))
  unfolding start_of
  strata-whole n is =
      let all : end - first ≡ suc n = omega (arith, is) in
      ap (λ m. filter_map kept_of (range_with_len first m)) (sym all)
      ∙ strata-rest n 0 (omega (arith, is)) (record { here = λ day low high. (let same : day ≡ first + 0 = omega (arith, low, high) in ap holder same ∙ holder-at 0) })

  pub strata-kept : filter_map kept_of quarter ≡ totals (strata_from end (first_days_among p quarter))
  strata-kept = by many refl
    where
      by : (n : ℕ) → many ≡ n → filter_map kept_of (range_with_len first n) ≡ totals (strata_from end (first_days_among p (range_with_len first n)))
      by zero is = refl
      by (suc n) is = strata-whole n is
