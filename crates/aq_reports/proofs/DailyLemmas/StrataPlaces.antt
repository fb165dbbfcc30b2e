-- The place of a day among the strata of its quarter, as the strata begin day by day.
use Rattle.std.proofs.Common.{◌≡◌, ℕ, zero, suc, ◌+◌, ◌<◌, ◌≤◌, Bool, true, false, cond, ◌||◌, ◌==◌, List, [], ◌∷◌, length, refl, ap, sym, ◌∙◌, arith}
use Rattle.std.specs.Prelude.{filter, nat_le}
use Rattle.std.specs.List.{range_with_len}
use Rattle.std.proofs.lemmas.Bool.Decides.{nat_tests}
use Rattle.aq_rules.specs.Particles.Strata.{first_day_onto, first_days_after, first_days_among}
use Rattle.aq_reports.specs.Daily.StrataBegun.{with_day}
use Rattle.aq_reports.specs.declared.daily.strata.Begun.{Begun}

itself : (n : ℕ) → (n == n) ≡ true
itself n = grind (arith, nat_tests)

no_later : (a d : ℕ) → a ≤ d → nat_le a d ≡ true
no_later a d h = grind (arith, nat_tests)

later : (a d : ℕ) → d < a → nat_le a d ≡ false
later a d h = grind (arith, nat_tests)

always : (b : Bool) → (b || true) ≡ true
always true = refl
always false = refl

pub one-more-at-most : (scheduled : Bool) (day : ℕ) (begun : Begun) → (with_day scheduled day begun).strata ≤ begun.strata + 1
one-more-at-most scheduled day begun = by (scheduled || (day == begun.end))
  where
    by : (b : Bool) → (cond b (record { strata = begun.strata + 1; end = day + 6 }) begun).strata ≤ begun.strata + 1
    by true = omega arith
    by false = omega arith

module _ (asks : ℕ → Bool) where
  -- those of these days that begin a stratum, if the next one begins on a day at the latest
  abbrev pub starts_by : ℕ → List ℕ → List ℕ
  starts_by end [] = []
  starts_by end (day ∷ days) = first_day_onto (asks day || (day == end)) day (starts_by (cond (asks day || (day == end)) (day + 6) end) days)

  -- ---- they are the first days of strata

  after : (start : ℕ) (days : List ℕ) → starts_by (start + 6) days ≡ first_days_after asks start days
  unfolding first_days_after
  after start [] = refl
  after start (day ∷ days) = by (asks day || (day == start + 6)) (after day days) (after start days)
    where
      by : (b : Bool) → starts_by (day + 6) days ≡ first_days_after asks day days → starts_by (start + 6) days ≡ first_days_after asks start days
          → first_day_onto b day (starts_by (cond b (day + 6) (start + 6)) days) ≡ first_day_onto b day (first_days_after asks (cond b day start) days)
      by true there here = ap (λ (l : List ℕ). day ∷ l) there
      by false there here = here

  pub all-starts : (first many : ℕ) → starts_by first (range_with_len first many) ≡ first_days_among asks (range_with_len first many)
  all-starts first zero = refl
  all-starts first (suc n) =
      let rest : List ℕ = range_with_len (first + 1) n in
      let begins : (asks first || (first == first)) ≡ true = ap (λ b. asks first || b) (itself first) ∙ always (asks first) in
      ap (λ b. first_day_onto b first (starts_by (cond b (first + 6) first) rest)) begins
      ∙ ap (λ (l : List ℕ). first ∷ l) (after first rest)

  -- ---- how many begin by a day

  abbrev pub up_to : ℕ → List ℕ → ℕ
  up_to d starts = length (filter (λ s. nat_le s d) starts)

  none-later : (d end a n : ℕ) → d < a → up_to d (starts_by end (range_with_len a n)) ≡ 0
  none-later d end a zero h = refl
  none-later d end a (suc n) h = by (asks a || (a == end)) (none-later d (a + 6) (a + 1) n (omega (arith, h))) (none-later d end (a + 1) n (omega (arith, h)))
    where
      rest : ℕ → List ℕ
      rest next = starts_by next (range_with_len (a + 1) n)

      by : (b : Bool) → up_to d (rest (a + 6)) ≡ 0 → up_to d (rest end) ≡ 0 → up_to d (first_day_onto b a (rest (cond b (a + 6) end))) ≡ 0
      by true there here =
          ap (λ b. length (cond b (a ∷ filter (λ s. nat_le s d) (rest (a + 6))) (filter (λ s. nat_le s d) (rest (a + 6))))) (later a d h) ∙ there
      by false there here = here

  -- of the days from the first on those before `a` are done: what has begun, with what begins later, is all that begins
  abbrev pub StandsAt : List ℕ → ℕ → ℕ → Begun → Type 0
  StandsAt all a left begun = (d : ℕ) → a ≤ d + 1 → up_to d all ≡ begun.strata + up_to d (starts_by begun.end (range_with_len a left))

  pub stands-first : (all : List ℕ) (first many : ℕ) (begun : Begun) → begun.strata ≡ 0 → begun.end ≡ first → all ≡ starts_by first (range_with_len first many) → StandsAt all first many begun
  stands-first all first many begun none end are d within =
      let same : up_to d all ≡ up_to d (starts_by begun.end (range_with_len first many)) = ap (up_to d) are ∙ ap (λ e. up_to d (starts_by e (range_with_len first many))) (sym end) in
      omega (arith, none, same)

  pub stands-next : (all : List ℕ) (a n : ℕ) (begun : Begun) → StandsAt all a (suc n) begun → StandsAt all (a + 1) n (with_day (asks a) a begun)
  stands-next all a n begun stands d within = by (asks a || (a == begun.end)) (stands d (omega (arith, within)))
    where
      rest : ℕ → List ℕ
      rest end = starts_by end (range_with_len (a + 1) n)

      by : (b : Bool) → up_to d all ≡ begun.strata + up_to d (first_day_onto b a (starts_by (cond b (a + 6) begun.end) (range_with_len (a + 1) n)))
          → up_to d all ≡ (cond b (record { strata = begun.strata + 1; end = a + 6 }) begun).strata + up_to d (starts_by (cond b (record { strata = begun.strata + 1; end = a + 6 }) begun).end (range_with_len (a + 1) n))
      by true held =
          let counted : up_to d (a ∷ rest (a + 6)) ≡ suc (up_to d (rest (a + 6))) =
          ap (λ b. length (cond b (a ∷ filter (λ s. nat_le s d) (rest (a + 6))) (filter (λ s. nat_le s d) (rest (a + 6))))) (no_later a d (omega (arith, within))) in
          omega (arith, held, counted)
      by false held = held

  -- so the strata that have begun are the place of the last day
  pub place-is : (all : List ℕ) (a n : ℕ) (begun : Begun) → StandsAt all (a + 1) n begun → begun.strata ≡ up_to a all
  place-is all a n begun stands =
      omega (arith, stands a (omega arith), none-later a begun.end (a + 1) n (omega arith))
