-- Values from -999 up to a bound stay there under the means, the choices and the rankings of the standards.
use Rattle.std.proofs.Common.{◌≡◌, ℕ, suc, zero, ◌*◌, ◌/◌, ◌<◌, ◌≤◌, Bool, true, false, ◌&&◌, cond, List, [], ◌∷◌, length, map, refl, subst, arith}
use Rattle.std.specs.Prelude.{ℤ, pos, negsuc, neg_ℤ, ◌≤ℤ◌, int_le, int_lt, Option, Some, None, ⊤, slice_get}
use Rattle.std.specs.List.{cons_option, find}
use Rattle.std.proofs.lemmas.Int.{ints}
use Rattle.std.proofs.lemmas.List.{length-map}
use Rattle.std.proofs.lemmas.Bool.{and_parts}
use Rattle.std.proofs.Math.Nat.{div-le_of_le-mul}
use Rattle.aq_base.specs.Decimal.{truncated}
use Rattle.aq_rules.specs.Lists.{least, total, greatest, ranked, ranked_in}
use Rattle.aq_rules.specs.Ozone.SiteHour.{Cell, Sample, mean_of, chosen}
use Rattle.aq_rules.proofs.Elements.{Every}
use Rattle.aq_rules.proofs.Sums.{total-cons, lesser_of, greater_of, least-some, greatest-some}

module _ (top : ℕ) where
  abbrev pub InRangeTo : ℤ → Type 0
  InRangeTo v = (negsuc 998 ≤ℤ v) × (v ≤ℤ pos top)

  pub from_test : (v : ℤ) → (int_le (negsuc 998) v && int_le v (pos top)) ≡ true → InRangeTo v
  from_test v h =
      let parts = and_parts (int_le (negsuc 998) v) (int_le v (pos top)) h in
      let low : int_le (negsuc 998) v ≡ true = parts.0 in
      let high : int_le v (pos top) ≡ true = parts.1 in
      (grind (arith, ints, low), grind (arith, ints, high))

  pub to_test : (v : ℤ) → InRangeTo v → (int_le (negsuc 998) v && int_le v (pos top)) ≡ true
  to_test v h =
      let low : int_le (negsuc 998) v ≡ true = grind (arith, ints, h.0) in
      let high : int_le v (pos top) ≡ true = grind (arith, ints, h.1) in
      rw (low, high) refl

  -- ---- means

  -- the sum of n values in range
  abbrev pub SumTo : ℕ → ℤ → Type 0
  SumTo n t = (neg_ℤ (pos (999 * n)) ≤ℤ t) × (t ≤ℤ pos (top * n))

  pub total-between : (values : List ℤ) → Every InRangeTo values → SumTo (length values) (total values)
  total-between [] every = (omega (arith, ints), omega (arith, ints))
  total-between (v ∷ vs) every =
      let rest = total-between vs every.1 in
      (omega (arith, ints, rest.0, every.0.0, total-cons v vs), omega (arith, ints, rest.1, every.0.1, total-cons v vs))

  pub trunc-in_range : (t : ℤ) (n : ℕ) → 0 < n → SumTo n t → InRangeTo (truncated t (pos n))
  trunc-in_range (pos a) n some h =
      let few : a ≤ n * top = omega (arith, ints, h.1) in
      let q : a / n ≤ top = div-le_of_le-mul n few in
      (omega (arith, ints), omega (arith, ints, q))
  trunc-in_range (negsuc a) n some h =
      let few : suc a ≤ n * 999 = omega (arith, ints, h.0) in
      let q : suc a / n ≤ 999 = div-le_of_le-mul n few in
      (omega (arith, ints, q), omega (arith, ints))

  -- ---- a value, if there is one, and lists of values

  abbrev pub IfValueTo : Option ℤ → Type 0
  IfValueTo None = ⊤
  IfValueTo (Some v) = InRangeTo v

  pub value-onto : (o : Option ℤ) (values : List ℤ) → IfValueTo o → Every InRangeTo values → Every InRangeTo (cons_option o values)
  value-onto None values h every = every
  value-onto (Some v) values h every = (h, every)

  min-in_range : (x : ℤ) (o : Option ℤ) → InRangeTo x → IfValueTo o → IfValueTo (lesser_of (Some x) o)
  min-in_range x None h k = h
  min-in_range x (Some y) h k = (grind (arith, ints, h.0, k.0), grind (arith, ints, h.1, k.1))

  max-in_range : (x : ℤ) (o : Option ℤ) → InRangeTo x → IfValueTo o → IfValueTo (greater_of (Some x) o)
  max-in_range x None h k = h
  max-in_range x (Some y) h k = (grind (arith, ints, h.0, k.0), grind (arith, ints, h.1, k.1))

  pub least-in_range : (values : List ℤ) → Every InRangeTo values → IfValueTo (least values)
  least-in_range [] every = tt
  least-in_range (v ∷ vs) every = rw (least-some v vs) (min-in_range v (least vs) every.0 (least-in_range vs every.1))

  pub greatest-in_range : (values : List ℤ) → Every InRangeTo values → IfValueTo (greatest values)
  greatest-in_range [] every = tt
  greatest-in_range (v ∷ vs) every = rw (greatest-some v vs) (max-in_range v (greatest vs) every.0 (greatest-in_range vs every.1))

  every-ranked_in : (v : ℤ) (zs : List ℤ) → InRangeTo v → Every InRangeTo zs → Every InRangeTo (ranked_in v zs)
  every-ranked_in v [] h every = (h, tt)
  every-ranked_in v (z ∷ zs) h every =
      elim (int_lt v z) as (λ b. Every InRangeTo (cond b (z ∷ ranked_in v zs) (v ∷ z ∷ zs))) [ true ↦ (every.0, every-ranked_in v zs h every.1) | false ↦ (h, every) ]

  pub every-ranked : (values : List ℤ) → Every InRangeTo values → Every InRangeTo (ranked values)
  unfolding ranked
  every-ranked [] every = tt
  every-ranked (v ∷ vs) every = every-ranked_in v (ranked vs) every.0 (every-ranked vs every.1)

  pub at-in_range : (values : List ℤ) (k : ℕ) → Every InRangeTo values → IfValueTo (slice_get values k)
  at-in_range [] k every = tt
  at-in_range (v ∷ vs) zero every = every.0
  at-in_range (v ∷ vs) (suc k) every = at-in_range vs k every.1

  -- ---- cells and samples

  abbrev pub CellTo : Cell → Type 0
  CellTo cell = InRangeTo cell.value

  abbrev pub IfCellTo : Option Cell → Type 0
  IfCellTo None = ⊤
  IfCellTo (Some cell) = CellTo cell

  pub cell-onto : (o : Option Cell) (cells : List Cell) → IfCellTo o → Every CellTo cells → Every CellTo (cons_option o cells)
  cell-onto None cells h every = every
  cell-onto (Some cell) cells h every = (h, every)

  abbrev pub SampleTo : Sample → Type 0
  SampleTo sample = CellTo sample.cell

  abbrev pub IfSampleTo : Option Sample → Type 0
  IfSampleTo None = ⊤
  IfSampleTo (Some sample) = SampleTo sample

  sample_values : (samples : List Sample) → Every SampleTo samples → Every InRangeTo (map (λ (s : Sample). s.cell.value) samples)
  sample_values [] every = tt
  sample_values (sample ∷ samples) every = (every.0, sample_values samples every.1)

  mean-in_range : (samples : List Sample) → Every SampleTo samples → IfCellTo (mean_of samples)
  mean-in_range [] every = tt
  mean-in_range (sample ∷ samples) every =
      let values = map (λ (s : Sample). s.cell.value) (sample ∷ samples) in
      let h : SumTo (length values) (total values) = total-between values (sample_values (sample ∷ samples) every) in
      let P : ℕ → Type 0 = λ n. SumTo n (total values) in
      trunc-in_range (total values) (length (sample ∷ samples)) (omega arith) (subst P (length-map (sample ∷ samples) (λ (s : Sample). s.cell.value)) h)

  pub found-in_range : (p : Sample → Bool) (samples : List Sample) → Every SampleTo samples → IfSampleTo (find p samples)
  found-in_range p [] every = tt
  found-in_range p (sample ∷ samples) every =
      elim (p sample) as (λ b. IfSampleTo (cond b (Some sample) (find p samples))) [ true ↦ every.0 | false ↦ found-in_range p samples every.1 ]

  pub chosen-in_range : (primary : Option Sample) (samples : List Sample) → IfSampleTo primary → Every SampleTo samples → IfCellTo (chosen primary samples)
  chosen-in_range None samples h every = mean-in_range samples every
  chosen-in_range (Some sample) samples h every = h
