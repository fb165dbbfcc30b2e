-- A number and a key are one another's, and numbers are in the order of their keys.
use Rattle.std.proofs.Common.{◌≡◌, ◌<◌, ℕ, ◌+◌, ◌-◌, ◌*◌, ◌/◌, ◌%◌, ℤ, pos, negsuc, ◌+ℤ◌, ◌-ℤ◌, ◌*ℤ◌, ◌≤ℤ◌, ◌<ℤ◌, FitsSigned, w64, Bool, true, false, ◌&&◌, Option, Some, None, Ordering, Less, Equal, Greater, is_eq, refl, sym, ap, ap₂, subst, ◌∙◌, arith}
use Rattle.std.proofs.lemmas.Int.{ints}
use Rattle.std.specs.Prelude.{nat_lt, if◌then◌else◌}
use Rattle.std.specs.Ordering.{int_cmp, nat_cmp, ordering_then}
use Rattle.std.proofs.lemmas.Bool.{false≢true, and_from, and_parts}
use Rattle.std.proofs.lemmas.Bool.Decides.{nat_tests}
use Rattle.sqlite_sql.specs.Numeral.{fits_i64, if_fits}
use Rattle.aq_keeper.proofs.KeyOrder.{same_key}
use Rattle.aq_keeper.specs.KeyView.{key_order}
use Rattle.aq_rules.specs.Kept.RowChanges.{RowKey, SecondRowKey, is_same_row_key}
use Rattle.aq_tables.specs.Number.{KeepPlaces, number_with, lies_below, has_number, number_at, site_in, behind_in, pollutant_in, poc_in, hour_in}

-- ---- a number's key has that number

-- nine places, put together
places : (b : ℕ) → b / 100000000 * 100000000 + (b / 1000000 % 100 * 1000000 + b % 1000000) ≡ b
places b = omega arith

pub number_is : (n : ℤ) → number_with (site_in n) (pollutant_in n) (poc_in n) (hour_in n) ≡ n
number_is (pos n) = let e = places (n % 1000000000) in omega (arith, ints)
number_is (negsuc n) = let e = places (1000000000 - 1 - n % 1000000000) in omega (arith, ints)

behind_below : (n : ℤ) → behind_in n < 1000000000
behind_below (pos n) = omega arith
behind_below (negsuc n) = omega arith

hours_back : (x : ℕ) → (pos x -ℤ pos 87648) +ℤ pos 87648 ≡ pos x
hours_back x = omega (arith, ints)

-- what all parts keep to
keeps : (n : ℤ) → fits_i64 n ≡ true → has_number (site_in n) (pollutant_in n) (poc_in n) (hour_in n) ≡ true
keeps n fits =
    let b = behind_in n in
    let below = behind_below n in
    let one : nat_lt (b / 100000000) 10 ≡ true = grind (arith, nat_tests) in
    let two : nat_lt (b / 1000000 % 100) 100 ≡ true = grind (arith, nat_tests) in
    let six : nat_lt (b % 1000000) 1000000 ≡ true = grind (arith, nat_tests) in
    let hours : lies_below (hour_in n +ℤ pos 87648) 1000000 ≡ true = ap (λ z. lies_below z 1000000) (hours_back (b % 1000000)) ∙ six in
    (λ i. one i && two i && hours i && fits_i64 (number_is n i)) ∙ fits

pub number_of_itself : (n : ℤ) → fits_i64 n ≡ true → number_at (site_in n) (pollutant_in n) (poc_in n) (hour_in n) ≡ Some n
unfolding number_at
number_of_itself n fits = rw (keeps n fits) (ap Some (number_is n))

-- ---- a key's number has that key

below : (z : ℤ) (bound : ℕ) → lies_below z bound ≡ true → (n : ℕ) × (z ≡ pos n) × (n < bound)
below (pos n) bound h = (n, refl, grind (arith, nat_tests))
below (negsuc n) bound h = absurd (false≢true h)

-- nine places behind a site
abbrev behind : ℤ → ℕ → ℤ
behind (pos s) low = pos (s * 1000000000 + low)
behind (negsuc s) low = negsuc (s * 1000000000 + (1000000000 - 1 - low))

site_behind : (s : ℤ) (low : ℕ) → low < 1000000000 → site_in (behind s low) ≡ s
site_behind (pos s) low h = let e : (s * 1000000000 + low) / 1000000000 ≡ s = omega arith in ap pos e
site_behind (negsuc s) low h = let e : (s * 1000000000 + (1000000000 - 1 - low)) / 1000000000 ≡ s = omega arith in ap negsuc e

low_behind : (s : ℤ) (low : ℕ) → low < 1000000000 → behind_in (behind s low) ≡ low
low_behind (pos s) low h = omega arith
low_behind (negsuc s) low h = omega arith

module _ (s : ℤ) (p c h : ℕ) (hour : ℤ) (pl : p < 10) (cl : c < 100) (hl : h < 1000000) (is : hour +ℤ pos 87648 ≡ pos h) where
  abbrev low : ℕ
  low = p * 100000000 + (c * 1000000 + h)

  together : number_with s (pos p) (pos c) hour ≡ behind s low
  together = go s
    where
      go : (s : ℤ) → number_with s (pos p) (pos c) hour ≡ behind s low
      go (pos s) = omega (arith, ints, is)
      go (negsuc s) = omega (arith, ints, is)

  low_below : low < 1000000000
  low_below = omega arith

  parts : (n : ℤ) → n ≡ behind s low → (site_in n ≡ s) × (pollutant_in n ≡ pos p) × (poc_in n ≡ pos c) × (hour_in n ≡ hour)
  parts n same =
      let site : site_in n ≡ s = ap site_in same ∙ site_behind s low low_below in
      let b : behind_in n ≡ low = ap behind_in same ∙ low_behind s low low_below in
      let one : low / 100000000 ≡ p = omega arith in
      let two : low / 1000000 % 100 ≡ c = omega arith in
      let six : low % 1000000 ≡ h = omega arith in
      let back : pos h -ℤ pos 87648 ≡ hour = omega (arith, ints, is) in
      (site, ap (λ b. pos (b / 100000000)) b ∙ ap pos one, ap (λ b. pos (b / 1000000 % 100)) b ∙ ap pos two, ap (λ b. pos (b % 1000000) -ℤ pos 87648) b ∙ ap (λ x. pos x -ℤ pos 87648) six ∙ back)

-- ---- whether a key has a number

-- the parts behind a site keep to their places
abbrev pub have_places : (pollutant poc hours : ℤ) → Bool
have_places pollutant poc hours = lies_below pollutant 10 && lies_below poc 100 && lies_below hours 1000000

pub out_of_places : (site pollutant poc hour : ℤ) → have_places pollutant poc (hour +ℤ pos 87648) ≡ false → number_at site pollutant poc hour ≡ None
unfolding number_at
out_of_places site pollutant poc hour h = rw h refl

pub too_late : (site pollutant poc hour : ℤ) → ¬ (FitsSigned w64 (hour +ℤ pos 87648)) → number_at site pollutant poc hour ≡ None
too_late site pollutant poc hour h = out_of_places site pollutant poc hour (ap (λ b. lies_below pollutant 10 && lies_below poc 100 && b) (past (hour +ℤ pos 87648) h) ∙ and_false _)
  where
    past : (z : ℤ) → ¬ (FitsSigned w64 z) → lies_below z 1000000 ≡ false
    past (pos n) h = elim (nat_lt n 1000000) as (λ b. nat_lt n 1000000 ≡ b → b ≡ false) [ true ↦ λ e. absurd (h (let small : n < 1000000 = grind (arith, nat_tests) in omega (arith, ints))) | false ↦ λ e. refl ] refl
    past (negsuc n) h = refl

    and_false : (b : Bool) → (b && false) ≡ false
    and_false true = refl
    and_false false = refl

pub number_joined : (site pollutant poc hour nine : ℤ) → have_places pollutant poc (hour +ℤ pos 87648) ≡ true → nine ≡ pollutant *ℤ pos 100000000 +ℤ poc *ℤ pos 1000000 +ℤ (hour +ℤ pos 87648) → if_fits (site *ℤ pos 1000000000 +ℤ nine) ≡ number_at site pollutant poc hour
unfolding number_at
number_joined site pollutant poc hour nine h is =
    let same : site *ℤ pos 1000000000 +ℤ nine ≡ number_with site pollutant poc hour = omega (arith, ints) in
    rw h (ap if_fits same)

between : (z : ℤ) (bound : ℕ) → lies_below z bound ≡ true → (pos 0 ≤ℤ z) × (z <ℤ pos bound)
between (pos n) bound h = let small : n < bound = grind (arith, nat_tests) in (omega (arith, ints), omega (arith, ints))
between (negsuc n) bound h = absurd (false≢true h)

pub keep_places : (pollutant poc hours : ℤ) → have_places pollutant poc hours ≡ true → KeepPlaces pollutant poc hours
keep_places pollutant poc hours h =
    let tests = and_parts _ _ h in
    let two = and_parts _ _ tests.0 in
    let p = between pollutant 10 two.0 in
    let c = between poc 100 two.1 in
    let u = between hours 1000000 tests.1 in
    record { pollutant_from = p.0; pollutant_below = p.1; poc_from = c.0; poc_below = c.1; hours_from = u.0; hours_below = u.1 }

-- ---- exactly which keys have a number

lies : (z : ℤ) (bound : ℕ) → pos 0 ≤ℤ z → z <ℤ pos bound → lies_below z bound ≡ true
lies (pos n) bound from under = let small : n < bound = omega (arith, ints) in grind (arith, nat_tests)
lies (negsuc n) bound from under = absurd (omega (arith, ints))

pub has_if : (site pollutant poc hour : ℤ) → KeepPlaces pollutant poc (hour +ℤ pos 87648) → fits_i64 (number_with site pollutant poc hour) ≡ true → number_at site pollutant poc hour ≡ Some (number_with site pollutant poc hour)
unfolding number_at
has_if site pollutant poc hour keep fits =
    let has : has_number site pollutant poc hour ≡ true =
    and_from _ _ (and_from _ _ (and_from _ _ (lies pollutant 10 keep.pollutant_from keep.pollutant_below) (lies poc 100 keep.poc_from keep.poc_below)) (lies (hour +ℤ pos 87648) 1000000 keep.hours_from keep.hours_below)) fits in
    rw has refl

pub none_else : (site pollutant poc hour : ℤ) → (KeepPlaces pollutant poc (hour +ℤ pos 87648) → fits_i64 (number_with site pollutant poc hour) ≡ true → ⊥) → number_at site pollutant poc hour ≡ None
unfolding number_at
none_else site pollutant poc hour not_both = go (has_number site pollutant poc hour) refl
  where
    go : (b : Bool) → has_number site pollutant poc hour ≡ b → ◌≡◌ {A = Option ℤ} (if b then Some (number_with site pollutant poc hour) else None) None
    go true is = let tests = and_parts _ _ is in absurd (not_both (keep_places pollutant poc (hour +ℤ pos 87648) tests.0) tests.1)
    go false is = refl

pub record HasParts (site pollutant poc hour number : ℤ) : Type 0 where
  pub site_is : site_in number ≡ site
  pub pollutant_is : pollutant_in number ≡ pollutant
  pub poc_is : poc_in number ≡ poc
  pub hour_is : hour_in number ≡ hour
  pub fits : fits_i64 number ≡ true

-- a key has at most one number, and the parts of that are the key's
pub parts_of : (site pollutant poc hour number : ℤ) → number_at site pollutant poc hour ≡ Some number → HasParts site pollutant poc hour number
unfolding number_at
parts_of site pollutant poc hour number h = go (has_number site pollutant poc hour) refl h
  where
    go : (b : Bool) → has_number site pollutant poc hour ≡ b → ◌≡◌ {A = Option ℤ} (if b then Some (number_with site pollutant poc hour) else None) (Some number) → HasParts site pollutant poc hour number
    go false is h = absurd cc
    go true is h =
        let same : number_with site pollutant poc hour ≡ number = cc in
        let tests = and_parts _ _ is in
        let three = and_parts _ _ tests.0 in
        let two = and_parts _ _ three.0 in
        let p = below pollutant 10 two.0 in
        let c = below poc 100 two.1 in
        let u = below (hour +ℤ pos 87648) 1000000 three.1 in
        let put = ap₂ (λ x y. number_with site x y hour) (sym p.1) (sym c.1) ∙ same in
        let all = parts site p.0 c.0 u.0 hour p.2 c.2 u.2 u.1 number (sym put ∙ together site p.0 c.0 u.0 hour p.2 c.2 u.2 u.1) in
        record {
          site_is = all.0;
          pollutant_is = all.1 ∙ sym p.1;
          poc_is = all.2 ∙ sym c.1;
          hour_is = all.3;
          fits = subst (λ n. fits_i64 n ≡ true) same tests.1;
        }

-- ---- numbers are in the order of their keys

less : (x y : ℕ) → x < y → nat_cmp x y ≡ Less
less x y h = grind (arith, nat_tests)

greater : (x y : ℕ) → y < x → nat_cmp x y ≡ Greater
greater x y h = grind (arith, nat_tests)

equal : (x y : ℕ) → x ≡ y → nat_cmp x y ≡ Equal
equal x y h = grind (arith, nat_tests)

data Order (x y : ℕ) : Type 0 where
  IsLess : x < y → Order x y
  IsSame : x ≡ y → Order x y
  IsMore : y < x → Order x y

order : (x y : ℕ) → Order x y
order x y = elim (nat_lt x y) as (λ b. nat_lt x y ≡ b → Order x y) [
  | true ↦ λ e. IsLess (grind (arith, nat_tests))
  | false ↦ λ e. elim (nat_lt y x) as (λ b. nat_lt y x ≡ b → Order x y) [ true ↦ λ f. IsMore (grind (arith, nat_tests)) | false ↦ λ f. IsSame (grind (arith, nat_tests)) ] refl
] refl

-- numbers that are compared by a first part, and then by a second one
by_parts : (x y q q' r r' : ℕ) → (q < q' → x < y) → (q' < q → y < x) → (q ≡ q' → r < r' → x < y) → (q ≡ q' → r' < r → y < x) → (q ≡ q' → r ≡ r' → x ≡ y) → nat_cmp x y ≡ ordering_then (nat_cmp q q') (nat_cmp r r')
by_parts x y q q' r r' a b c d e = first (order q q')
  where
    second : q ≡ q' → Order r r' → nat_cmp x y ≡ ordering_then (nat_cmp q q') (nat_cmp r r')
    second same (IsLess h) = less x y (c same h) ∙ sym (rw (equal q q' same, less r r' h) refl)
    second same (IsSame h) = equal x y (e same h) ∙ sym (rw (equal q q' same, equal r r' h) refl)
    second same (IsMore h) = greater x y (d same h) ∙ sym (rw (equal q q' same, greater r r' h) refl)

    first : Order q q' → nat_cmp x y ≡ ordering_then (nat_cmp q q') (nat_cmp r r')
    first (IsLess h) = less x y (a h) ∙ sym (rw (less q q' h) refl)
    first (IsMore h) = greater x y (b h) ∙ sym (rw (greater q q' h) refl)
    first (IsSame h) = second h (order r r')

pos_cmp : (x y : ℕ) → int_cmp (pos x) (pos y) ≡ nat_cmp x y
pos_cmp x y = grind (arith, nat_tests)

negsuc_cmp : (x y : ℕ) → int_cmp (negsuc x) (negsuc y) ≡ nat_cmp y x
negsuc_cmp x y = grind (arith, nat_tests)

site_first : (m n : ℤ) → int_cmp m n ≡ ordering_then (int_cmp (site_in m) (site_in n)) (nat_cmp (behind_in m) (behind_in n))
site_first (pos a) (pos b) =
    pos_cmp a b ∙ by_parts a b (a / 1000000000) (b / 1000000000) (a % 1000000000) (b % 1000000000) (λ h. omega arith) (λ h. omega arith) (λ e h. omega arith) (λ e h. omega arith) (λ e h. omega arith)
    ∙ ap (λ o. ordering_then o (nat_cmp (a % 1000000000) (b % 1000000000))) (sym (pos_cmp (a / 1000000000) (b / 1000000000)))
site_first (pos a) (negsuc b) = refl
site_first (negsuc a) (pos b) = refl
site_first (negsuc a) (negsuc b) =
    let r = 1000000000 - 1 - a % 1000000000 in
    let r' = 1000000000 - 1 - b % 1000000000 in
    negsuc_cmp a b ∙ by_parts b a (b / 1000000000) (a / 1000000000) r r' (λ h. omega arith) (λ h. omega arith) (λ e h. omega arith) (λ e h. omega arith) (λ e h. omega arith)
    ∙ ap (λ o. ordering_then o (nat_cmp r r')) (sym (negsuc_cmp (a / 1000000000) (b / 1000000000)))

pollutant_first : (a b : ℕ) → nat_cmp a b ≡ ordering_then (nat_cmp (a / 100000000) (b / 100000000)) (ordering_then (nat_cmp (a / 1000000 % 100) (b / 1000000 % 100)) (nat_cmp (a % 1000000) (b % 1000000)))
pollutant_first a b =
    let e = places a in
    let f = places b in
    let x = a / 1000000 % 100 * 1000000 + a % 1000000 in
    let y = b / 1000000 % 100 * 1000000 + b % 1000000 in
    let xl : x < 100000000 = omega arith in
    let yl : y < 100000000 = omega arith in
    by_parts a b (a / 100000000) (b / 100000000) x y (λ h. omega arith) (λ h. omega arith) (λ s h. omega arith) (λ s h. omega arith) (λ s h. omega arith)
    ∙ ap (ordering_then (nat_cmp (a / 100000000) (b / 100000000)))
    (by_parts x y (a / 1000000 % 100) (b / 1000000 % 100) (a % 1000000) (b % 1000000) (λ h. omega arith) (λ h. omega arith) (λ s h. omega arith) (λ s h. omega arith) (λ s h. omega arith))

-- hours that are counted from another day are in the same order
hours_cmp : (x y : ℕ) → int_cmp (pos x -ℤ pos 87648) (pos y -ℤ pos 87648) ≡ nat_cmp x y
hours_cmp x y = grind (arith, ints, nat_tests)

last : (o : Ordering) → o ≡ ordering_then o Equal
last Less = refl
last Equal = refl
last Greater = refl

-- the key that a number stands for
abbrev pub key_in : ℤ → RowKey
key_in n = SecondRowKey (site_in n) (pollutant_in n) (poc_in n) (hour_in n)

pub numbers_in_order : (m n : ℤ) → int_cmp m n ≡ key_order (key_in m) (key_in n)
numbers_in_order m n =
    let a = behind_in m in
    let b = behind_in n in
    site_first m n
    ∙ ap (ordering_then (int_cmp (site_in m) (site_in n)))
    (pollutant_first a b
    ∙ (λ i. ordering_then (sym (pos_cmp (a / 100000000) (b / 100000000)) i) (ordering_then (sym (pos_cmp (a / 1000000 % 100) (b / 1000000 % 100)) i) ((sym (hours_cmp (a % 1000000) (b % 1000000)) ∙ last _) i))))

pub same_numbers : (m n : ℤ) → is_eq (int_cmp m n) ≡ is_same_row_key (key_in m) (key_in n)
same_numbers m n = ap is_eq (numbers_in_order m n) ∙ same_key (key_in m) (key_in n)
