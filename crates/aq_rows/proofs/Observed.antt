-- An observation that is read column by column is the one that the row says, if it can stand.
use Rattle.std.proofs.Common.{◌≡◌, ℕ, Bool, true, false, ◌&&◌, cond, List, [], length, refl, sym, ap, subst, ◌∙◌, arith}
use Rattle.std.specs.Prelude.{Option, Some, None, ◌==◌, nat_le, ℤ, pos, negsuc, bytes_eq, option_map, ◌+ℤ◌}
use Rattle.std.specs.List.{list_all}
use Rattle.std.specs.Option.{option_eq}
use Rattle.std.specs.Ordering.{int_eq}
use Rattle.std.proofs.lemmas.Bool.{and_parts}
use Rattle.std.proofs.lemmas.Bool.Decides.{nat_tests}
use Rattle.std.proofs.lemmas.Int.{ints}
use Rattle.std.proofs.lemmas.Slice.Eq.{bytes_eq-Decides}
use Rattle.aq_base.specs.Quals.{all_distinct}
use Rattle.aq_base.specs.declared.code.Code.{Code}
use Rattle.aq_base.specs.declared.day.TheConstants.{LAST_HOUR}
use Rattle.aq_base.specs.declared.quals.TheConstants.{MOST_QUALIFIERS}
use Rattle.aq_base.specs.declared.monitor.Pollutant.{Pollutant}
use Rattle.aq_base.specs.declared.monitor.Pollutant.TheVariants.{Ozone, Pm25, Pm10}
use Rattle.aq_base.specs.declared.observation.TheConstants.{LAST_METHOD}
use Rattle.aq_base.specs.declared.observation.ObsKey.{ObsKey}
use Rattle.aq_base.specs.declared.observation.Observation.{Observation}
use Rattle.aq_rules.specs.Lines.Spellings.{◌>>=◌, qualifier_in}
use Rattle.aq_rules.specs.Office.Office.{is_site, is_poc, is_measured, is_qualifier, is_method, is_content, pollutant_number}
use Rattle.aq_rules.specs.Kept.Rows.{ObsRow2, observation_of_row, obs_row, is_obs_row, only_if, whole, hours_before_2000, stored_hour, hour_of_stored, site_with, site_key, pollutant_with, method_of, null_of, each, words}
use Rattle.aq_rules.proofs.Tests.{int_itself}
use Rattle.aq_rows.specs.Standing.{can_stand}
use Rattle.aq_rows.specs.Ranges.{is_between, between}
use Rattle.aq_rows.specs.Observed.{observation_in, method_in, are_quals, quals_in}
use Rattle.aq_rows.proofs.Chains.{tested, passed, ends, mapped, chained, same_first, refused, kept}
use Rattle.aq_rows.proofs.Codes.{quals-front, quals-say, quals-written, null-written}
use Rattle.aq_rows.proofs.Gathered.{gathered-is}

abbrev Row : Type 0
Row = ObsKey × Observation

abbrev made : ObsRow2 → ℕ → Pollutant → ℕ → ℕ → Option ℕ → Option Code → List Code → Row
made row site pollutant poc hour method null quals =
    (record { monitor = record { site = site_with site; pollutant = pollutant; poc = poc }; hour = hour }, record { value = row.value; null = null; quals = quals; method = method })

-- ---- the row of what is read is the row

whole-is : (x : ℤ) (n : ℕ) → whole x ≡ Some n → x ≡ pos n
whole-is (pos m) n h = let is : m ≡ n = cc in ap pos is
whole-is (negsuc m) n h = cc

site-back : (n : ℕ) → site_key (site_with n) ≡ n
site-back n = omega arith

pollutant-back : (n : ℕ) (pollutant : Pollutant) → pollutant_with n ≡ Some pollutant → pollutant_number pollutant ≡ n
pollutant-back n pollutant h = by_tests (1 == n) (2 == n) (3 == n) (λ e. grind (arith, nat_tests)) (λ e. grind (arith, nat_tests)) (λ e. grind (arith, nat_tests)) h
  where
    by_tests : (a b c : Bool) → (a ≡ true → 1 ≡ n) → (b ≡ true → 2 ≡ n) → (c ≡ true → 3 ≡ n)
        → cond a (Some Ozone) (cond b (Some Pm25) (cond c (Some Pm10) None)) ≡ Some pollutant → pollutant_number pollutant ≡ n
    by_tests true b c x y z h = let is : Ozone ≡ pollutant = cc in subst (λ p. pollutant_number p ≡ n) is (x refl)
    by_tests false true c x y z h = let is : Pm25 ≡ pollutant = cc in subst (λ p. pollutant_number p ≡ n) is (y refl)
    by_tests false false true x y z h = let is : Pm10 ≡ pollutant = cc in subst (λ p. pollutant_number p ≡ n) is (z refl)
    by_tests false false false x y z h = cc

int-same : (a b : ℤ) → a ≡ b → int_eq a b ≡ true
int-same a b e = subst (λ c. int_eq a c ≡ true) e (int_itself a)

bytes-same : (a b : List ℕ) → a ≡ b → bytes_eq a b ≡ true
bytes-same a b e = (bytes_eq-Decides a b).1 e

value-same : (a : Option ℤ) → option_eq int_eq a a ≡ true
value-same None = refl
value-same (Some v) = int_itself v

all-eight : (a b c d e f g h : Bool) → a ≡ true → b ≡ true → c ≡ true → d ≡ true → e ≡ true → f ≡ true → g ≡ true → h ≡ true → (((((((a && b) && c) && d) && e) && f) && g) && h) ≡ true
all-eight a b c d e f g h p q r s t u v w = rw (p, q, r, s, t, u, v, w) refl

-- the method that a row says is written as the row has it
method-is : (stored : Option ℤ) (method : Option ℕ) → method_of stored ≡ Some method → option_map pos method ≡ stored
method-is None None h = refl
method-is None (Some m) h = cc
method-is (Some (pos n)) None h = cc
method-is (Some (pos n)) (Some m) h = let is : n ≡ m = cc in ap (λ k. Some (pos k)) (sym is)
method-is (Some (negsuc n)) method h = cc

-- a method in its range, as it is read
method_in_range : (number : ℤ) → (option_map (λ (n : ℕ). Some n) (whole number) >>= only_if is_method) ≡ (between 0 LAST_METHOD number >>= λ n. Some (Some n))
method_in_range (negsuc n) = refl
method_in_range (pos n) = by_test (nat_le n LAST_METHOD) refl
  where
    by_test : (b : Bool) → nat_le n LAST_METHOD ≡ b → cond (nat_le n LAST_METHOD) (Some (Some n)) None ≡ (cond (nat_le 0 n && nat_le n LAST_METHOD) (Some n) None >>= λ n. Some (Some n))
    by_test true e = let low : nat_le 0 n ≡ true = grind (arith, nat_tests) in rw (e, low) refl
    by_test false e = let low : nat_le 0 n ≡ true = grind (arith, nat_tests) in rw (e, low) refl

pub method_between : (number : ℤ) → method_in (Some number) ≡ (between 0 LAST_METHOD number >>= λ n. Some (Some n))
method_between number = method_in_range number

-- the hour that a row says is stored as the row has it
stored-is : (stored : ℤ) (hour : ℕ) → hour_of_stored stored ≡ Some hour → stored_hour hour ≡ stored
stored-is stored hour h =
    let there : stored +ℤ pos hours_before_2000 ≡ pos hour = whole-is (stored +ℤ pos hours_before_2000) hour h in
    omega (arith, ints, there)

pub own-row : (row : ObsRow2) (site number poc hour : ℕ) (pollutant : Pollutant) (method : Option ℕ) (null : Option Code) (quals : List Code)
    → whole row.site ≡ Some site → whole row.pollutant ≡ Some number → pollutant_with number ≡ Some pollutant → whole row.poc ≡ Some poc → hour_of_stored row.hour ≡ Some hour
    → method_of row.method ≡ Some method → null_of row.null ≡ Some null → each qualifier_in (words row.quals) ≡ Some quals
    → is_obs_row (obs_row (made row site pollutant poc hour method null quals)) row ≡ true
own-row row site number poc hour pollutant method null quals s n p c h m u q =
    all-eight _ _ _ _ _ _ _ _
    (int-same _ row.site (ap pos (site-back site) ∙ sym (whole-is row.site site s)))
    (int-same _ row.pollutant (ap pos (pollutant-back number pollutant p) ∙ sym (whole-is row.pollutant number n)))
    (int-same _ row.poc (sym (whole-is row.poc poc c)))
    (int-same _ row.hour (stored-is row.hour hour h))
    (value-same row.value)
    (subst (λ (o : Option ℤ). option_eq int_eq (option_map pos method) o ≡ true) (method-is row.method method m) (value-same (option_map pos method)))
    (bytes-same _ row.null (null-written row.null null u))
    (bytes-same _ row.quals (quals-written row.quals quals q))

-- ---- what can stand

site-fits : (n : ℕ) (b : Bool) → is_between 0 999999999 n ≡ b → is_site (site_with n) ≡ b
site-fits n true h = grind (arith, nat_tests)
site-fits n false h = grind (arith, nat_tests)

at_site : (s p h c : Bool) → s ≡ false → (((s && p) && h) && c) ≡ false
at_site s p h c e = ap (λ a. ((a && p) && h) && c) e

at_poc : (s p h c : Bool) → p ≡ false → (((s && p) && h) && c) ≡ false
at_poc true p h c e = ap (λ a. (a && h) && c) e
at_poc false p h c e = refl

at_hour : (s h c : Bool) → h ≡ false → ((s && h) && c) ≡ false
at_hour true h c e = ap (λ a. a && c) e
at_hour false h c e = refl

at_content : (s c : Bool) → c ≡ false → (s && c) ≡ false
at_content true c e = e
at_content false c e = refl

at_quals : (s d f w : Bool) → (d && f) ≡ false → (((s && d) && f) && w) ≡ false
at_quals true d f w e = ap (λ b. b && w) e
at_quals false d f w e = refl

all-but_measured : (s p h m q d f w : Bool) → s ≡ true → p ≡ true → h ≡ true → q ≡ true → (d && f) ≡ true → w ≡ true → (((s && p) && h) && ((((m && q) && d) && f) && w)) ≡ m
all-but_measured s p h true q d f w a b c e g i = let parts = and_parts d f g in rw (a, b, c, e, parts.0, parts.1, i) refl
all-but_measured s p h false q d f w a b c e g i = rw (a, b, c) refl

hour-between : (hour : ℕ) (b : Bool) → is_between 0 LAST_HOUR hour ≡ b → nat_le hour LAST_HOUR ≡ b
hour-between hour true h = grind (arith, nat_tests)
hour-between hour false h = grind (arith, nat_tests)

with_content : (key : ObsKey) (content : Observation) (measured : Bool)
    → cond {A = Option Row} measured (Some (key, content)) None ≡ (cond measured (Some content) None >>= λ c. Some (key, c))
with_content key content true = refl
with_content key content false = refl

-- ---- column by column

pub read_in_turn : (row : ObsRow2) → observation_in row ≡ (observation_of_row row >>= only_if can_stand)
unfolding observation_in observation_of_row quals_in
read_in_turn row = sym (
    tested (whole row.site) (is_between 0 999999999) _ (only_if can_stand) _
    (λ site site_is no.
    ends (whole row.pollutant) _ (only_if can_stand) λ number.
    ends (pollutant_with number) _ (only_if can_stand) λ pollutant.
    ends (whole row.poc) _ (only_if can_stand) λ poc.
    ends (hour_of_stored row.hour) _ (only_if can_stand) λ hour.
    ends (method_of row.method) _ (only_if can_stand) λ method.
    ends (null_of row.null) _ (only_if can_stand) λ null.
    ends (each qualifier_in (words row.quals)) _ (only_if can_stand) λ quals.
    refused can_stand (λ o. is_obs_row (obs_row o) row) (made row site pollutant poc hour method null quals) (at_site (is_site (site_with site)) _ _ _ (site-fits site false no)))
    (λ site site_is site_fits.
    passed (whole row.pollutant) _ (only_if can_stand) _ (λ number number_is.
    passed (pollutant_with number) _ (only_if can_stand) _ λ pollutant pollutant_is.
    tested (whole row.poc) (is_between 1 99) _ (only_if can_stand) _
    (λ poc poc_is no.
    ends (hour_of_stored row.hour) _ (only_if can_stand) λ hour.
    ends (method_of row.method) _ (only_if can_stand) λ method.
    ends (null_of row.null) _ (only_if can_stand) λ null.
    ends (each qualifier_in (words row.quals)) _ (only_if can_stand) λ quals.
    refused can_stand (λ o. is_obs_row (obs_row o) row) (made row site pollutant poc hour method null quals) (at_poc (is_site (site_with site)) (is_poc poc) _ _ no))
    (λ poc poc_is poc_fits.
    tested (hour_of_stored row.hour) (is_between 0 LAST_HOUR) _ (only_if can_stand) _
    (λ hour hour_is no.
    ends (method_of row.method) _ (only_if can_stand) λ method.
    ends (null_of row.null) _ (only_if can_stand) λ null.
    ends (each qualifier_in (words row.quals)) _ (only_if can_stand) λ quals.
    refused can_stand (λ o. is_obs_row (obs_row o) row) (made row site pollutant poc hour method null quals) (at_hour (is_site (site_with site) && is_poc poc) (nat_le hour LAST_HOUR) _ (hour-between hour false no)))
    (λ hour hour_is hour_fits.
    tested (method_of row.method) is_method _ (only_if can_stand) _
    (λ method method_is no.
    ends (null_of row.null) _ (only_if can_stand) λ null.
    ends (each qualifier_in (words row.quals)) _ (only_if can_stand) λ quals.
    refused can_stand (λ o. is_obs_row (obs_row o) row) (made row site pollutant poc hour method null quals)
    (at_content ((is_site (site_with site) && is_poc poc) && nat_le hour LAST_HOUR) (is_content pollutant (record { value = row.value; null = null; quals = quals; method = method }))
    (at_content (is_measured pollutant row.value null && list_all is_qualifier quals && all_distinct quals && nat_le (length quals) MOST_QUALIFIERS) (is_method method) no)))
    (λ method method_is method_fits.
    passed (null_of row.null) _ (only_if can_stand) _ λ null null_is.
    tested (each qualifier_in (words row.quals)) are_quals _ (only_if can_stand) _
    (λ quals quals_is no.
    refused can_stand (λ o. is_obs_row (obs_row o) row) (made row site pollutant poc hour method null quals)
    (at_content ((is_site (site_with site) && is_poc poc) && nat_le hour LAST_HOUR) (is_content pollutant (record { value = row.value; null = null; quals = quals; method = method }))
    (at_quals (is_measured pollutant row.value null && list_all is_qualifier quals) (all_distinct quals) (nat_le (length quals) MOST_QUALIFIERS) (is_method method) no)))
    (λ quals quals_is quals_fit.
    kept can_stand (λ o. is_obs_row (obs_row o) row) (made row site pollutant poc hour method null quals)
    (own-row row site number poc hour pollutant method null quals site_is number_is pollutant_is poc_is hour_is method_is null_is quals_is)
    ∙ ap (λ b. cond b (Some (made row site pollutant poc hour method null quals)) None)
    (all-but_measured (is_site (site_with site)) (is_poc poc) (nat_le hour LAST_HOUR) (is_measured pollutant row.value null) (list_all is_qualifier quals) (all_distinct quals) (nat_le (length quals) MOST_QUALIFIERS) (is_method method)
    (site-fits site true site_fits) poc_fits (hour-between hour true hour_fits) (quals-say (words row.quals) quals quals_is).1 quals_fit method_fits)
    ∙ with_content (made row site pollutant poc hour method null quals).0 (made row site pollutant poc hour method null quals).1 (is_measured pollutant row.value null))
    ∙ same_first (each qualifier_in (words row.quals) >>= only_if are_quals) (quals_in row.quals) _ (sym (gathered-is qualifier_in are_quals quals-front [] (words row.quals) refl))))))
    ∙ sym (chained (whole row.pollutant) pollutant_with _))
    ∙ sym (mapped (whole row.site >>= only_if (is_between 0 999999999)) site_with _)
    )
