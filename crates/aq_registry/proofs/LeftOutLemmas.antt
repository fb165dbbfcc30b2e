-- What the index of the agreed events leaves out is what the office excludes.
use Rattle.std.proofs.Common.{◌≡◌, ℕ, Bool, true, false, ◌&&◌, ◌||◌, ◌==◌, List, [], ◌∷◌, cond, Some, None, refl, ap, sym, ◌∙◌, arith}
use Rattle.std.specs.Prelude.{nat_le}
use Rattle.std.specs.List.{list_any}
use Rattle.std.proofs.lemmas.Bool.{and_parts, eqb-true}
use Rattle.std.proofs.lemmas.Bool.Decides.{nat_tests}
use Rattle.aq_base.specs.Quals.{is_same_code, has_code}
use Rattle.aq_base.specs.Site.{Site}
use Rattle.aq_base.specs.declared.code.Code.{Code}
use Rattle.aq_base.specs.declared.monitor.Pollutant.{Pollutant}
use Rattle.aq_base.specs.declared.observation.ObsKey.{ObsKey}
use Rattle.aq_base.specs.declared.office.OfficeRecord.{OfficeRecord}
use Rattle.aq_base.specs.declared.office.OfficeRecord.TheVariants.{Event}
use Rattle.aq_rules.specs.Office.Exclusion.{asks_exclusion, is_within, takes_out, excluded}
use Rattle.aq_rules.specs.Office.Monitors.{is_same_site, is_same_pollutant}
use Rattle.aq_rules.specs.Office.Office.{parameter_number}
use Rattle.aq_registry.specs.declared.agreed.Span.{Span}
use Rattle.aq_registry.specs.Agreed.{start_of, is_same_series, covers, is_agreed, agreed_span, passes, AreAgreedOf, leaves_out}
use Rattle.aq_registry.proofs.QuestionLemmas.{same-parameters}

-- ---- tests of lists

any-same : {X : Type 0} (p q : X → Bool) → ((x : X) → p x ≡ q x) → (xs : List X) → list_any p xs ≡ list_any q xs
any-same p q same [] = refl
any-same p q same (x ∷ xs) = ap (λ b. b || list_any p xs) (same x) ∙ ap (λ b. q x || b) (any-same p q same xs)

any-none : {X : Type 0} (xs : List X) → list_any (λ (x : X). false) xs ≡ false
any-none [] = refl
any-none (x ∷ xs) = any-none xs

or_four : (a b c d : Bool) → ((a || b) || (c || d)) ≡ ((a || c) || (b || d))
or_four true b c d = refl
or_four false true true d = refl
or_four false true false d = refl
or_four false false c d = refl

any-or : {X : Type 0} (p q : X → Bool) (xs : List X) → list_any (λ x. p x || q x) xs ≡ (list_any p xs || list_any q xs)
any-or p q [] = refl
any-or p q (x ∷ xs) = ap (λ b. (p x || q x) || b) (any-or p q xs) ∙ or_four (p x) (q x) (list_any p xs) (list_any q xs)

and_any : {X : Type 0} (a : Bool) (p : X → Bool) (xs : List X) → (a && list_any p xs) ≡ list_any (λ x. a && p x) xs
and_any true p xs = refl
and_any false p xs = sym (any-none xs)

or_and : (a b c : Bool) → ((a && c) || (b && c)) ≡ ((a || b) && c)
or_and true b true = refl
or_and true true false = refl
or_and true false false = refl
or_and false b c = refl

any_and : {X : Type 0} (p : X → Bool) (c : Bool) (xs : List X) → list_any (λ x. p x && c) xs ≡ (list_any p xs && c)
any_and p c [] = refl
any_and p c (x ∷ xs) = ap (λ b. (p x && c) || b) (any_and p c xs) ∙ or_and (p x) (list_any p xs) c

-- two lists in either order
any-any : {X Y : Type 0} (p : X → Y → Bool) (xs : List X) (ys : List Y) → list_any (λ x. list_any (p x) ys) xs ≡ list_any (λ y. list_any (λ x. p x y) xs) ys
any-any p [] ys = sym (any-none ys)
any-any p (x ∷ xs) ys = ap (λ b. list_any (p x) ys || b) (any-any p xs ys) ∙ sym (any-or (p x) (λ y. list_any (λ x. p x y) xs) ys)

-- ---- one event and one code

flip : (m n : ℕ) → (m == n) ≡ (n == m)
flip m n = grind (arith, nat_tests)

six : (a b c p x y : Bool) → (a && (b && (c && (p && (x && (y && true)))))) ≡ ((x && y) && ((a && b && c) && p))
six true true true true true true = refl
six true true true true true false = refl
six true true true true false y = refl
six true true true false true true = refl
six true true true false true false = refl
six true true true false false y = refl
six true true false p true true = refl
six true true false p true false = refl
six true true false p false y = refl
six true false c p true true = refl
six true false c p true false = refl
six true false c p false y = refl
six false b c p true true = refl
six false b c p true false = refl
six false b c p false y = refl

-- the series of an event is that of the observation
series_alike : (s t : Site) (p q : Pollutant) (c d : Code) (m n : ℕ) → is_same_series (start_of s p c m) (start_of t q d n) ≡ (is_same_code d c && (is_same_site t s && is_same_pollutant q p))
series_alike s t p q c d m n =
    ap (λ b. b && ((s.county == t.county) && ((s.number == t.number) && ((parameter_number p == parameter_number q) && ((c.first == d.first) && ((c.second == d.second) && true)))))) (flip s.state t.state)
    ∙ ap (λ b. (t.state == s.state) && (b && ((s.number == t.number) && ((parameter_number p == parameter_number q) && ((c.first == d.first) && ((c.second == d.second) && true)))))) (flip s.county t.county)
    ∙ ap (λ b. (t.state == s.state) && ((t.county == s.county) && (b && ((parameter_number p == parameter_number q) && ((c.first == d.first) && ((c.second == d.second) && true)))))) (flip s.number t.number)
    ∙ ap (λ b. (t.state == s.state) && ((t.county == s.county) && ((t.number == s.number) && (b && ((c.first == d.first) && ((c.second == d.second) && true)))))) (flip (parameter_number p) (parameter_number q) ∙ sym (same-parameters q p))
    ∙ ap (λ b. (t.state == s.state) && ((t.county == s.county) && ((t.number == s.number) && (is_same_pollutant q p && (b && ((c.second == d.second) && true)))))) (flip c.first d.first)
    ∙ ap (λ b. (t.state == s.state) && ((t.county == s.county) && ((t.number == s.number) && (is_same_pollutant q p && ((d.first == c.first) && (b && true)))))) (flip c.second d.second)
    ∙ six (t.state == s.state) (t.county == s.county) (t.number == s.number) (is_same_pollutant q p) (d.first == c.first) (d.second == c.second)

asks_alike : (c d : Code) → is_same_code c d ≡ true → asks_exclusion c ≡ asks_exclusion d
asks_alike c d h =
    let parts = and_parts (c.first == d.first) (c.second == d.second) h in
    ap (λ m. (m == 82) && nat_le 65 c.second && nat_le c.second 90) (eqb-true c.first d.first parts.0)
    ∙ ap (λ n. (d.first == 82) && nat_le 65 n && nat_le n 90) (eqb-true c.second d.second parts.1)

when : (test : Span → Bool) (b : Bool) (span : Span) → passes test (cond b (Some span) None) ≡ (b && test span)
when test true span = refl
when test false span = refl

and_turn : (a b : Bool) → (a && b) ≡ (b && a)
and_turn true true = refl
and_turn true false = refl
and_turn false true = refl
and_turn false false = refl

of_one : (a l w x y : Bool) → (a && ((a && l) && (((true && w) && x) && y))) ≡ ((a && ((w && x) && y)) && l)
of_one true l w x y = and_turn l ((w && x) && y)
of_one false l w x y = refl

of_none : (a k : Bool) → (a && (k && false)) ≡ false
of_none true true = refl
of_none true false = refl
of_none false k = refl

by_code : (a b l c w x y : Bool) → (c ≡ true → a ≡ b) → (a && ((b && l) && (((c && w) && x) && y))) ≡ (c && ((b && ((w && x) && y)) && l))
by_code a b l true w x y same = ap (λ d. d && ((b && l) && (((true && w) && x) && y))) (same refl) ∙ of_one b l w x y
by_code a b l false w x y same = of_none a (b && l)

last_turn : (h a w l : Bool) → (h && ((a && w) && l)) ≡ (((a && h) && w) && l)
last_turn true true w l = refl
last_turn true false w l = refl
last_turn false true w l = refl
last_turn false false w l = refl

one : (records : List OfficeRecord) (key : ObsKey) (codes : List Code) (r : OfficeRecord)
    → list_any (λ code. asks_exclusion code && passes (covers (start_of key.monitor.site key.monitor.pollutant code key.hour)) (agreed_span records r)) codes ≡ takes_out records key codes r
one records key codes (Event number site pollutant first last code) =
    any-same (λ other. asks_exclusion other && passes (covers (start_of key.monitor.site key.monitor.pollutant other key.hour)) (agreed_span records (Event number site pollutant first last code)))
    (λ other. is_same_code other code && ((asks_exclusion code && is_within site pollutant first last key) && is_agreed records number)) each codes
    ∙ any_and (λ other. is_same_code other code) ((asks_exclusion code && is_within site pollutant first last key) && is_agreed records number) codes
    ∙ last_turn (has_code code codes) (asks_exclusion code) (is_within site pollutant first last key) (is_agreed records number)
  where
    each : (other : Code) → (asks_exclusion other && passes (covers (start_of key.monitor.site key.monitor.pollutant other key.hour)) (agreed_span records (Event number site pollutant first last code)))
        ≡ (is_same_code other code && ((asks_exclusion code && is_within site pollutant first last key) && is_agreed records number))
    each other =
        ap (λ b. asks_exclusion other && b) (when (covers (start_of key.monitor.site key.monitor.pollutant other key.hour)) (asks_exclusion code && is_agreed records number) (record { number = number; start = start_of site pollutant code first; last = last }))
        ∙ ap (λ b. asks_exclusion other && ((asks_exclusion code && is_agreed records number) && ((b && nat_le first key.hour) && nat_le key.hour last))) (series_alike site key.monitor.site pollutant key.monitor.pollutant code other first key.hour)
        ∙ by_code (asks_exclusion other) (asks_exclusion code) (is_agreed records number) (is_same_code other code) (is_same_site key.monitor.site site && is_same_pollutant key.monitor.pollutant pollutant) (nat_le first key.hour) (nat_le key.hour last) (asks_alike other code)
one records key codes r = any-same (λ code. asks_exclusion code && false) (λ code. false) (λ code. none (asks_exclusion code)) codes ∙ any-none codes
  where
    none : (a : Bool) → (a && false) ≡ false
    none true = refl
    none false = refl

pub left_out : (records : List OfficeRecord) (spans : List Span) (key : ObsKey) (codes : List Code) → AreAgreedOf records spans → list_any (leaves_out spans key) codes ≡ excluded records key codes
unfolding excluded
left_out records spans key codes held =
    any-same (leaves_out spans key) (λ code. list_any (λ r. asks_exclusion code && passes (covers (start_of key.monitor.site key.monitor.pollutant code key.hour)) (agreed_span records r)) records)
    (λ code. ap (λ b. asks_exclusion code && b) (held (covers (start_of key.monitor.site key.monitor.pollutant code key.hour)))
    ∙ and_any (asks_exclusion code) (λ r. passes (covers (start_of key.monitor.site key.monitor.pollutant code key.hour)) (agreed_span records r)) records) codes
    ∙ any-any (λ code r. asks_exclusion code && passes (covers (start_of key.monitor.site key.monitor.pollutant code key.hour)) (agreed_span records r)) codes records
    ∙ any-same (λ r. list_any (λ code. asks_exclusion code && passes (covers (start_of key.monitor.site key.monitor.pollutant code key.hour)) (agreed_span records r)) codes) (takes_out records key codes) (one records key codes) records
