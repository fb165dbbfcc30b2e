-- An office line that is written field by field.
use Rattle.std.proofs.Common.{◌≡◌, ℕ, ◌+◌, ◌/◌, ◌%◌, Bool, true, false, cond, List, [], ◌∷◌, ◌++◌, refl, ap, ◌∙◌, append_assoc, arith}
use Rattle.aq_base.specs.Decimal.{last_digits}
use Rattle.aq_base.specs.declared.office.OfficeKey.{OfficeKey}
use Rattle.aq_base.specs.declared.office.OfficeKey.TheVariants.{Monitor, Primary, Schedule, Season, Makeup, Event, Concurrence, Approved, Combined}
use Rattle.aq_base.specs.declared.office.OfficeLine.{OfficeLine}
use Rattle.aq_base.specs.declared.office.OfficeLine.TheVariants.{Put, Change, Drop}
use Rattle.aq_rules.specs.Office.Office.{key_of}
use Rattle.aq_rules.specs.Lines.Canonical.{canonical_office, office_texts, joined, key_tag, deletion_texts}
use Rattle.aq_rules.specs.Lines.Reading.{is_plain, tag_of}
use Rattle.aq_forms.specs.OfficeReading.{is_rd, has_rd_tag}

digit : (a b : ℕ) → a ≡ b → 48 + a ≡ 48 + b
digit a b e = ap (λ n. 48 + n) e

six : {a b c d e f g h i j k l : ℕ} → a ≡ g → b ≡ h → c ≡ i → d ≡ j → e ≡ k → f ≡ l → a ∷ b ∷ c ∷ d ∷ e ∷ f ∷ [] ≡ g ∷ h ∷ i ∷ j ∷ k ∷ l ∷ []
six p q r s t u = cc

-- six digits are twice three
six_digits : (n : ℕ) → last_digits 3 (n / 1000 % 1000) ++ last_digits 3 (n % 1000) ≡ last_digits 6 n
unfolding last_digits
six_digits n =
    six (omega arith) (omega arith) (omega arith) (omega arith) (omega arith) (omega arith)

pub six-written : (o0 o1 o2 : List ℕ) (n : ℕ) → o1 ≡ o0 ++ last_digits 3 (n / 1000 % 1000) → o2 ≡ o1 ++ last_digits 3 (n % 1000) → o2 ≡ o0 ++ last_digits 6 n
six-written o0 o1 o2 n e1 e2 =
    e2 ∙ ap (λ o. o ++ last_digits 3 (n % 1000)) e1 ∙ append_assoc o0 (last_digits 3 (n / 1000 % 1000)) (last_digits 3 (n % 1000))
    ∙ ap (λ digits. o0 ++ digits) (six_digits n)

-- the fields of a deletion are some
pub behind_the_first_bar : (key : OfficeKey) (tag action : List ℕ) → joined (tag ∷ action ∷ deletion_texts key) ≡ tag ++ 124 ∷ (action ++ 124 ∷ joined (deletion_texts key))
behind_the_first_bar (Monitor id) tag action = refl
behind_the_first_bar (Primary site pollutant from) tag action = refl
behind_the_first_bar (Schedule site pollutant from) tag action = refl
behind_the_first_bar (Season site year) tag action = refl
behind_the_first_bar (Makeup site missed) tag action = refl
behind_the_first_bar (Event number) tag action = refl
behind_the_first_bar (Concurrence number) tag action = refl
behind_the_first_bar (Approved site day) tag action = refl
behind_the_first_bar (Combined site pollutant) tag action = refl

-- a written line does not begin with RD
no_rd-key : (key : OfficeKey) (rest : List ℕ) → is_rd (tag_of (key_tag key ++ 124 ∷ rest)) ≡ false
no_rd-key (Monitor id) rest = refl
no_rd-key (Primary site pollutant from) rest = refl
no_rd-key (Schedule site pollutant from) rest = refl
no_rd-key (Season site year) rest = refl
no_rd-key (Makeup site missed) rest = refl
no_rd-key (Event number) rest = refl
no_rd-key (Concurrence number) rest = refl
no_rd-key (Approved site day) rest = refl
no_rd-key (Combined site pollutant) rest = refl

neither : (plain : Bool) (rd : Bool) → rd ≡ false → cond plain rd false ≡ false
neither true rd h = h
neither false rd h = refl

pub no_rd-line : (line : OfficeLine) → has_rd_tag (canonical_office line) ≡ false
unfolding office_texts
no_rd-line (Put r) = neither (is_plain (canonical_office (Put r))) _ (no_rd-key (key_of r) _)
no_rd-line (Change r) = neither (is_plain (canonical_office (Change r))) _ (no_rd-key (key_of r) _)
no_rd-line (Drop key) = neither (is_plain (canonical_office (Drop key))) _ (no_rd-key key _)
