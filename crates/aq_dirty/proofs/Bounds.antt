-- Numbers that are added are no greater than the greatest of their kind.
use Rattle.std.proofs.Common.{◌≡◌, ℕ, ◌≤◌, ◌⊎◌, inl, inr, Bool, true, false, ◌&&◌, ◌||◌, List, refl, sym, ap, ◌∙◌, arith}
use Rattle.std.specs.Prelude.{nat_le}
use Rattle.std.proofs.lemmas.Bool.{and_parts}
use Rattle.std.proofs.lemmas.Bool.Decides.{nat_tests}
use Rattle.aq_base.specs.Calendar.{year_of}
use Rattle.aq_base.specs.Site.{Site}
use Rattle.aq_base.specs.declared.day.TheConstants.{LAST_DAY, LAST_HOUR}
use Rattle.aq_rules.specs.Office.Monitors.{is_same_site}
use Rattle.aq_cal.proofs.Within.{date_is}
use Rattle.aq_dirty.specs.declared.spans.Span.{Span}
use Rattle.aq_dirty.specs.Marked.{IsWithin}
use Rattle.aq_dirty.specs.Reach.{day_reading}
use Rattle.aq_dirty.specs.Spans.{covers, holds}

pub or_cases : (a b : Bool) → (a || b) ≡ true → (a ≡ true) ⊎ (b ≡ true)
or_cases true b h = inl refl
or_cases false b h = inr h

pub within-added : (greatest : ℕ) (old now new : List Span) (test : Site → ℕ → Bool) → IsWithin greatest old → now ≡ old
    → ((site : Site) (number : ℕ) → test site number ≡ true → number ≤ greatest)
    → ((site : Site) (number : ℕ) → holds site number new ≡ (holds site number now || test site number)) → IsWithin greatest new
within-added greatest old now new test was same low added = λ site number held.
    elim (or_cases (holds site number now) (test site number) (sym (added site number) ∙ held)) [
      | inl before ↦ was site number (sym (ap (λ (l : List Span). holds site number l) same) ∙ before)
      | inr fresh ↦ low site number fresh
    ]

pub covered-low : (span : Span) (site : Site) (number : ℕ) → covers site number span ≡ true → number ≤ span.last
covered-low span site number h =
    let t = (and_parts (is_same_site span.site site && nat_le span.first number) (nat_le number span.last) h).1 in
    grind (arith, nat_tests)

pub covered_if-low : (b : Bool) (span : Span) (site : Site) (number : ℕ) → (b && covers site number span) ≡ true → number ≤ span.last
covered_if-low b span site number h = covered-low span site number (and_parts b (covers site number span) h).1

pub last_day : (hour : ℕ) → hour ≤ LAST_HOUR → day_reading hour ≤ LAST_DAY
last_day hour h = omega arith

pub last_year : (hour : ℕ) → hour ≤ LAST_HOUR → year_of (day_reading hour) ≤ 65535
last_year hour h = let high = (date_is (day_reading hour) (last_day hour h)).year_high in omega (arith, high)
