-- How many marks of a pollutant and code lie between two hours: those up to the second, less those before the first.
use Rattle.std.proofs.Common.{◌≡◌, ◌≤◌, ◌<◌, ◌+◌, ℕ, Bool, true, false, ◌&&◌, ◌==◌, List, cond, count_by, refl, ap, sym, ◌∙◌, subst, arith}
use Rattle.std.specs.Prelude.{nat_le}
use Rattle.std.proofs.lemmas.Bool.Decides.{nat_tests}
use Rattle.std.specs.Ordering.{is_eq, is_le, is_lt, nat_cmp, ordering_then}
use Rattle.std.specs.declared.cmp.Ordering.{Ordering}
use Rattle.std.specs.declared.cmp.Ordering.TheVariants.{Less, Equal, Greater}
use Rattle.aq_base.specs.Quals.{is_same_code}
use Rattle.aq_base.specs.declared.code.Code.{Code}
use Rattle.aq_base.specs.declared.monitor.Pollutant.{Pollutant}
use Rattle.aq_base.specs.declared.monitor.Pollutant.TheVariants.{Ozone, Pm25, Pm10}
use Rattle.aq_base.specs.contracts.monitor.PollutantOrd.TheImpl as pollutant_derived
use Rattle.aq_rules.specs.Office.Monitors.{is_same_pollutant}
use Rattle.aq_listed.specs.Marks.{is_marked, lies_between, mark_cmp, AreFew}
use Rattle.aq_listed.specs.declared.marks.Mark.{Mark}
use Rattle.aq_listed.proofs.Counted.{count-none, count-same, count-split}

pub same-pollutants : (p q : Pollutant) → is_eq ((pollutant_derived.ghosts).cmp p q) ≡ is_same_pollutant p q
same-pollutants Ozone Ozone = refl
same-pollutants Ozone Pm25 = refl
same-pollutants Ozone Pm10 = refl
same-pollutants Pm25 Ozone = refl
same-pollutants Pm25 Pm25 = refl
same-pollutants Pm25 Pm10 = refl
same-pollutants Pm10 Ozone = refl
same-pollutants Pm10 Pm25 = refl
same-pollutants Pm10 Pm10 = refl

pub same-codes : (c d : Code) → is_eq (ordering_then (nat_cmp c.first d.first) (nat_cmp c.second d.second)) ≡ is_same_code c d
same-codes c d = both (nat_cmp c.first d.first) (nat_cmp c.second d.second) ∙ ap (λ b. b && is_eq (nat_cmp c.second d.second)) (equal c.first d.first) ∙ ap (λ b. (c.first == d.first) && b) (equal c.second d.second)
  where
    both : (o p : Ordering) → is_eq (ordering_then o p) ≡ (is_eq o && is_eq p)
    both Less p = refl
    both Equal p = refl
    both Greater p = refl

    equal : (m n : ℕ) → is_eq (nat_cmp m n) ≡ (m == n)
    equal m n = grind (arith, nat_tests)

-- one place, by the orders of the pollutant and the code
one-place : (p c : Ordering) (hour first last : ℕ) → first ≤ last
    → cond (is_le (ordering_then p (ordering_then c (nat_cmp hour last)))) 1 0
    ≡ cond (is_lt (ordering_then p (ordering_then c (nat_cmp hour first)))) 1 0 + cond (is_eq p && is_eq c && (nat_le first hour && nat_le hour last)) 1 0
one-place Less c hour first last upward = refl
one-place Greater c hour first last upward = refl
one-place Equal Less hour first last upward = refl
one-place Equal Greater hour first last upward = refl
one-place Equal Equal hour first last upward = grind (arith, nat_tests)

pub counted-between : (pollutant : Pollutant) (code : Code) (first last : ℕ) (marks : List Mark) → first ≤ last
    → count_by (λ mark. is_le (mark_cmp mark (record { pollutant = pollutant; code = code; hour = last }))) marks
    ≡ count_by (λ mark. is_lt (mark_cmp mark (record { pollutant = pollutant; code = code; hour = first }))) marks + count_by (is_marked pollutant code (lies_between first last)) marks
counted-between pollutant code first last marks upward =
    count-split _ _ _ each marks
  where
    each : (mark : Mark)
        → cond (is_le (mark_cmp mark (record { pollutant = pollutant; code = code; hour = last }))) 1 0
        ≡ cond (is_lt (mark_cmp mark (record { pollutant = pollutant; code = code; hour = first }))) 1 0 + cond (is_marked pollutant code (lies_between first last) mark) 1 0
    each mark =
        let before = λ (b : Bool) (a : Bool). cond (is_lt (mark_cmp mark (record { pollutant = pollutant; code = code; hour = first }))) 1 0 + cond (a && b && (nat_le first mark.hour && nat_le mark.hour last)) 1 0 in
        one-place ((pollutant_derived.ghosts).cmp mark.pollutant pollutant) (ordering_then (nat_cmp mark.code.first code.first) (nat_cmp mark.code.second code.second)) mark.hour first last upward
        ∙ ap (before (is_eq (ordering_then (nat_cmp mark.code.first code.first) (nat_cmp mark.code.second code.second)))) (same-pollutants mark.pollutant pollutant)
        ∙ ap (λ b. before b (is_same_pollutant mark.pollutant pollutant)) (same-codes mark.code code)

-- none between hours that fall
pub none-between : (pollutant : Pollutant) (code : Code) (first last : ℕ) (marks : List Mark) → last < first → count_by (is_marked pollutant code (lies_between first last)) marks ≡ 0
none-between pollutant code first last marks downward =
    count-same _ (λ mark. false) each marks ∙ count-none marks
  where
    outside : (a : Bool) (hour : ℕ) → (a && (nat_le first hour && nat_le hour last)) ≡ false
    outside false hour = refl
    outside true hour = grind (arith, nat_tests)

    each : (mark : Mark) → is_marked pollutant code (lies_between first last) mark ≡ false
    each mark = outside (is_same_pollutant mark.pollutant pollutant && is_same_code mark.code code) mark.hour

-- the same of what the two searches found in the marks
pub found-between : (pollutant : Pollutant) (code : Code) (first last : ℕ) (marks starts ends : List Mark) (before through : ℕ) → first ≤ last → starts ≡ marks → ends ≡ marks
    → before ≡ count_by (λ mark. is_lt (mark_cmp mark (record { pollutant = pollutant; code = code; hour = first }))) starts
    → through ≡ count_by (λ mark. is_le (mark_cmp mark (record { pollutant = pollutant; code = code; hour = last }))) ends
    → through ≡ before + count_by (is_marked pollutant code (lies_between first last)) marks
found-between pollutant code first last marks starts ends before through upward from_same to_same from to =
    let counted = counted-between pollutant code first last marks upward in
    let below = from ∙ ap (count_by (λ (mark : Mark). is_lt (mark_cmp mark (record { pollutant = pollutant; code = code; hour = first })))) from_same in
    let up_to = to ∙ ap (count_by (λ (mark : Mark). is_le (mark_cmp mark (record { pollutant = pollutant; code = code; hour = last })))) to_same in
    up_to ∙ counted ∙ ap (λ n. n + count_by (is_marked pollutant code (lies_between first last)) marks) (sym below)

pub few-view : (inside marks : List Mark) → inside ≡ marks → AreFew inside → AreFew marks
few-view inside marks same few = subst AreFew same few
