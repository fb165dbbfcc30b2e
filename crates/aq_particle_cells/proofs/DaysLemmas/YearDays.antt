-- The days of a year are those of its four quarters, one after the other.
use Rattle.std.proofs.Common.{◌≡◌, ℕ, suc, ◌+◌, ◌-◌, ◌*◌, ◌/◌, ◌%◌, ◌<◌, ◌≤◌, List, [], ◌++◌, ap, sym, ◌∙◌, arith}
use Rattle.std.specs.Prelude.{Option, filter_map}
use Rattle.std.specs.List.{range_with_len}
use Rattle.std.proofs.lemmas.List.{append-nil}
use Rattle.std.proofs.lemmas.List.Elements.{filter_map-append}
use Rattle.aq_base.specs.Calendar.{day_number, days_in_quarter, days_in_year, days_of_years, month_of, quarter_first, quarter_number, quarter_of, quarter_year, year_first, year_of}
use Rattle.aq_base.specs.declared.day.TheConstants.{FIRST_YEAR, LAST_DAY}
use Rattle.aq_cal.proofs.Dates.{days_of_years_next}
use Rattle.aq_cal.proofs.Lengths.{new_year}
use Rattle.aq_cal.proofs.Within.{date_is, quarter_next}
use Rattle.aq_agg.proofs.ItemsOfDays.{range-joined}

-- four spans that follow each other, as one
joined-four : (f n a b c d m0 m1 m2 m3 : ℕ) → a ≡ f → b ≡ a + m0 → c ≡ b + m1 → d ≡ c + m2 → d + m3 ≡ f + n
    → range_with_len f n ≡ range_with_len a m0 ++ (range_with_len b m1 ++ (range_with_len c m2 ++ (range_with_len d m3 ++ [])))
joined-four f n a b c d m0 m1 m2 m3 ai bi ci di end =
    let all : n ≡ m0 + (m1 + (m2 + m3)) = omega (arith, ai, bi, ci, di, end) in
    (λ i. range_with_len (sym ai i) (all i)) ∙ range-joined a m0 (m1 + (m2 + m3))
    ∙ ap (λ (l : List ℕ). range_with_len a m0 ++ l)
    (ap (λ k. range_with_len k (m1 + (m2 + m3))) (sym bi) ∙ range-joined b m1 (m2 + m3)
    ∙ ap (λ (l : List ℕ). range_with_len b m1 ++ l)
    (ap (λ k. range_with_len k (m2 + m3)) (sym ci) ∙ range-joined c m2 m3
    ∙ ap (λ (l : List ℕ). range_with_len c m2 ++ l)
    (ap (λ k. range_with_len k m3) (sym di) ∙ sym (append-nil (range_with_len d m3)))))

first-is : (year : ℕ) → FIRST_YEAR ≤ year → quarter_first (quarter_number year 0) ≡ year_first year
first-is year low =
    let y : quarter_year (quarter_number year 0) ≡ year = omega (arith, low) in
    let m : 3 * (quarter_number year 0 % 4) + 1 ≡ 1 = omega arith in
    (λ i. day_number (y i) (m i) 1) ∙ new_year year

next-is : (year part : ℕ) → quarter_first (quarter_number year (part + 1)) ≡ quarter_first (quarter_number year part) + days_in_quarter (quarter_number year part)
next-is year part =
    let next : quarter_number year (part + 1) ≡ quarter_number year part + 1 = omega arith in
    ap (λ q. quarter_first q) next ∙ quarter_next (quarter_number year part)

end-is : (year : ℕ) → FIRST_YEAR ≤ year → quarter_first (quarter_number year 3) + days_in_quarter (quarter_number year 3) ≡ year_first year + days_in_year year
end-is year low =
    let over : quarter_number year 3 + 1 ≡ quarter_number (year + 1) 0 = omega (arith, low) in
    let since : year + 1 - FIRST_YEAR ≡ suc (year - FIRST_YEAR) = omega (arith, low) in
    let whole : FIRST_YEAR + (year - FIRST_YEAR) ≡ year = omega (arith, low) in
    sym (quarter_next (quarter_number year 3)) ∙ ap (λ q. quarter_first q) over ∙ first-is (year + 1) (omega (arith, low))
    ∙ ap days_of_years since ∙ days_of_years_next (year - FIRST_YEAR) ∙ ap (λ y. days_of_years (year - FIRST_YEAR) + days_in_year y) whole

-- the days of a part of a year
abbrev pub days_at : ℕ → ℕ → List ℕ
days_at year part = range_with_len (quarter_first (quarter_number year part)) (days_in_quarter (quarter_number year part))

days-are : (year : ℕ) → FIRST_YEAR ≤ year → range_with_len (year_first year) (days_in_year year) ≡ days_at year 0 ++ (days_at year 1 ++ (days_at year 2 ++ (days_at year 3 ++ [])))
days-are year low =
    joined-four (year_first year) (days_in_year year) (quarter_first (quarter_number year 0)) (quarter_first (quarter_number year 1)) (quarter_first (quarter_number year 2)) (quarter_first (quarter_number year 3))
    (days_in_quarter (quarter_number year 0)) (days_in_quarter (quarter_number year 1)) (days_in_quarter (quarter_number year 2)) (days_in_quarter (quarter_number year 3))
    (first-is year low) (next-is year 0) (next-is year 1) (next-is year 2) (end-is year low)

-- what they give
pub items-of_year : {X : Type 0} (f : ℕ → Option X) (year : ℕ) → FIRST_YEAR ≤ year
    → filter_map f (range_with_len (year_first year) (days_in_year year))
    ≡ filter_map f (days_at year 0) ++ (filter_map f (days_at year 1) ++ (filter_map f (days_at year 2) ++ (filter_map f (days_at year 3) ++ [])))
items-of_year {X = X} f year low =
    ap (filter_map f) (days-are year low)
    ∙ filter_map-append f (days_at year 0) (days_at year 1 ++ (days_at year 2 ++ (days_at year 3 ++ [])))
    ∙ ap (λ (l : List X). filter_map f (days_at year 0) ++ l)
    (filter_map-append f (days_at year 1) (days_at year 2 ++ (days_at year 3 ++ []))
    ∙ ap (λ (l : List X). filter_map f (days_at year 1) ++ l)
    (filter_map-append f (days_at year 2) (days_at year 3 ++ [])
    ∙ ap (λ (l : List X). filter_map f (days_at year 2) ++ l) (filter_map-append f (days_at year 3) [])))

-- a day of a part of a year is one of the year
pub year-of_part : (year part day : ℕ) → FIRST_YEAR ≤ year → part < 4 → day ≤ LAST_DAY → quarter_of day ≡ quarter_number year part → year_of day ≡ year
year-of_part year part day low few within is = by (year_of day) (month_of day) (date_is day within).year_low (date_is day within).month_high is
  where
    by : (y m : ℕ) → FIRST_YEAR ≤ y → m ≤ 12 → quarter_number y ((m - 1) / 3) ≡ quarter_number year part → y ≡ year
    by y m from most same = omega (arith, low, few, from, most, same)
