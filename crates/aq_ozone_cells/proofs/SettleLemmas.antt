-- The days of a year, brought up to date one by one.
use Rattle.std.proofs.Common.{◌≡◌, ℕ, suc, ◌+◌, ◌<◌, Bool, true, false, cond, ◌&&◌, List, [], ◌∷◌, map, refl, ap, sym, ◌∙◌, arith}
use Rattle.std.specs.Prelude.{◌==◌, None, IfSome, count_by}
use Rattle.std.specs.List.{range_with_len}
use Rattle.std.proofs.lemmas.Bool.Decides.{nat_tests}
use Rattle.aq_base.specs.Site.{Site}
use Rattle.aq_base.specs.declared.office.OfficeRecord.{OfficeRecord}
use Rattle.aq_rules.specs.Office.Monitors.{is_same_site}
use Rattle.aq_rules.specs.Ozone.OzoneDay.{day_of_windows, starts_of}
use Rattle.aq_series.specs.Samples.{IsOzone}
use Rattle.aq_ozone.specs.DayHours.{AreNetOzone}
use Rattle.aq_ozone_cells.specs.KeptDays.{average_at, held_at, hour_at}
use Rattle.aq_ozone_cells.specs.OzoneCells.{counts, day_from, day_of_averages, is_among, row_with, AreHeldAlready, AreSettled, Cells}
use Rattle.aq_ozone_cells.specs.YearTallies.{maximum_of}
use Rattle.aq_ozone_cells.specs.declared.kept_days.HeldDay.{HeldDay}
use Rattle.aq_ozone_cells.specs.declared.kept_days.KeptAverage.{KeptAverage}
use Rattle.aq_agg.proofs.ItemsOfDays.{cut}
use Rattle.aq_ozone_cells.proofs.SiteNumbers.{never}
use Rattle.aq_ozone.proofs.YearLemmas.{count_more}

-- what a day gives its year rests on the averages alone
pub day-same : (records : List OfficeRecord) (cells after : Cells) (site : Site) (day : ℕ)
    → ((other : Site) (start : ℕ) → average_at after other start ≡ average_at cells other start) → day_from records after site day ≡ day_from records cells site day
unfolding day_from day_of_averages
day-same records cells after site day same = λ i. record {
  valid = (day_of_windows (map (λ start. row_with (same site start i)) (starts_of day))).valid;
  counted = counts records site day (day_of_windows (map (λ start. row_with (same site start i)) (starts_of day))).valid;
  maximum = (day_of_windows (map (λ start. row_with (same site start i)) (starts_of day))).maximum;
}

-- one more day
pub one-more : (p : Bool) (first count number day : ℕ) (new : ℕ → HeldDay) (old : HeldDay) → first + count ≡ day
    → cond (p && (day == number)) (new day) (cond (p && is_among first count number) (new number) old)
    ≡ cond (p && is_among first (count + 1) number) (new number) old
one-more false first count number day new old at = refl
one-more true first count number day new old at = by (day == number) refl
  where
    by : (q : Bool) → (day == number) ≡ q
        → cond q (new day) (cond (is_among first count number) (new number) old) ≡ cond (is_among first (count + 1) number) (new number) old
    by true is =
        let same : day ≡ number = grind (arith, nat_tests) in
        let among : is_among first (count + 1) number ≡ true = grind (arith, nat_tests, at, same) in
        ap new same ∙ ap (λ b. cond b (new number) old) (sym among)
    by false is =
        let same : is_among first count number ≡ is_among first (count + 1) number = grind (arith, nat_tests, at, is) in
        ap (λ b. cond b (new number) old) same

-- no day is settled, and one more
pub settled-none : (records : List OfficeRecord) (cells : Cells) (site : Site) (first : ℕ) → AreSettled records cells cells site first 0
settled-none records cells site first = record {
  days = λ other number.
      let none : is_among first 0 number ≡ false = grind (arith, nat_tests) in
      sym (ap (λ b. cond b (day_from records cells site number) (held_at cells other number)) (ap (λ b. is_same_site site other && b) none ∙ never (is_same_site site other)));
  hours = λ other hour. refl;
  averages = λ other start. refl;
}

pub settled-more : (records : List OfficeRecord) (start now after : Cells) (site : Site) (first count day : ℕ) → first + count ≡ day → AreSettled records start now site first count
    → (held : HeldDay) → held ≡ day_from records now site day
    → ((other : Site) (number : ℕ) → held_at after other number ≡ cond (is_same_site site other && (day == number)) held (held_at now other number))
    → ((other : Site) (hour : ℕ) → hour_at after other hour ≡ hour_at now other hour)
    → ((other : Site) (start : ℕ) → average_at after other start ≡ average_at now other start)
    → AreSettled records start after site first (count + 1)
settled-more records start now after site first count day at so_far held is days hours averages =
    let held_is = is ∙ day-same records start now site day so_far.averages in
    record {
      days = λ other number.
          days other number
          ∙ (λ i. cond (is_same_site site other && (day == number)) (held_is i) (so_far.days other number i))
          ∙ one-more (is_same_site site other) first count number day (day_from records start site) (held_at start other number) at;
      hours = λ other hour. hours other hour ∙ so_far.hours other hour;
      averages = λ other number. averages other number ∙ so_far.averages other number;
    }

-- the next day gives its year what it should already, if each day did at first
pub already-now : (records : List OfficeRecord) (start now : Cells) (site : Site) (first count at day : ℕ) → first + at ≡ day → at < count
    → AreSettled records start now site first at → AreHeldAlready records start site first count → held_at now site day ≡ day_from records now site day
already-now records start now site first count at day is more so_far already =
    let off : is_among first at day ≡ false = grind (arith, nat_tests, is) in
    so_far.days site day
    ∙ ap (λ b. cond b (day_from records start site day) (held_at start site day)) (ap (λ b. is_same_site site site && b) off ∙ never (is_same_site site site))
    ∙ already day (omega (arith, is)) (omega (arith, is, more))
    ∙ sym (day-same records start now site day so_far.averages)

-- one day from itself on
pub day-alone : (b : Bool) (day number : ℕ) → (b && is_among day 1 number) ≡ (b && (day == number))
day-alone b day number = let is : is_among day 1 number ≡ (day == number) = grind (arith, nat_tests) in ap (λ t. b && t) is

-- rows with averages that are ozone's
pub net-rows : (f : ℕ → KeptAverage) (starts : List ℕ) → ((start : ℕ) → IfSome (f start).net IsOzone) → AreNetOzone (map (λ start. row_with (f start)) starts)
net-rows f [] each = tt
net-rows f (start ∷ starts) each = (each start, net-rows f starts each)

pub ranked-range : (day : HeldDay) → IfSome day.maximum IsOzone → IfSome (maximum_of day) IsOzone
ranked-range day ozone = elim day.valid as (λ b. IfSome (cond b day.maximum None) IsOzone) [ true ↦ ozone | false ↦ tt ]

-- how many of the numbers pass a test, with one number more
pub count-range : (p : ℕ → Bool) (a n number : ℕ) → a + n ≡ number → count_by p (range_with_len a (n + 1)) ≡ count_by p (range_with_len a n) + cond (p number) 1 0
count-range p a n number at =
    let one : n + 1 ≡ n + suc 0 = omega arith in
    ap (λ m. count_by p (range_with_len a m)) one ∙ ap (count_by p) (cut a n 0) ∙ count_more p (range_with_len a n) (a + n)
    ∙ ap (λ k. count_by p (range_with_len a n) + cond (p k) 1 0) at
