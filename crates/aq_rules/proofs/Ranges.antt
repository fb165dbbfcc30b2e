-- Lists over a range of numbers depend on nothing outside the range.
use Rattle.std.proofs.Common.{◌≡◌, ℕ, zero, suc, ◌+◌, ◌*◌, ◌<◌, ◌≤◌, Bool, true, false, cond, List, [], ◌∷◌, map, refl, sym, ap, ◌∙◌, arith}
use Rattle.std.specs.List.{filter, filter_map, cons_option, range_with_len}
use Rattle.std.specs.Prelude.{Option, nat_le}
use Rattle.aq_base.specs.declared.day.TheConstants.{LAST_HOUR}
use Rattle.aq_base.specs.Site.{Site}
use Rattle.aq_rules.specs.Office.Office.{Office}
use Rattle.aq_rules.specs.Ozone.SiteHour.{site_hour}
use Rattle.aq_rules.specs.Ozone.EightHour.{window, row_of, eight_hours}
use Rattle.aq_rules.specs.Ozone.OzoneDay.{windows, starts_of, ozone_day, day_of_windows}

-- what is made of a list element by element is the same for two functions that agree on a range
pub range-agree : {A B : Type 0} (made : (ℕ → A) → List ℕ → B) (step : A → ℕ → B → B)
    → ((f : ℕ → A) (k : ℕ) (ks : List ℕ) → made f (k ∷ ks) ≡ step (f k) k (made f ks)) → ((f g : ℕ → A) → made f [] ≡ made g [])
    → (f g : ℕ → A) (a n : ℕ) → ((k : ℕ) → a ≤ k → k < a + n → f k ≡ g k) → made f (range_with_len a n) ≡ made g (range_with_len a n)
range-agree made step more none f g a zero same = none f g
range-agree made step more none f g a (suc n) same =
    let here : f a ≡ g a = same a (omega arith) (omega arith) in
    let rest : made f (range_with_len (a + 1) n) ≡ made g (range_with_len (a + 1) n) =
    range-agree made step more none f g (a + 1) n (λ k low high. same k (omega arith) (omega arith))
    in
    more f a (range_with_len (a + 1) n) ∙ (λ i. step (here i) a (rest i)) ∙ sym (more g a (range_with_len (a + 1) n))

filter_map-range : {Y : Type 0} (f g : ℕ → Option Y) (p : ℕ → Bool) (a n : ℕ) → ((k : ℕ) → a ≤ k → k < a + n → f k ≡ g k)
    → filter_map f (filter p (range_with_len a n)) ≡ filter_map g (filter p (range_with_len a n))
filter_map-range {Y} f g p a n same =
    range-agree (λ (h : ℕ → Option Y) ks. filter_map h (filter p ks)) (λ o k rest. cond (p k) (cons_option o rest) rest)
    (λ h k ks. passed h k ks (p k)) (λ f g. refl) f g a n same
  where
    passed : (h : ℕ → Option Y) (k : ℕ) (ks : List ℕ) (b : Bool)
        → filter_map h (cond b (k ∷ filter p ks) (filter p ks)) ≡ cond b (cons_option (h k) (filter_map h (filter p ks))) (filter_map h (filter p ks))
    passed h k ks true = refl
    passed h k ks false = refl

map-range : {Y : Type 0} (f g : ℕ → Y) (a n : ℕ) → ((k : ℕ) → a ≤ k → k < a + n → f k ≡ g k)
    → map f (range_with_len a n) ≡ map g (range_with_len a n)
map-range {Y} f g a n same = range-agree (λ (h : ℕ → Y) ks. map h ks) (λ y k rest. y ∷ rest) (λ h k ks. refl) (λ f g. refl) f g a n same

-- an average by its eight site hours
pub window-same : (a b : Office) (site : Site) (start : ℕ)
    → ((hour : ℕ) → start ≤ hour → hour < start + 8 → site_hour a site hour ≡ site_hour b site hour)
    → window a site start ≡ window b site start
unfolding window eight_hours
window-same a b site start same = ap row_of (filter_map-range (site_hour a site) (site_hour b site) (λ hour. nat_le hour LAST_HOUR) start 8 same)

-- a day's averages by the site hours from 07:00 to 06:00 of the next day
pub windows-same : (a b : Office) (site : Site) (day : ℕ)
    → ((hour : ℕ) → 24 * day + 7 ≤ hour → hour < 24 * day + 31 → site_hour a site hour ≡ site_hour b site hour)
    → windows a site day ≡ windows b site day
unfolding windows starts_of
windows-same a b site day same =
    map-range (window a site) (window b site) (24 * day + 7) 17
    (λ start low high. window-same a b site start (λ hour from to. same hour (omega arith) (omega arith)))

pub ozone_day-same : (a b : Office) (site : Site) (day : ℕ)
    → ((hour : ℕ) → 24 * day + 7 ≤ hour → hour < 24 * day + 31 → site_hour a site hour ≡ site_hour b site hour)
    → ozone_day a site day ≡ ozone_day b site day
unfolding ozone_day
ozone_day-same a b site day same = ap day_of_windows (windows-same a b site day same)
