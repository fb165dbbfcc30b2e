-- Averages and days of ozone whose hours are as before.
use Rattle.std.proofs.Common.{◌≡◌, ℕ, zero, suc, ◌+◌, ◌*◌, ◌<◌, ◌≤◌, Bool, true, false, cond, List, ◌∷◌, map, refl, ap, arith}
use Rattle.std.specs.Prelude.{Option, nat_le}
use Rattle.std.specs.List.{filter, filter_map, cons_option, range_with_len}
use Rattle.std.proofs.lemmas.Bool.{leb-true}
use Rattle.aq_base.specs.Site.{Site}
use Rattle.aq_base.specs.declared.day.TheConstants.{LAST_HOUR}
use Rattle.aq_base.specs.declared.monitor.Pollutant.TheVariants.{Ozone}
use Rattle.aq_base.specs.declared.office.OfficeRecord.{OfficeRecord}
use Rattle.aq_rules.specs.Office.Office.{Office, IsOffice}
use Rattle.aq_rules.specs.Ozone.SiteHour.{site_hour}
use Rattle.aq_rules.specs.Ozone.EightHour.{window, row_of, eight_hours}
use Rattle.aq_rules.specs.Ozone.OzoneDay.{windows, starts_of, ozone_day, day_of_windows}
use Rattle.aq_rules.specs.Kept.Cells.{CellName, WindowCell, OzoneDayCell}
use Rattle.aq_rules.specs.Kept.Reach.{reach}
use Rattle.aq_rules.proofs.CellsOnce.{member}
use Rattle.aq_rules.proofs.Ranges.{range-agree}
use Rattle.aq_rules.proofs.Unreached.{ReadsAt}
use Rattle.aq_rules.proofs.UnreachedHour.{hour-out_of_reach}
use Rattle.aq_dirty.proofs.OutOfReachLemmas.Hours.{hour-out, window-reads, day-reads}

given-same : {Y : Type 0} (f g : ℕ → Option Y) (p : ℕ → Bool) (a n : ℕ) → ((k : ℕ) → a ≤ k → k < a + n → p k ≡ true → f k ≡ g k)
    → filter_map f (filter p (range_with_len a n)) ≡ filter_map g (filter p (range_with_len a n))
given-same f g p a zero same = refl
given-same {Y = Y} f g p a (suc n) same =
    by (p a) (filter p (range_with_len (a + 1) n)) (same a (omega arith) (omega arith)) (given-same f g p (a + 1) n (λ k low high. same k (omega arith) (omega arith)))
  where
    by : (b : Bool) (rest : List ℕ) → (b ≡ true → f a ≡ g a) → filter_map f rest ≡ filter_map g rest → filter_map f (cond b (a ∷ rest) rest) ≡ filter_map g (cond b (a ∷ rest) rest)
    by true rest here more = λ i. cons_option (here refl i) (more i)
    by false rest here more = more

module _ (a b : Office) (site : Site) where
  abbrev pub SameHours : ℕ → ℕ → Type 0
  SameHours from n = (hour : ℕ) → from ≤ hour → hour < from + n → hour ≤ LAST_HOUR → site_hour a site hour ≡ site_hour b site hour

  window-between : (start : ℕ) → SameHours start 8 → window a site start ≡ window b site start
  unfolding window eight_hours
  window-between start same =
      ap row_of (given-same (site_hour a site) (site_hour b site) (λ hour. nat_le hour LAST_HOUR) start 8 (λ k low high within. same k low high (leb-true k LAST_HOUR within)))

  pub ozone_day-between : (day : ℕ) → SameHours (24 * day + 7) 24 → ozone_day a site day ≡ ozone_day b site day
  unfolding ozone_day windows starts_of
  ozone_day-between day same =
      ap day_of_windows
      (range-agree (λ f ks. map f ks) (λ y k rest. y ∷ rest) (λ f k ks. refl) (λ f g. refl) (window a site) (window b site) (24 * day + 7) 17
      (λ start low high. window-between start (λ hour from to within. same hour (omega arith) (omega arith) within)))

  -- the hours that a cell out of reach reads are as before
  pub hours-same : IsOffice a → IsOffice b → (cell : CellName) (from n : ℕ)
      → ((records : List OfficeRecord) (hour : ℕ) → from ≤ hour → hour < from + n → ReadsAt cell records site Ozone hour)
      → member cell (reach a b) ≡ false → SameHours from n
  hours-same valid after cell from n here out hour low high within =
      hour-out_of_reach a b site hour within valid after (hour-out a b cell site hour (λ records. here records hour low high) out)

  pub window-out_of_reach : (start : ℕ) → IsOffice a → IsOffice b → member (WindowCell site start) (reach a b) ≡ false → window a site start ≡ window b site start
  window-out_of_reach start valid after out =
      window-between start (hours-same valid after (WindowCell site start) start 8 (λ records hour low high. window-reads records site start hour low high) out)

  pub day-out_of_reach : (day : ℕ) → IsOffice a → IsOffice b → member (OzoneDayCell site day) (reach a b) ≡ false → ozone_day a site day ≡ ozone_day b site day
  day-out_of_reach day valid after out =
      ozone_day-between day
      (hours-same valid after (OzoneDayCell site day) (24 * day + 7) 24 (λ records hour low high. day-reads records site day hour low (omega (arith, high))) out)
