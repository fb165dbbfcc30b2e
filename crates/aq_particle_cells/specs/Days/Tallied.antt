-- The bags of quarters and years of sites, of which a day changes one item.
use Rattle.std.specs.Prelude.{◌≡◌, ◌<◌, ℕ, ◌&&◌, ◌==◌, false, List, length, filter_map, Option, ℤ}
use Rattle.std.specs.List.{range_with_len}
use Rattle.aq_base.specs.Site.{Site}
use Rattle.aq_agg.specs.Bags.{with_item, Exchanges, Stays}
use Rattle.aq_agg.specs.Sums.{AreOf}
use Rattle.aq_agg.specs.Tallies.{BagAt}
use Rattle.aq_agg.specs.declared.sum_count.SumCount.{SumCount}
use Rattle.aq_rules.specs.Office.Monitors.{is_same_site}
use Rattle.aq_particle_cells.specs.Days.SiteTimes.{site_time, time_cmp}
use Rattle.aq_particle_cells.specs.declared.days.site_time.SiteTime.{SiteTime}

module _ {I A : Type 0} (is_of : List I → A → Type 0) where
  -- the bag of a quarter or a year of a site
  abbrev pub HasBag : Site → ℕ → List I → List (SiteTime × A) → Type 0
  HasBag site time bag entries = BagAt time_cmp is_of (site_time site time) bag entries

  -- the item, if there is one, is in that bag, which has few others
  pub record HasItem (site : Site) (time : ℕ) (item : Option I) (entries : List (SiteTime × A)) : Type 0 where
    pub rest : List I
    pub whole : HasBag site time (with_item item rest) entries
    pub few : length rest < 366

  -- that bag has the second item in place of the first, and all other bags stay
  pub record ExchangesItem (site : Site) (time : ℕ) (old new : Option I) (before after : List (SiteTime × A)) : Type 0 where
    pub bag : Exchanges (HasBag site time) old new before after
    pub others : (other : Site) (number : ℕ) → (is_same_site site other && (time == number)) ≡ false → Stays (HasBag other number) before after

  -- each span of days in range has the bag of what its days give; `number` names the spans
  abbrev pub AreBags : (ℕ → Type 0) → (ℕ → ℕ) → (ℕ → ℕ) → (Site → ℕ → Option I) → List (SiteTime × A) → Type 0
  AreBags in_range first many item entries =
      (site : Site) (time : ℕ) → in_range time → HasBag site time (filter_map (item site) (range_with_len (first time) (many time))) entries

-- what is kept of a bag of which the sum and the number are asked
abbrev pub AreSumsOf : List ℤ → SumCount → Type 0
AreSumsOf bag kept = AreOf bag kept.sum kept.number
