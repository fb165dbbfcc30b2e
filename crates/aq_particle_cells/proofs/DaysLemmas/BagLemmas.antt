-- The bags of quarters and years are those of their days, once one day gives another item.
use Rattle.std.proofs.Common.{◌≡◌, ℕ, ◌+◌, ◌<◌, ◌≤◌, Bool, true, false, ◌&&◌, List, refl, ap, sym, subst, ◌∙◌, arith}
use Rattle.std.specs.Prelude.{◌==◌, ℤ, Option, Some, None, IfSome, filter_map}
use Rattle.std.specs.BTreeMap.{is_at}
use Rattle.std.specs.Map.{lookup}
use Rattle.std.specs.List.{range_with_len}
use Rattle.std.specs.List.Sorted.{IsPermutation}
use Rattle.std.proofs.lemmas.Bool.{false≢true}
use Rattle.std.proofs.lemmas.Bool.Decides.{nat_tests}
use Rattle.std.proofs.lemmas.List.FromFn.{length-range_with_len}
use Rattle.aq_base.specs.Site.{Site}
use Rattle.aq_agg.specs.AnyOrder.{sums-any_order}
use Rattle.aq_agg.specs.declared.sum_count.SumCount.{SumCount}
use Rattle.aq_agg.proofs.Exchanged.{any_order_at}
use Rattle.aq_agg.proofs.ItemsOfDays.{changed, same_items, Changed}
use Rattle.aq_agg.specs.Bags as bags
use Rattle.aq_agg.specs.Bags.{with_item, HasRoom, Holds}
use Rattle.aq_agg.specs.Tallies as tallies
use Rattle.aq_agg.specs.Tallies.{BagAt}
use Rattle.aq_rules.specs.Office.Monitors.{is_same_site}
use Rattle.aq_particle_cells.specs.Days.SiteTimes.{site_time, time_cmp}
use Rattle.aq_particle_cells.specs.Days.Tallied.{AreBags, AreSumsOf, ExchangesItem, HasBag, HasItem}
use Rattle.aq_particle_cells.specs.declared.days.site_time.SiteTime.{SiteTime}
use Rattle.aq_particle_cells.proofs.DaysLemmas.TimeLemmas.{apart, named, other-number}

pub sums-in_order : (a b : List ℤ) (kept : SumCount) → IsPermutation a b → AreSumsOf a kept → AreSumsOf b kept
sums-in_order a b kept moved of = sums-any_order a b kept.sum kept.number moved of

-- ---- one item, by the key of its bag

module _ {I A : Type 0} (is_of : List I → A → Type 0) (site : Site) (time : ℕ) (key : SiteTime) (is : key ≡ site_time site time) where
  pub bag-here : (bag : List I) (entries : List (SiteTime × A)) → HasBag is_of site time bag entries → BagAt time_cmp is_of key bag entries
  bag-here bag entries whole = subst (λ (k : SiteTime). BagAt time_cmp is_of k bag entries) (sym is) whole

  pub item-held : (old : Option I) (entries : List (SiteTime × A)) → HasItem is_of site time old entries → IfSome old (λ item. Holds (BagAt time_cmp is_of key) item entries)
  item-held None entries has = tt
  item-held (Some item) entries has = record { rest = has.rest; whole = bag-here (with_item (Some item) has.rest) entries has.whole }

  pub item-room : (new old : Option I) (entries : List (SiteTime × A)) → HasItem is_of site time old entries → IfSome new (λ item. HasRoom (BagAt time_cmp is_of key) entries)
  item-room None old entries has = tt
  item-room (Some item) None entries has = record { bag = has.rest; whole = bag-here has.rest entries has.whole; few = (let few = has.few in omega (arith, few)) }
  item-room (Some item) (Some o) entries has = record { bag = with_item (Some o) has.rest; whole = bag-here (with_item (Some o) has.rest) entries has.whole; few = (let few = has.few in omega (arith, few)) }

  pub item-exchanged : (old new : Option I) (before after : List (SiteTime × A)) → bags.Exchanges (BagAt time_cmp is_of key) old new before after
      → tallies.OthersStay time_cmp is_of key before after → ExchangesItem is_of site time old new before after
  item-exchanged old new before after exchanged stay = record {
    bag = subst (λ (k : SiteTime). bags.Exchanges (BagAt time_cmp is_of k) old new before after) is exchanged;
    others = λ other number differ.
        subst (λ (k : SiteTime). tallies.OthersStay time_cmp is_of k before after) is stay (site_time other number) (apart site other time number differ);
  }

-- ---- one item, told otherwise

module _ {I A : Type 0} (is_of : List I → A → Type 0) (site : Site) where
  pub item-at : (time at : ℕ) (item told : Option I) (entries : List (SiteTime × A)) → at ≡ time → told ≡ item → HasItem is_of site time item entries → HasItem is_of site at told entries
  item-at time at item told entries ai ti has =
      subst (λ (n : ℕ). HasItem is_of site n told entries) (sym ai) (subst (λ (o : Option I). HasItem is_of site time o entries) (sym ti) has)

  pub exchanged-at : (time at : ℕ) (old told new given : Option I) (before after : List (SiteTime × A)) → at ≡ time → told ≡ old → given ≡ new
      → ExchangesItem is_of site at told given before after → ExchangesItem is_of site time old new before after
  exchanged-at time at old told new given before after ai ti gi exchanged =
      subst (λ (n : ℕ). ExchangesItem is_of site n old new before after) ai
      (subst (λ (o : Option I). ExchangesItem is_of site at o new before after) ti
      (subst (λ (o : Option I). ExchangesItem is_of site at told o before after) gi exchanged))

-- ---- the bag of a span of days

module _ {I A : Type 0} (is_of : List I → A → Type 0) (any_order : (a b : List I) (kept : A) → IsPermutation a b → is_of a kept → is_of b kept) where
  pub any-bag : (site : Site) (time : ℕ) (a b : List I) (entries : List (SiteTime × A)) → IsPermutation a b → HasBag is_of site time a entries → HasBag is_of site time b entries
  any-bag site time a b entries moved of = any_order_at time_cmp is_of any_order (site_time site time) a b (lookup (is_at (time_cmp (site_time site time))) entries) moved of

  module _ (in_range : ℕ → Type 0) (first many : ℕ → ℕ) where
    abbrev span : ℕ → List ℕ
    span time = range_with_len (first time) (many time)

    -- what a day gives is in the bag of its span
    pub has-item : (item : Site → ℕ → Option I) (entries : List (SiteTime × A)) (site : Site) (time day : ℕ) → in_range time
        → first time ≤ day → day < first time + many time → many time ≤ 366 → AreBags is_of in_range first many item entries → HasItem is_of site time (item site day) entries
    has-item item entries site time day ranged low high few all =
        let at : Changed (item site) (item site) day (span time) = changed (item site) (item site) (first time) (many time) day low high (λ k differ. refl) in
        record {
          rest = at.rest;
          whole = any-bag site time (filter_map (item site) (span time)) (with_item (item site day) at.rest) entries at.before (all site time ranged);
          few = omega (arith, at.few, length-range_with_len (first time) (many time), few);
        }

    module _ (item now : Site → ℕ → Option I) (before after : List (SiteTime × A)) (site : Site) (time day : ℕ)
        (low : first time ≤ day) (high : day < first time + many time)
        (alone : (number : ℕ) → in_range number → first number ≤ day → day < first number + many number → number ≡ time)
        (same : (other : Site) (k : ℕ) → (is_same_site site other && (day == k)) ≡ false → item other k ≡ now other k)
        (exchanged : ExchangesItem is_of site time (item site day) (now site day) before after) where
      this : HasBag is_of site time (filter_map (item site) (span time)) before → HasBag is_of site time (filter_map (now site) (span time)) after
      this bag =
          let at : Changed (item site) (now site) day (span time) = changed (item site) (now site) (first time) (many time) day low high
          (λ k differ. same site k (other-number site site day k (λ e. differ (sym e)))) in
          any-bag site time (with_item (now site day) at.rest) (filter_map (now site) (span time)) after at.after
          (exchanged.bag at.rest (any-bag site time (filter_map (item site) (span time)) (with_item (item site day) at.rest) before at.before bag))

      another : (other : Site) (number : ℕ) → in_range number → (is_same_site site other && (time == number)) ≡ false
          → HasBag is_of other number (filter_map (item other) (span number)) before → HasBag is_of other number (filter_map (now other) (span number)) after
      another other number ranged differ bag =
          subst (λ (l : List I). HasBag is_of other number l after)
          (same_items (item other) (now other) (first number) (many number) (λ k from to. same other k (elsewhere k from to)))
          (exchanged.others other number differ (filter_map (item other) (span number)) bag)
        where
          elsewhere : (k : ℕ) → first number ≤ k → k < first number + many number → (is_same_site site other && (day == k)) ≡ false
          elsewhere k from to = by (is_same_site site other && (day == k)) refl
            where
              by : (b : Bool) → (is_same_site site other && (day == k)) ≡ b → b ≡ false
              by false is = refl
              by true is =
                  let both = named site other day k is in
                  let number_is : number ≡ time = alone number ranged (omega (arith, from, both.1)) (omega (arith, to, both.1)) in
                  let on : (time == number) ≡ true = grind (arith, nat_tests, number_is) in
                  absurd (false≢true (sym differ ∙ ap (λ b. is_same_site site other && b) on ∙ ap (λ (s : Site). is_same_site site s && true) (sym both.0) ∙ same-itself))
                where
                  same-itself : (is_same_site site site && true) ≡ true
                  same-itself = grind (arith, nat_tests)

      pub bags-after : AreBags is_of in_range first many item before → AreBags is_of in_range first many now after
      bags-after all other number ranged = by (is_same_site site other && (time == number)) refl
        where
          by : (b : Bool) → (is_same_site site other && (time == number)) ≡ b → HasBag is_of other number (filter_map (now other) (span number)) after
          by true is =
              let both = named site other time number is in
              subst (λ (s : Site). HasBag is_of s number (filter_map (now s) (span number)) after) both.0
              (subst (λ (n : ℕ). HasBag is_of site n (filter_map (now site) (span n)) after) both.1
              (this (all site time (subst in_range (sym both.1) ranged))))
          by false is = another other number ranged is (all other number ranged)
