-- The bag of a year, by the key of a site and its year.
use Rattle.std.proofs.Common.{◌≡◌, ◌≢◌, ℕ, ◌<◌, true, false, ◌&&◌, List, length, ap, sym, ◌∙◌, subst, arith}
use Rattle.std.specs.Prelude.{Option, Some, None, ◌==◌, ℤ, IfSome}
use Rattle.std.specs.Ordering.{is_eq}
use Rattle.std.specs.declared.cmp.Ordering.TheVariants.{Equal}
use Rattle.std.proofs.lemmas.Bool.Decides.{nat_tests}
use Rattle.std.proofs.lemmas.Bool.{false≢true}
use Rattle.aq_base.specs.Site.{Site}
use Rattle.aq_agg.specs.Bags as bags
use Rattle.aq_agg.specs.Bags.{with_item, HasRoom, Stays}
use Rattle.aq_agg.specs.Tallies as tallies
use Rattle.aq_agg.specs.Tallies.{BagAt}
use Rattle.aq_rules.specs.Office.Monitors.{is_same_site}
use Rattle.aq_ozone_cells.specs.SiteKeys.{key_cmp, site_key}
use Rattle.aq_ozone_cells.specs.declared.site_key.SiteKey.{SiteKey}
use Rattle.aq_ozone_cells.proofs.SiteNumbers.{same-key}

turned : (x y : ℕ) → (x == y) ≡ (y == x)
turned x y = grind (arith, nat_tests)

apart : (site other : Site) (year number : ℕ) → (is_same_site site other && (year == number)) ≡ false → key_cmp (site_key other number) (site_key site year) ≢ Equal
apart site other year number differ same =
    let one : (is_same_site other site && (number == year)) ≡ true = sym (same-key other site number year) ∙ ap is_eq same in
    let two : (is_same_site site other && (year == number)) ≡ (is_same_site other site && (number == year))
    = λ i. turned site.state other.state i && turned site.county other.county i && turned site.number other.number i && turned year number i in
    false≢true (sym differ ∙ two ∙ one)

module _ {A : Type 0} (is_of : List ℤ → A → Type 0) (site : Site) (year : ℕ) (key : SiteKey) (is : key ≡ site_key site year) where
  pub bag-exchange : (old new before_item after_item : Option ℤ) (before after : List (SiteKey × A)) → old ≡ before_item → new ≡ after_item
      → bags.Exchanges (BagAt key_cmp is_of key) old new before after → bags.Exchanges (BagAt key_cmp is_of (site_key site year)) before_item after_item before after
  bag-exchange old new before_item after_item before after was becomes h =
      subst (λ (k : SiteKey). bags.Exchanges (BagAt key_cmp is_of k) before_item after_item before after) is
      (subst (λ (o : Option ℤ). bags.Exchanges (BagAt key_cmp is_of key) before_item o before after) becomes
      (subst (λ (o : Option ℤ). bags.Exchanges (BagAt key_cmp is_of key) o new before after) was h))

  pub bag-others : (before after : List (SiteKey × A)) → tallies.OthersStay key_cmp is_of key before after
      → (other : Site) (number : ℕ) → (is_same_site site other && (year == number)) ≡ false
      → (bag : List ℤ) → BagAt key_cmp is_of (site_key other number) bag before → BagAt key_cmp is_of (site_key other number) bag after
  bag-others before after stay other number differ =
      subst (λ (k : SiteKey). tallies.OthersStay key_cmp is_of k before after) is stay (site_key other number) (apart site other year number differ)

  pub bag-here : (bag : List ℤ) (entries : List (SiteKey × A)) → BagAt key_cmp is_of (site_key site year) bag entries → BagAt key_cmp is_of key bag entries
  bag-here bag entries whole = subst (λ (k : SiteKey). BagAt key_cmp is_of k bag entries) (sym is) whole

  pub bag-room : (new old : Option ℤ) (rest : List ℤ) (entries : List (SiteKey × A)) → length rest < 366 → BagAt key_cmp is_of (site_key site year) (with_item old rest) entries
      → IfSome new (λ item. HasRoom (BagAt key_cmp is_of key) entries)
  bag-room None old rest entries few whole = tt
  bag-room (Some item) None rest entries few whole = record { bag = rest; whole = bag-here rest entries whole; few = omega (arith, few) }
  bag-room (Some item) (Some o) rest entries few whole = record { bag = with_item (Some o) rest; whole = bag-here (with_item (Some o) rest) entries whole; few = omega (arith, few) }
