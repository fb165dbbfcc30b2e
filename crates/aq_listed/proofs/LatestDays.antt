-- The last day of monitors: of two lists, and of the walks over monitors and over sites.
use Rattle.std.proofs.Common.{◌≡◌, ℕ, Option, Some, None, List, [], ◌∷◌, ◌++◌, map, flat_map, refl, ap, sym, ◌∙◌, arith}
use Rattle.std.specs.Prelude.{max}
use Rattle.std.specs.List.{cons_option}
use Rattle.std.proofs.lemmas.List.{append-nil, map-append}
use Rattle.aq_base.specs.Site.{Site}
use Rattle.aq_rules.specs.Listed.Monitors.{ListedMonitor, RegisteredMonitor}
use Rattle.aq_listed.specs.LastDay.{later, latest}
use Rattle.aq_listed.proofs.MonitorRows.{first_apart}

pub later-none : (day : Option ℕ) → later day None ≡ day
later-none None = refl
later-none (Some day) = refl

later-assoc : (a b c : Option ℕ) → later (later a b) c ≡ later a (later b c)
later-assoc None b c = refl
later-assoc (Some a) None c = refl
later-assoc (Some a) (Some b) None = refl
later-assoc (Some a) (Some b) (Some c) = let same : max (max a b) c ≡ max a (max b c) = omega arith in ap Some same

latest-append : (xs ys : List ListedMonitor) → latest (xs ++ ys) ≡ later (latest xs) (latest ys)
latest-append [] ys = refl
latest-append (x ∷ xs) ys = ap (later x.last) (latest-append xs ys) ∙ sym (later-assoc x.last (latest xs) (latest ys))

module _ (f : RegisteredMonitor → ListedMonitor) where
  -- one more monitor, if it is registered
  pub later_monitor : (all day one new : Option ℕ) (o : Option RegisteredMonitor) (here behind : List RegisteredMonitor) → new ≡ later day one → one ≡ latest (map f (cons_option o [])) → here ≡ cons_option o behind
      → later day (latest (map f here)) ≡ all → later new (latest (map f behind)) ≡ all
  later_monitor all day one new o here behind is last next so_far =
      ap (λ d. later d (latest (map f behind))) (is ∙ ap (later day) last)
      ∙ later-assoc day (latest (map f (cons_option o []))) (latest (map f behind))
      ∙ ap (later day) (sym (latest-append (map f (cons_option o [])) (map f behind)) ∙ ap latest (first_apart f o behind ∙ ap (map f) (sym next)))
      ∙ so_far

  -- none is left
  pub all_monitors_done : (day : Option ℕ) (here all whole : List RegisteredMonitor) → here ≡ [] → later day (latest (map f here)) ≡ latest (map f all) → all ≡ whole → day ≡ latest (map f whole)
  all_monitors_done day here all whole none so_far is =
      sym (later-none day) ∙ ap (λ (l : List RegisteredMonitor). later day (latest (map f l))) (sym none) ∙ so_far ∙ ap (λ l. latest (map f l)) is

  -- three parts, one behind the other
  pub latest_of_three : (a b c : List RegisteredMonitor) → latest (map f (a ++ (b ++ (c ++ [])))) ≡ later (latest (map f a)) (later (latest (map f b)) (latest (map f c)))
  latest_of_three a b c =
      ap latest (map-append f a (b ++ (c ++ [])))
      ∙ latest-append (map f a) (map f (b ++ (c ++ [])))
      ∙ ap (later (latest (map f a)))
      (ap latest (map-append f b (c ++ [])) ∙ latest-append (map f b) (map f (c ++ [])) ∙ ap (λ l. later (latest (map f b)) (latest (map f l))) (append-nil c))

module _ (rows_of : Site → List ListedMonitor) where
  -- one more site
  pub later_site : (day one new : Option ℕ) (site : Site) (here behind : List Site) → new ≡ later day one → one ≡ latest (rows_of site) → here ≡ site ∷ behind
      → later new (latest (flat_map rows_of behind)) ≡ later day (latest (flat_map rows_of here))
  later_site day one new site here behind is last next =
      ap (λ d. later d (latest (flat_map rows_of behind))) (is ∙ ap (later day) last)
      ∙ later-assoc day (latest (rows_of site)) (latest (flat_map rows_of behind))
      ∙ ap (later day) (sym (latest-append (rows_of site) (flat_map rows_of behind)) ∙ ap (λ l. latest (flat_map rows_of l)) (sym next))
