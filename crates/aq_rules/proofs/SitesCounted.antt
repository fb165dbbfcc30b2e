-- How many sites are registered does not depend on the order of the records.
use Rattle.std.proofs.Common.{◌≡◌, ℕ, ◌+◌, Bool, true, false, cond, ◌||◌, List, [], ◌∷◌, ◌++◌, length, refl, sym, ap, ◌∙◌, arith}
use Rattle.std.specs.Prelude.{filter}
use Rattle.std.specs.List.{list_any}
use Rattle.std.proofs.lemmas.Bool.{false≢true}
use Rattle.aq_base.specs.Site.{Site}
use Rattle.aq_base.specs.declared.monitor.Duration.{Duration}
use Rattle.aq_base.specs.declared.monitor.MonitorId.{MonitorId}
use Rattle.aq_base.specs.declared.office.OfficeRecord.{OfficeRecord}
use Rattle.aq_base.specs.declared.office.OfficeRecord.TheVariants.{Monitor}
use Rattle.aq_rules.specs.Office.Office.{is_same, site_numbers, with_site, sites_of}
use Rattle.aq_rules.proofs.Tests.{or_turns}
use Rattle.aq_rules.proofs.Lookups.{same-is, same-itself, same-flip}

-- whether a site is listed
abbrev pub lists : Site → List Site → Bool
lists site sites = list_any (λ other. is_same (site_numbers other) (site_numbers site)) sites

abbrev pub sites_with : OfficeRecord → List Site → List Site
sites_with (Monitor id duration eligible) sites = with_site id.site sites
sites_with _ sites = sites

-- as many sites, and the same ones
pub record SameSites (xs ys : List Site) : Type 0 where
  pub len : length xs ≡ length ys
  pub listed : (site : Site) → lists site xs ≡ lists site ys

pub listed_with : (site new : Site) (sites : List Site)
    → lists site (with_site new sites) ≡ (is_same (site_numbers new) (site_numbers site) || lists site sites)
listed_with site new sites = choose (lists new sites) (is_same (site_numbers new) (site_numbers site)) refl refl
  where
    choose : (a b : Bool) → lists new sites ≡ a → is_same (site_numbers new) (site_numbers site) ≡ b
        → lists site (cond a sites (new ∷ sites)) ≡ (is_same (site_numbers new) (site_numbers site) || lists site sites)
    choose true true h k =
        let same : lists new sites ≡ lists site sites =
        ap (λ numbers. list_any (λ other. is_same (site_numbers other) numbers) sites) (same-is (site_numbers new) (site_numbers site) k) in
        sym same ∙ h ∙ ap (λ c. c || lists site sites) (sym k)
    choose true false h k = ap (λ c. c || lists site sites) (sym k)
    choose false b h k = refl

pub length-with_site : (new : Site) (sites : List Site) → length (with_site new sites) ≡ cond {A = ℕ} (lists new sites) 0 1 + length sites
length-with_site new sites = choose (lists new sites)
  where
    choose : (a : Bool) → length (cond a sites (new ∷ sites)) ≡ cond {A = ℕ} a 0 1 + length sites
    choose true = omega arith
    choose false = omega arith

pub SameSites-is : (xs ys : List Site) → xs ≡ ys → SameSites xs ys
SameSites-is xs ys e = record { len = ap length e; listed = λ site. ap (lists site) e }

pub SameSites-trans : (xs ys zs : List Site) → SameSites xs ys → SameSites ys zs → SameSites xs zs
SameSites-trans xs ys zs h k = record { len = h.len ∙ k.len; listed = λ site. h.listed site ∙ k.listed site }

SameSites-with_site : (new : Site) (xs ys : List Site) → SameSites xs ys → SameSites (with_site new xs) (with_site new ys)
SameSites-with_site new xs ys same = record {
  len =
      let listed : cond {A = ℕ} (lists new xs) 0 1 ≡ cond {A = ℕ} (lists new ys) 0 1 = ap (λ b. cond {A = ℕ} b 0 1) (same.listed new) in
      let len = same.len in
      omega (arith, length-with_site new xs, length-with_site new ys);
  listed = λ site.
      listed_with site new xs ∙ ap (λ b. is_same (site_numbers new) (site_numbers site) || b) (same.listed site) ∙ sym (listed_with site new ys);
}

SameSites-turned : (s t : Site) (xs : List Site) → SameSites (with_site s (with_site t xs)) (with_site t (with_site s xs))
SameSites-turned s t xs = record {
  len =
      let one : cond {A = ℕ} (lists s (with_site t xs)) 0 1 ≡ cond {A = ℕ} (is_same (site_numbers t) (site_numbers s) || lists s xs) 0 1 =
      ap (λ b. cond {A = ℕ} b 0 1) (listed_with s t xs) in
      let two : cond {A = ℕ} (lists t (with_site s xs)) 0 1 ≡ cond {A = ℕ} (is_same (site_numbers s) (site_numbers t) || lists t xs) 0 1 =
      ap (λ b. cond {A = ℕ} b 0 1) (listed_with t s xs) in
      let sums = both_ways (is_same (site_numbers t) (site_numbers s)) (is_same (site_numbers s) (site_numbers t)) (lists s xs) (lists t xs)
      (λ same. same-flip (site_numbers s) (site_numbers t) ∙ same) (λ same. same-flip (site_numbers t) (site_numbers s) ∙ same)
      (λ same. ap (λ numbers. list_any (λ other. is_same (site_numbers other) numbers) xs) (sym (same-is (site_numbers t) (site_numbers s) same))) in
      omega (arith, length-with_site s (with_site t xs), length-with_site t xs, length-with_site t (with_site s xs), length-with_site s xs);
  listed = λ site.
      listed_with site s (with_site t xs)
      ∙ ap (λ b. is_same (site_numbers s) (site_numbers site) || b) (listed_with site t xs)
      ∙ or_turns (is_same (site_numbers s) (site_numbers site)) (is_same (site_numbers t) (site_numbers site)) (lists site xs)
      ∙ ap (λ b. is_same (site_numbers t) (site_numbers site) || b) (sym (listed_with site s xs))
      ∙ sym (listed_with site t (with_site s xs));
}
  where
    both_ways : (e f a b : Bool) → (e ≡ true → f ≡ true) → (f ≡ true → e ≡ true) → (e ≡ true → a ≡ b)
        → cond {A = ℕ} (e || a) 0 1 + cond {A = ℕ} b 0 1 ≡ cond {A = ℕ} (f || b) 0 1 + cond {A = ℕ} a 0 1
    both_ways true true a b p q r = ap (λ c. cond {A = ℕ} true 0 1 + cond {A = ℕ} c 0 1) (sym (r refl))
    both_ways true false a b p q r = absurd (false≢true (p refl))
    both_ways false true a b p q r = absurd (false≢true (q refl))
    both_ways false false true true p q r = refl
    both_ways false false true false p q r = refl
    both_ways false false false true p q r = refl
    both_ways false false false false p q r = refl

pub sites_of-cons : (r : OfficeRecord) (rows : List OfficeRecord) → sites_of (r ∷ rows) ≡ sites_with r (sites_of rows)
sites_of-cons (Monitor id duration eligible) rows = refl
sites_of-cons r rows = refl

pub SameSites-sites_with : (r : OfficeRecord) (xs ys : List Site) → SameSites xs ys → SameSites (sites_with r xs) (sites_with r ys)
SameSites-sites_with (Monitor id duration eligible) xs ys same = SameSites-with_site id.site xs ys same
SameSites-sites_with r xs ys same = same

pub SameSites-sites_turned : (q r : OfficeRecord) (xs : List Site) → SameSites (sites_with q (sites_with r xs)) (sites_with r (sites_with q xs))
SameSites-sites_turned (Monitor id duration eligible) (Monitor other period counts) xs = SameSites-turned id.site other.site xs
SameSites-sites_turned (Monitor id duration eligible) r xs = SameSites-is _ _ refl
SameSites-sites_turned q r xs = SameSites-is _ _ refl

pub sites_twice : (r : OfficeRecord) (xs : List Site) → sites_with r (sites_with r xs) ≡ sites_with r xs
sites_twice (Monitor id duration eligible) xs =
    ap (λ b. cond b (with_site id.site xs) (id.site ∷ with_site id.site xs))
    (listed_with id.site id.site xs ∙ ap (λ b. b || lists id.site xs) (same-itself (site_numbers id.site)))
sites_twice r xs = refl

-- a record between others counts as if it stood before them
pub sites_joined : (front back : List OfficeRecord) (r : OfficeRecord) → SameSites (sites_of (front ++ r ∷ back)) (sites_with r (sites_of (front ++ back)))
sites_joined [] back r = SameSites-is _ _ (sites_of-cons r back)
sites_joined (q ∷ front) back r =
    SameSites-trans _ _ _ (SameSites-is _ _ (sites_of-cons q (front ++ r ∷ back)))
    (SameSites-trans _ _ _ (SameSites-sites_with q _ _ (sites_joined front back r))
    (SameSites-trans _ _ _ (SameSites-sites_turned q r (sites_of (front ++ back)))
    (SameSites-is _ _ (ap (sites_with r) (sym (sites_of-cons q (front ++ back)))))))

pub sites_alike : (front back : List OfficeRecord) (x y : OfficeRecord) → ((sites : List Site) → sites_with x sites ≡ sites_with y sites)
    → sites_of (front ++ x ∷ back) ≡ sites_of (front ++ y ∷ back)
sites_alike [] back x y same = sites_of-cons x back ∙ same (sites_of back) ∙ sym (sites_of-cons y back)
sites_alike (q ∷ front) back x y same =
    sites_of-cons q (front ++ x ∷ back) ∙ ap (sites_with q) (sites_alike front back x y same) ∙ sym (sites_of-cons q (front ++ y ∷ back))

-- dropping other records drops no site
pub sites-filter : (keep : OfficeRecord → Bool) (rows : List OfficeRecord)
    → ((id : MonitorId) (duration : Duration) (eligible : Bool) → keep (Monitor id duration eligible) ≡ true) → sites_of (filter keep rows) ≡ sites_of rows
sites-filter keep [] monitors = refl
sites-filter keep (r ∷ rows) monitors =
    choose (keep r) (unsited r) ∙ ap (sites_with r) (sites-filter keep rows monitors) ∙ sym (sites_of-cons r rows)
  where
    unsited : (r : OfficeRecord) → keep r ≡ false → (sites : List Site) → sites_with r sites ≡ sites
    unsited (Monitor id duration eligible) drops sites = absurd (false≢true (sym drops ∙ monitors id duration eligible))
    unsited r drops sites = refl

    choose : (b : Bool) → (b ≡ false → (sites : List Site) → sites_with r sites ≡ sites)
        → sites_of (cond b (r ∷ filter keep rows) (filter keep rows)) ≡ sites_with r (sites_of (filter keep rows))
    choose true h = sites_of-cons r (filter keep rows)
    choose false h = sym (h refl (sites_of (filter keep rows)))
