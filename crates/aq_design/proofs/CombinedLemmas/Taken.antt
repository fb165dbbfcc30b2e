-- The make-up sample of a day, found in a site's records and among its make-ups of a quarter.
use Rattle.std.proofs.Common.{◌≡◌, ℕ, ◌+◌, ◌≤◌, Bool, true, false, cond, ◌&&◌, ◌||◌, ◌==◌, Some, None, Option, List, [], ◌∷◌, map, refl, ap, sym, ◌∙◌, arith}
use Rattle.std.specs.Prelude.{count_by, filter, nat_le, nat_lt, option_and_then, slice_get}
use Rattle.std.specs.List.{filter_map, cons_option, list_all, list_any}
use Rattle.std.specs.Option.{option_map_or}
use Rattle.std.proofs.lemmas.Bool.{false≢true, and_parts, eqb-true, leb-true}
use Rattle.std.proofs.lemmas.List.Sums.{sum_by-cons}
use Rattle.aq_base.specs.Calendar.{quarter_of}
use Rattle.aq_base.specs.Site.{Site}
use Rattle.aq_base.specs.declared.day.TheConstants.{LAST_DAY}
use Rattle.aq_base.specs.declared.office.OfficeRecord.{OfficeRecord}
use Rattle.aq_base.specs.declared.office.OfficeRecord.TheVariants.{Makeup as MakeupRecord}
use Rattle.aq_rules.specs.Combined.Pair.{Pair, would_give_credit}
use Rattle.aq_rules.specs.Lines.OfficeForms.{is_makeup}
use Rattle.aq_rules.specs.Office.Monitors.{is_same_site}
use Rattle.aq_rules.specs.Office.Office.{Office, fits_records, is_day, is_record, is_site}
use Rattle.aq_rules.specs.Office.Questions.{makeup_of, missed_for, missed_of}
use Rattle.aq_rules.specs.Office.Sameness.{number_itself}
use Rattle.aq_rules.specs.Particles.QuarterCounts.{Makeup, makeup_by}
use Rattle.aq_rules.proofs.Pm25Counts.{is_record-of}
use Rattle.aq_particles.specs.Pm25.SiteDays.{as_makeup}
use Rattle.aq_design.specs.Combined.Makeups.{is_taken, makeup_of_pair}

count_cons : {X : Type 0} (p : X → Bool) (x : X) (xs : List X) → count_by p (x ∷ xs) ≡ cond (p x) 1 0 + count_by p xs
count_cons {X} p x xs = sum_by-cons (λ (y : X). cond (p y) 1 0) x xs

-- a make-up sample is taken in the quarter of its missed day
pub same-quarter : (site : Site) (missed makeup : ℕ) → is_record (MakeupRecord site missed makeup) ≡ true → (quarter_of makeup ≡ quarter_of missed) × (missed ≤ LAST_DAY)
same-quarter site missed makeup is =
    let h = and_parts (is_site site && is_day missed) (is_day makeup && is_makeup missed makeup) is in
    let b = and_parts (is_site site) (is_day missed) h.0 in
    let c = and_parts (is_day makeup) (is_makeup missed makeup) h.1 in
    let span = and_parts _ (nat_le makeup (missed + 7)) c.1 in
    let there = and_parts _ (quarter_of makeup == quarter_of missed) span.0 in
    (eqb-true (quarter_of makeup) (quarter_of missed) there.1, leb-true missed LAST_DAY b.1)

module _ (day : ℕ) where
  abbrev pub is_on : Makeup → Bool
  is_on m = m.makeup == day

  none_on : (made : List Makeup) → count_by is_on made ≡ 0 → (g : Makeup → Bool) → list_any is_on (filter g made) ≡ false
  none_on [] none g = refl
  none_on (m ∷ made) none g = by_tests (m.makeup == day) (g m) refl (none_on made)
    where
      by_tests : (a b : Bool) → is_on m ≡ a → (count_by is_on made ≡ 0 → (g : Makeup → Bool) → list_any is_on (filter g made) ≡ false)
          → list_any is_on (cond b (m ∷ filter g made) (filter g made)) ≡ false
      by_tests true b is rest = absurd (omega (arith, none, count_cons is_on m made, ap (λ (t : Bool). cond {A = ℕ} t 1 0) is))
      by_tests false true is rest =
          let less : count_by is_on made ≡ 0 = omega (arith, none, count_cons is_on m made, ap (λ (t : Bool). cond {A = ℕ} t 1 0) is) in
          ap (λ (t : Bool). t || list_any is_on (filter g made)) is ∙ rest less g
      by_tests false false is rest =
          let less : count_by is_on made ≡ 0 = omega (arith, none, count_cons is_on m made, ap (λ (t : Bool). cond {A = ℕ} t 1 0) is) in
          rest less g

  -- the missed day of the first one
  abbrev first : List Makeup → Option ℕ
  first ms = slice_get (map (λ (m : Makeup). m.missed) ms) 0

  abbrev passes : (Makeup → Bool) → Option ℕ → Bool
  passes g missed = option_map_or (λ d. g (as_makeup d day)) missed false

  -- if one at most is on the day, it is the first one that is
  pub one_on : (made : List Makeup) → count_by is_on made ≤ 1 → (g : Makeup → Bool) → list_any is_on (filter g made) ≡ passes g (first (filter is_on made))
  one_on [] few g = refl
  one_on (m ∷ made) few g = by_test (m.makeup == day) refl (one_on made)
    where
      here : (b : Bool) → is_on m ≡ true → list_any is_on (filter g made) ≡ false → list_any is_on (cond b (m ∷ filter g made) (filter g made)) ≡ b
      here true on none = ap (λ (t : Bool). t || list_any is_on (filter g made)) on
      here false on none = none

      other : (b : Bool) → is_on m ≡ false → list_any is_on (cond b (m ∷ filter g made) (filter g made)) ≡ list_any is_on (filter g made)
      other true off = ap (λ (t : Bool). t || list_any is_on (filter g made)) off
      other false off = refl

      by_test : (a : Bool) → is_on m ≡ a → (count_by is_on made ≤ 1 → (g : Makeup → Bool) → list_any is_on (filter g made) ≡ passes g (first (filter is_on made)))
          → list_any is_on (cond (g m) (m ∷ filter g made) (filter g made)) ≡ passes g (first (cond a (m ∷ filter is_on made) (filter is_on made)))
      by_test true is rest =
          let none : count_by is_on made ≡ 0 = omega (arith, few, count_cons is_on m made, ap (λ (t : Bool). cond {A = ℕ} t 1 0) is) in
          let on : m.makeup ≡ day = eqb-true m.makeup day is in
          here (g m) is (none_on made none g) ∙ (λ i. g (as_makeup m.missed (on i)))
      by_test false is rest =
          let less : count_by is_on made ≤ 1 = omega (arith, few, count_cons is_on m made, ap (λ (t : Bool). cond {A = ℕ} t 1 0) is) in
          other (g m) is ∙ rest less g

  -- ---- the records

  module _ (office : Office) (site : Site) (quarter : ℕ) (at : quarter_of day ≡ quarter) where
    missed-are : (rs : List OfficeRecord) → list_all (fits_records office) rs ≡ true
        → filter_map (missed_for site day) rs ≡ map (λ (m : Makeup). m.missed) (filter is_on (filter_map (makeup_by site quarter) rs))
    missed-are [] fits = refl
    missed-are (MakeupRecord other missed makeup ∷ rs) fits =
        let parts = and_parts (fits_records office (MakeupRecord other missed makeup)) (list_all (fits_records office) rs) fits in
        let there = same-quarter other missed makeup (is_record-of site quarter office (MakeupRecord other missed makeup) parts.0) in
        by_tests (is_same_site other site) (makeup == day) (quarter_of missed == quarter) refl refl there.0 (missed-are rs parts.1)
      where
        by_tests : (s e q : Bool) → (makeup == day) ≡ e → (quarter_of missed == quarter) ≡ q → quarter_of makeup ≡ quarter_of missed
            → filter_map (missed_for site day) rs ≡ map (λ (m : Makeup). m.missed) (filter is_on (filter_map (makeup_by site quarter) rs))
            → cons_option (cond (s && e) (Some missed) None) (filter_map (missed_for site day) rs)
            ≡ map (λ (m : Makeup). m.missed) (filter is_on (cons_option (cond (s && q) (Some (as_makeup missed makeup)) None) (filter_map (makeup_by site quarter) rs)))
        by_tests false e q ei qi there rest = rest
        by_tests true false false ei qi there rest = rest
        by_tests true false true ei qi there rest =
            rest ∙ ap (λ (b : Bool). map (λ (m : Makeup). m.missed) (cond b (as_makeup missed makeup ∷ filter is_on (filter_map (makeup_by site quarter) rs)) (filter is_on (filter_map (makeup_by site quarter) rs)))) (sym ei)
        by_tests true true true ei qi there rest =
            ap (λ (l : List ℕ). missed ∷ l) rest
            ∙ ap (λ (b : Bool). map (λ (m : Makeup). m.missed) (cond b (as_makeup missed makeup ∷ filter is_on (filter_map (makeup_by site quarter) rs)) (filter is_on (filter_map (makeup_by site quarter) rs)))) (sym ei)
        by_tests true true false ei qi there rest =
            let on : makeup ≡ day = eqb-true makeup day ei in
            let same : quarter_of missed ≡ quarter = sym there ∙ ap quarter_of on ∙ at in
            absurd (false≢true (sym qi ∙ ap (λ (n : ℕ). n == quarter) same ∙ number_itself quarter))
    missed-are (r ∷ rs) fits = missed-are rs (and_parts (fits_records office r) (list_all (fits_records office) rs) fits).1

    -- whether one of those that pass a test is on the day
    pub found-on : list_all (fits_records office) office.records ≡ true → count_by is_on (filter_map (makeup_by site quarter) office.records) ≤ 1 → (g : Makeup → Bool)
        → list_any is_on (filter g (filter_map (makeup_by site quarter) office.records)) ≡ option_map_or (λ missed. g (as_makeup missed day)) (missed_of office.records site day) false
    unfolding missed_of
    found-on fits few g =
        one_on (filter_map (makeup_by site quarter) office.records) few g
        ∙ ap (λ (l : List ℕ). option_map_or (λ missed. g (as_makeup missed day)) (slice_get l 0) false) (sym (missed-are office.records fits))

-- ---- the make-up of a missed day, by what is read

module _ (office : Office) (pair : Pair) (missed : ℕ) where
  abbrev of_joined : Option ℕ → Option ℕ
  of_joined o = option_and_then (λ makeup. cond (is_taken office pair makeup) None (Some makeup)) o

  pub early-makeup : nat_lt missed pair.from ≡ true → makeup_of office.records pair.site missed ≡ makeup_of_pair office pair missed
  early-makeup is = ap (λ (b : Bool). cond b (makeup_of office.records pair.site missed) (of_joined (makeup_of office.records pair.joined missed))) (sym is)

  module _ (is : nat_lt missed pair.from ≡ false) where
    late-makeup : (o : Option ℕ) → o ≡ makeup_of office.records pair.joined missed → of_joined o ≡ makeup_of_pair office pair missed
    late-makeup o given = λ i. cond (sym is i) (makeup_of office.records pair.site missed) (of_joined (given i))

    pub no-makeup : None ≡ makeup_of office.records pair.joined missed → None ≡ makeup_of_pair office pair missed
    no-makeup given = late-makeup None given

    module _ (makeup : ℕ) (given : Some makeup ≡ makeup_of office.records pair.joined missed) where
      pub taken-makeup : is_taken office pair makeup ≡ true → None ≡ makeup_of_pair office pair missed
      taken-makeup taken = sym (ap (λ (b : Bool). cond b None (Some makeup)) taken) ∙ late-makeup (Some makeup) given

      pub free-makeup : is_taken office pair makeup ≡ false → Some makeup ≡ makeup_of_pair office pair missed
      free-makeup free = sym (ap (λ (b : Bool). cond b None (Some makeup)) free) ∙ late-makeup (Some makeup) given

-- ---- whether a make-up day is taken, by what is read

module _ (office : Office) (pair : Pair) (makeup : ℕ) where
  abbrev takes : ℕ → Bool
  takes missed = nat_lt missed pair.from && would_give_credit office pair (as_makeup missed makeup)

  pub none-taken : None ≡ missed_of office.records pair.site makeup → false ≡ is_taken office pair makeup
  none-taken given = ap (λ (o : Option ℕ). option_map_or takes o false) given

  pub one-taken : (missed : ℕ) → Some missed ≡ missed_of office.records pair.site makeup → (b : Bool) → b ≡ takes missed → b ≡ is_taken office pair makeup
  one-taken missed given b is = is ∙ ap (λ (o : Option ℕ). option_map_or takes o false) given
