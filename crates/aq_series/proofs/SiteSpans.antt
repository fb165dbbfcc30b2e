-- The states of a site's days, as far as the walk over its monitors has come, and the days that they make.
use Rattle.std.proofs.Common.{◌≡◌, ℕ, suc, ◌+◌, ◌<◌, ◌≤◌, Bool, true, false, cond, ◌||◌, ◌==◌, Some, None, Option, List, [], ◌∷◌, ◌++◌, length, get_or, set, refl, ap, sym, subst, ◌∙◌, arith, append_assoc}
use Rattle.std.specs.Prelude.{IfSome}
use Rattle.std.specs.List.{filter_map, cons_option, list_any}
use Rattle.std.specs.Option.{option_and_then, option_map_or, option_or, option_to_list}
use Rattle.std.proofs.lemmas.Bool.{false≢true}
use Rattle.std.proofs.lemmas.Bool.Decides.{nat_tests}
use Rattle.std.proofs.lemmas.Grind.{get_or-set_at}
use Rattle.std.proofs.lemmas.List.{append-nil, get_or-set_other}
use Rattle.aq_base.specs.Site.{Site}
use Rattle.aq_base.specs.declared.monitor.Pollutant.TheVariants.{Pm25}
use Rattle.aq_rules.specs.Office.Designation.{primary_on}
use Rattle.aq_rules.specs.Office.Monitors.{is_eligible}
use Rattle.aq_rules.specs.Office.Office.{IsOffice, Office}
use Rattle.aq_rules.specs.Office.Questions.{next_poc}
use Rattle.aq_rules.specs.Ozone.SiteHour.{Cell}
use Rattle.aq_rules.specs.Particles.ParticleDay.{monitor_day, site_day}
use Rattle.aq_registry.specs.Registry.{office_with}
use Rattle.aq_series.specs.declared.site_spans.DayState.{DayState}
use Rattle.aq_series.specs.DayCells.{cells_on, mean_of, monitor_at, pocs_after, pocs_of, IsOfParticles, IsParticle, IsTallyOf}
use Rattle.aq_series.specs.DaySums.{is_days_primary, AddsDay, HasDayRoom, IsNew}
use Rattle.aq_series.proofs.SiteDay.{fewer, fine-is, is_primary, no_day}
use Rattle.aq_series.proofs.SitePocs.{eligible_there, pocs-end, pocs-few, pocs-next}
use Rattle.aq_series.proofs.Rising.{same_number}

-- ---- the states of the days, one by one

-- a monitor without a value changes nothing
pub adds-none : (poc : ℕ) (state : DayState) → HasDayRoom state → AddsDay poc None state state
adds-none poc state room = record {
  kept = refl;
  own = λ is. refl;
  other = λ is. refl;
  same = λ is. refl;
  more = λ is before tallied. subst (λ cells. IsTallyOf cells state.others) (sym (append-nil before)) tallied;
  count = omega arith;
  values = room.values;
  range = λ held. held;
}

apart : (m n : ℕ) → (m == n) ≡ false → m ≡ n → ⊥
apart m n h e = grind (arith, nat_tests)

module _ (cells : List (Option Cell)) (poc : ℕ) (old now : List DayState) (i : ℕ) (after : DayState) (many : i < length now) (rest : (k : ℕ) (d : DayState) → i ≤ k → get_or now k d ≡ get_or old k d) where
  pub days-set : ((k : ℕ) (d : DayState) → k < i → AddsDay poc (get_or cells k None) (get_or old k d) (get_or now k d)) → ((d : DayState) → AddsDay poc (get_or cells i None) (get_or now i d) after)
      → (k : ℕ) (d : DayState) → k < i + 1 → AddsDay poc (get_or cells k None) (get_or old k d) (get_or (set now i after) k d)
  days-set done adds k d within = by_test (k == i) refl
    where
      by_test : (b : Bool) → (k == i) ≡ b → AddsDay poc (get_or cells k None) (get_or old k d) (get_or (set now i after) k d)
      by_test true same =
          let there = same_number k i same in
          subst (λ (s : DayState). AddsDay poc (get_or cells k None) (get_or old k d) s) (sym (get_or-set_at now i k after d there many))
          (subst (λ n. AddsDay poc (get_or cells n None) (get_or old n d) after) (sym there) (subst (λ (s : DayState). AddsDay poc (get_or cells i None) s after) (rest i d (omega arith)) (adds d)))
      by_test false other =
          let less : k < i = grind (arith, nat_tests, within, other) in
          subst (λ (s : DayState). AddsDay poc (get_or cells k None) (get_or old k d) s) (sym (get_or-set_other now i k after d (apart k i other))) (done k d less)

  pub rest-set : (k : ℕ) (d : DayState) → i + 1 ≤ k → get_or (set now i after) k d ≡ get_or old k d
  rest-set k d behind = get_or-set_other now i k after d (λ e. omega (arith, behind, e)) ∙ rest k d (omega (arith, behind))

pub new-range : (state : DayState) → IsNew state → IfSome state.own (λ (c : Cell). IsParticle c.value)
new-range state new = subst (λ (o : Option Cell). IfSome o (λ (c : Cell). IsParticle c.value)) (sym new.own) tt

pub new-room : (state : DayState) → IsNew state → HasDayRoom state
new-room state new = record { values = new.values; count = omega (arith, new.tally.count) }

-- ---- the walk

module _ (office : Office) (site : Site) (day : ℕ) where
  abbrev cell_for : ℕ → Option Cell
  cell_for poc = monitor_day office (monitor_at site Pm25 poc) day

  abbrev of_primary : Option ℕ → Option Cell
  of_primary primary = option_and_then (λ p. monitor_day office (monitor_at site Pm25 p) day) primary

  -- the primary's value, if it is still to be read
  abbrev unread : Option ℕ → List ℕ → Option Cell
  unread None pocs = None
  unread (Some p) pocs = cond (list_any (λ q. q == p) pocs) (cell_for p) None

  -- the values of the others
  abbrev beside : Option ℕ → List ℕ → List Cell
  beside primary pocs = filter_map (λ poc. cond (option_map_or (λ other. poc == other) primary false) None (cell_for poc)) pocs

  pub record Stands (after : ℕ) (state : DayState) : Type 0 where
    pub primary_is : state.primary ≡ primary_on office.records site Pm25 day
    pub own : option_or state.own (unread state.primary (pocs_after office.records site Pm25 after)) ≡ of_primary state.primary
    pub before : List Cell
    pub tallied : IsTallyOf before state.others
    pub whole : before ++ beside state.primary (pocs_after office.records site Pm25 after) ≡ beside state.primary (pocs_of office.records site Pm25)
    pub few : state.others.count + length (pocs_after office.records site Pm25 after) ≤ length (pocs_of office.records site Pm25)
    pub values : IsOfParticles state.others
    pub range : IfSome state.own (λ (c : Cell). IsParticle c.value)

  -- at the start
  all_unread : IsOffice (office_with office.records) → (primary : Option ℕ) → unread primary (pocs_of office.records site Pm25) ≡ of_primary primary
  all_unread valid None = refl
  all_unread valid (Some p) = by_tests (list_any (λ q. q == p) (pocs_of office.records site Pm25)) refl (is_eligible office.records (monitor_at site Pm25 p)) refl
    where
      by_tests : (b : Bool) → list_any (λ q. q == p) (pocs_of office.records site Pm25) ≡ b → (e : Bool) → is_eligible office.records (monitor_at site Pm25 p) ≡ e → cond b (cell_for p) None ≡ cell_for p
      by_tests true there e eligible = refl
      by_tests false absent true eligible = absurd (false≢true (sym absent ∙ eligible_there site Pm25 p office.records valid eligible))
      by_tests false absent false eligible = sym (no_day office site Pm25 day p eligible)

  pub stands-new : IsOffice (office_with office.records) → (state : DayState) → state.primary ≡ primary_on office.records site Pm25 day → IsNew state → Stands 0 state
  stands-new valid state is new = record {
    primary_is = is;
    own = ap (λ o. option_or o (unread state.primary (pocs_of office.records site Pm25))) new.own ∙ all_unread valid state.primary;
    before = [];
    tallied = new.tally;
    whole = refl;
    few = omega (arith, new.tally.count);
    values = new.values;
    range = new-range state new;
  }

  -- one more monitor
  pub stands-room : (valid : IsOffice (office_with office.records)) (after : ℕ) (state : DayState) → Stands after state → HasDayRoom state
  stands-room valid after state stands = record { values = stands.values; count = omega (arith, stands.few, pocs-few site Pm25 office.records valid) }

  module _ (after poc : ℕ) (valid : IsOffice (office_with office.records)) (next : next_poc office.records site Pm25 after ≡ Some poc) (old new : DayState) (stands : Stands after old) (adds : AddsDay poc (cell_for poc) old new) where
    listed : pocs_after office.records site Pm25 after ≡ poc ∷ pocs_after office.records site Pm25 poc
    listed = pocs-next site Pm25 office.records after poc valid.keys_rise.records next

    -- the primary's value, once it was read
    taken : (own cell : Option Cell) (b : Bool) → option_or own cell ≡ cell → option_or (option_or cell own) (cond b cell None) ≡ cell
    taken None None true h = refl
    taken None None false h = refl
    taken (Some c) None b h = cc
    taken own (Some c) b h = refl

    by_primary : (o : Option ℕ) → old.primary ≡ o → (b : Bool) → option_map_or (λ other. poc == other) o false ≡ b → is_days_primary old poc ≡ b
        → option_or new.own (unread o (pocs_after office.records site Pm25 poc)) ≡ of_primary o
    by_primary None is b test primary =
        let nothing : b ≡ false = sym test in
        let same : new.own ≡ old.own = adds.other (primary ∙ nothing) in
        ap (λ o. option_or o None) same ∙ (ap (λ p. option_or old.own (unread p (pocs_after office.records site Pm25 after))) (sym is) ∙ stands.own ∙ ap of_primary is)
    by_primary (Some p) is true test primary =
        let here : poc ≡ p = same_number poc p test in
        let held : option_or old.own (cell_for p) ≡ cell_for p =
        ap (λ b. option_or old.own (cond (b || list_any (λ q. q == p) (pocs_after office.records site Pm25 poc)) (cell_for p) None)) (sym test)
        ∙ ap (λ l. option_or old.own (cond (list_any (λ q. q == p) l) (cell_for p) None)) (sym listed)
        ∙ ap (λ q. option_or old.own (unread q (pocs_after office.records site Pm25 after))) (sym is) ∙ stands.own ∙ ap of_primary is
        in
        ap (λ o. option_or o (cond (list_any (λ q. q == p) (pocs_after office.records site Pm25 poc)) (cell_for p) None)) (adds.own primary ∙ ap (λ q. option_or (cell_for q) old.own) here)
        ∙ taken old.own (cell_for p) (list_any (λ q. q == p) (pocs_after office.records site Pm25 poc)) held
    by_primary (Some p) is false test primary =
        ap (λ o. option_or o (cond (list_any (λ q. q == p) (pocs_after office.records site Pm25 poc)) (cell_for p) None)) (adds.other primary)
        ∙ ap (λ b. option_or old.own (cond (b || list_any (λ q. q == p) (pocs_after office.records site Pm25 poc)) (cell_for p) None)) (sym test)
        ∙ ap (λ l. option_or old.own (cond (list_any (λ q. q == p) l) (cell_for p) None)) (sym listed)
        ∙ ap (λ q. option_or old.own (unread q (pocs_after office.records site Pm25 after))) (sym is) ∙ stands.own ∙ ap of_primary is

    tested : is_days_primary old poc ≡ option_map_or (λ other. poc == other) old.primary false
    tested = is_primary old.primary poc

    joined : (before : List Cell) (o : Option Cell) (cells : List Cell) → (before ++ option_to_list o) ++ cells ≡ before ++ cons_option o cells
    joined before None cells = ap (λ l. l ++ cells) (append-nil before)
    joined before (Some c) cells = append_assoc before (c ∷ []) cells

    one_fewer : length (pocs_after office.records site Pm25 after) ≡ suc (length (pocs_after office.records site Pm25 poc))
    one_fewer = fewer office.records site Pm25 after poc valid next

    own_now : option_or new.own (unread new.primary (pocs_after office.records site Pm25 poc)) ≡ of_primary new.primary
    own_now =
        subst (λ p. option_or new.own (unread p (pocs_after office.records site Pm25 poc)) ≡ of_primary p) (sym adds.kept)
        (by_primary old.primary refl (option_map_or (λ other. poc == other) old.primary false) refl tested)

    abbrev rest : List Cell
    rest = beside old.primary (pocs_after office.records site Pm25 poc)

    whole_next : (before : List Cell) (b : Bool) → option_map_or (λ other. poc == other) old.primary false ≡ b → before ++ beside old.primary (pocs_after office.records site Pm25 after) ≡ beside old.primary (pocs_of office.records site Pm25)
        → before ++ cons_option (cond b None (cell_for poc)) rest ≡ beside old.primary (pocs_of office.records site Pm25)
    whole_next before b test whole =
        ap (λ t. before ++ cons_option (cond t None (cell_for poc)) rest) (sym test) ∙ ap (λ l. before ++ beside old.primary l) (sym listed) ∙ whole

    pub stands-more : Stands poc new
    stands-more = by_test (option_map_or (λ other. poc == other) old.primary false) refl
      where
        by_test : (b : Bool) → option_map_or (λ other. poc == other) old.primary false ≡ b → Stands poc new
        by_test true test = record {
          primary_is = adds.kept ∙ stands.primary_is;
          own = own_now;
          before = stands.before;
          tallied = subst (λ t. IsTallyOf stands.before t) (sym (adds.same (tested ∙ test))) stands.tallied;
          whole =
              subst (λ p. stands.before ++ beside p (pocs_after office.records site Pm25 poc) ≡ beside p (pocs_of office.records site Pm25)) (sym adds.kept)
              (whole_next stands.before true test stands.whole);
          few = omega (arith, stands.few, one_fewer, adds.count);
          values = adds.values;
          range = adds.range stands.range;
        }
        by_test false test = record {
          primary_is = adds.kept ∙ stands.primary_is;
          own = own_now;
          before = stands.before ++ option_to_list (cell_for poc);
          tallied = adds.more (tested ∙ test) stands.before stands.tallied;
          whole =
              subst (λ p. (stands.before ++ option_to_list (cell_for poc)) ++ beside p (pocs_after office.records site Pm25 poc) ≡ beside p (pocs_of office.records site Pm25)) (sym adds.kept)
              (joined stands.before (cell_for poc) rest ∙ whole_next stands.before false test stands.whole);
          few = omega (arith, stands.few, one_fewer, adds.count);
          values = adds.values;
          range = adds.range stands.range;
        }

  -- at the end
  beside_all : (primary : Option ℕ) → of_primary primary ≡ None → (pocs : List ℕ) → beside primary pocs ≡ cells_on office site Pm25 day pocs
  beside_all primary none [] = refl
  beside_all primary none (poc ∷ pocs) = by_test primary none (option_map_or (λ other. poc == other) primary false) refl (beside_all primary none pocs)
    where
      by_test : (o : Option ℕ) → of_primary o ≡ None → (b : Bool) → option_map_or (λ other. poc == other) o false ≡ b → beside primary pocs ≡ cells_on office site Pm25 day pocs
          → cons_option (cond b None (cell_for poc)) (beside primary pocs) ≡ cons_option (cell_for poc) (cells_on office site Pm25 day pocs)
      by_test None none true test rest = absurd (false≢true test)
      by_test (Some p) none true test rest =
          let here : cell_for poc ≡ None = ap cell_for (same_number poc p test) ∙ none in
          rest ∙ ap (λ o. cons_option o (cells_on office site Pm25 day pocs)) (sym here)
      by_test o none false test rest = ap (cons_option (cell_for poc)) rest

  pub stands-end : (after : ℕ) (state : DayState) (stands : Stands after state) → IsOffice (office_with office.records) → next_poc office.records site Pm25 after ≡ None
      → option_or state.own (mean_of stands.before) ≡ site_day office site Pm25 day
  stands-end after state stands valid end =
      by_own (of_primary state.primary) refl
      ∙ fine-is office site day state.primary valid stands.primary_is
    where
      none_left : pocs_after office.records site Pm25 after ≡ []
      none_left = pocs-end site Pm25 office.records after end

      no_more : (p : Option ℕ) → unread p [] ≡ None
      no_more None = refl
      no_more (Some p) = refl

      without : (o : Option Cell) → option_or o None ≡ o
      without None = refl
      without (Some c) = refl

      own_is : state.own ≡ of_primary state.primary
      own_is = sym (without state.own) ∙ ap (option_or state.own) (sym (no_more state.primary)) ∙ ap (λ l. option_or state.own (unread state.primary l)) (sym none_left) ∙ stands.own

      all : stands.before ≡ beside state.primary (pocs_of office.records site Pm25)
      all = sym (append-nil stands.before) ∙ ap (λ l. stands.before ++ beside state.primary l) (sym none_left) ∙ stands.whole

      by_own : (o : Option Cell) → of_primary state.primary ≡ o → option_or state.own (mean_of stands.before) ≡ option_or (of_primary state.primary) (mean_of (cells_on office site Pm25 day (pocs_of office.records site Pm25)))
      by_own None none =
          ap (λ o. option_or o (mean_of stands.before)) own_is
          ∙ ap (λ l. option_or (of_primary state.primary) (mean_of l)) (all ∙ beside_all state.primary none (pocs_of office.records site Pm25))
      by_own (Some c) some =
          ap (λ o. option_or o (mean_of stands.before)) (own_is ∙ some) ∙ ap (λ o. option_or o (mean_of (cells_on office site Pm25 day (pocs_of office.records site Pm25)))) (sym some)
