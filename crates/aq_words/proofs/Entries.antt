-- The entries of a list that is joined by commas, one after the other.
use Rattle.std.proofs.Common.{◌≡◌, ℕ, ◌+◌, ◌<◌, ◌≤◌, ◌==◌, Bool, true, false, cond, not, ◌&&◌, ◌||◌, List, [], ◌∷◌, ◌++◌, length, Option, Some, None, refl, sym, ap, ◌∙◌, append_assoc, append-nil, arith}
use Rattle.std.specs.Prelude.{nat_le, nat_lt, if◌then◌else◌}
use Rattle.std.specs.Borrow.{Bor}
use Rattle.std.specs.List.{slice_split, onto_first, position_or_len}
use Rattle.std.proofs.lemmas.Bool.Decides.{nat_tests}
use Rattle.std.proofs.lemmas.List.{length-append}
use Rattle.aq_base.specs.Assuming.{has_room}
use Rattle.aq_base.specs.Site.{Site}
use Rattle.aq_base.specs.Sites.{all_sites_distinct, are_same_sites, has_site, is_further_site, with_further_site}
use Rattle.aq_base.specs.declared.area.TheConstants.{MOST_AREA_SITES}
use Rattle.aq_base.specs.declared.assumed.Assumed.{Assumed}
use Rattle.aq_base.specs.declared.assumed.TheConstants.{MOST_ASSUMED}
use Rattle.aq_rules.specs.Lines.Spellings.{◌>>=◌}
use Rattle.aq_rules.specs.Questions.Spelling.{site_word}
use Rattle.aq_words.specs.Commas.{behind_comma}
use Rattle.aq_rules.specs.Questions.Spelling.{all_read, assumed_in, assumed_list, between_commas, if_few, if_sites, sites_word}

-- ---- a text without a comma is one part

pub no_comma : (p : ℕ → Bool) (text : List ℕ) → position_or_len p text ≡ length text → slice_split p text ≡ text ∷ []
no_comma p [] none = refl
no_comma p (byte ∷ text) none = by (no_comma p text) (p byte) refl
  where
    by : (position_or_len p text ≡ length text → slice_split p text ≡ text ∷ []) → (b : Bool) → p byte ≡ b → slice_split p (byte ∷ text) ≡ (byte ∷ text) ∷ []
    by rest true is =
        let here : position_or_len p (byte ∷ text) ≡ 0 = ap (λ b. cond (not b) (1 + position_or_len p text) 0) is in
        absurd (omega (arith, none, here))
    by rest false is =
        let there : position_or_len p (byte ∷ text) ≡ 1 + position_or_len p text = ap (λ b. cond (not b) (1 + position_or_len p text) 0) is in
        let same = rest (omega (arith, none, there)) in
        ap (λ b. cond b ([] ∷ slice_split p text) (onto_first byte (slice_split p text))) is ∙ ap (onto_first byte) same

-- ---- a list of what each text is read as, if it is whole

module _ {X : Type 0} (read : List ℕ → Option X) (whole : List X → Option (List X)) where
  -- these entries, and those of the texts behind them
  abbrev pub entries_onto : List X → List (List ℕ) → Option (List X)
  entries_onto entries texts = all_read read texts >>= λ others. whole (entries ++ others)

  -- an entry that is none ends the list
  pub no_entry : (entries : List X) (text : List ℕ) (texts : List (List ℕ)) → read text ≡ None → entries_onto entries (text ∷ texts) ≡ None
  no_entry entries text texts none = ap (λ (o : Option X). (o >>= λ first. all_read read texts >>= λ others. Some (first ∷ others)) >>= λ all. whole (entries ++ all)) none

  module _ (entries : List X) (entry : X) (text : List ℕ) (texts : List (List ℕ)) (is : read text ≡ Some entry) where
    read_here : entries_onto entries (text ∷ texts) ≡ (all_read read texts >>= λ others. Some (entry ∷ others)) >>= λ all. whole (entries ++ all)
    read_here = ap (λ (o : Option X). (o >>= λ first. all_read read texts >>= λ others. Some (first ∷ others)) >>= λ all. whole (entries ++ all)) is

    -- one that is one stands behind the others
    pub one_entry : entries_onto entries (text ∷ texts) ≡ entries_onto (entries ++ entry ∷ []) texts
    one_entry = read_here ∙ by (all_read read texts)
      where
        by : (o : Option (List X)) → ((o >>= λ others. Some (entry ∷ others)) >>= λ all. whole (entries ++ all)) ≡ (o >>= λ others. whole ((entries ++ entry ∷ []) ++ others))
        by None = refl
        by (Some others) = ap whole (sym (append_assoc entries (entry ∷ []) others))

    -- one that no whole list has there is no list
    pub no_room : ((others : List X) → whole (entries ++ entry ∷ others) ≡ None) → entries_onto entries (text ∷ texts) ≡ None
    no_room none = read_here ∙ by (all_read read texts)
      where
        by : (o : Option (List X)) → ((o >>= λ others. Some (entry ∷ others)) >>= λ all. whole (entries ++ all)) ≡ None
        by None = refl
        by (Some others) = none others

  -- what is left of a list, of which this is the whole
  pub here : (entries : List X) (left : Option (Bor (List ℕ))) (rest : Bor (List ℕ)) (entry : List ℕ) (behind : List (List ℕ)) (all : Option (List X))
      → left ≡ Some rest → between_commas rest.now ≡ entry ∷ behind → entries_onto entries (behind_comma left) ≡ all → entries_onto entries (entry ∷ behind) ≡ all
  here entries left rest entry behind all is cut keeps = ap (entries_onto entries) (sym (ap behind_comma is ∙ cut)) ∙ keeps

  -- the list as it is
  pub all_entries : (entries : List X) → whole entries ≡ Some entries → entries_onto entries [] ≡ Some entries
  all_entries entries is = ap whole (append-nil entries) ∙ is

-- ---- assumed concurrences, if there are few

pub assumed-start : (text : List ℕ) → entries_onto assumed_in if_few [] (between_commas text) ≡ assumed_list text
unfolding assumed_list
assumed-start text = refl

pub too_many : (entries : List Assumed) (entry : Assumed) → has_room entries ≡ false → (others : List Assumed) → if_few (entries ++ entry ∷ others) ≡ None
too_many entries entry full others =
    let full-already : MOST_ASSUMED ≤ length entries = grind (arith, nat_tests, full) in
    let many : MOST_ASSUMED < length (entries ++ entry ∷ others) = omega (arith, full-already, length-append entries (entry ∷ others)) in
    let more : nat_le (length (entries ++ entry ∷ others)) MOST_ASSUMED ≡ false = grind (arith, nat_tests) in
    cc

pub few_enough : (entries : List Assumed) → length entries ≤ MOST_ASSUMED → if_few entries ≡ Some entries
few_enough entries many =
    let few : nat_le (length entries) MOST_ASSUMED ≡ true = grind (arith, nat_tests) in
    ap (λ (b : Bool). if b then Some entries else None) few

-- ---- sites, if none stands there twice

sites-start : (text : List ℕ) → entries_onto site_word if_sites [] (between_commas text) ≡ sites_word text
unfolding sites_word
sites-start text = refl

pub sites-first : (text entry : List ℕ) (behind : List (List ℕ)) → between_commas text ≡ entry ∷ behind → entries_onto site_word if_sites [] (entry ∷ behind) ≡ sites_word text
sites-first text entry behind cut = ap (entries_onto site_word if_sites []) (sym cut) ∙ sites-start text

pub sites-more : (sites more : List Site) (site : Site) → more ≡ with_further_site sites site → is_further_site sites site ≡ true → more ≡ sites ++ site ∷ []
sites-more sites more site is further = is ∙ ap (λ b. if b then sites ++ site ∷ [] else sites) further

and-false : (b : Bool) → (b && false) ≡ false
and-false true = refl
and-false false = refl

or-true : (b : Bool) → (b || true) ≡ true
or-true true = refl
or-true false = refl

same-turned : (a b : Site) → are_same_sites b a ≡ are_same_sites a b
same-turned a b = grind (arith, nat_tests)

-- a site that stands behind another one is found there
stands : (sites : List Site) (site first : Site) (others : List Site) → are_same_sites first site ≡ true → has_site first (sites ++ site ∷ others) ≡ true
stands [] site first others same = ap (λ b. b || has_site first others) (same-turned first site ∙ same)
stands (s ∷ sites) site first others same = ap (λ b. are_same_sites s first || b) (stands sites site first others same) ∙ or-true (are_same_sites s first)

twice : (sites : List Site) (site : Site) (others : List Site) → has_site site sites ≡ true → all_sites_distinct (sites ++ site ∷ others) ≡ false
twice [] site others has = cc
twice (first ∷ sites) site others has = by (twice sites site others) (are_same_sites first site) refl has
  where
    by : (has_site site sites ≡ true → all_sites_distinct (sites ++ site ∷ others) ≡ false) → (b : Bool) → are_same_sites first site ≡ b → (b || has_site site sites) ≡ true → (not (has_site first (sites ++ site ∷ others)) && all_sites_distinct (sites ++ site ∷ others)) ≡ false
    by rest true same has = ap (λ b. not b && all_sites_distinct (sites ++ site ∷ others)) (stands sites site first others same)
    by rest false other has = ap (λ b. not (has_site first (sites ++ site ∷ others)) && b) (rest has) ∙ and-false (not (has_site first (sites ++ site ∷ others)))

pub no_further : (sites : List Site) (site : Site) → is_further_site sites site ≡ false → (others : List Site) → if_sites (sites ++ site ∷ others) ≡ None
no_further sites site full others = by (has_site site sites) refl full
  where
    all : List Site
    all = sites ++ site ∷ others

    none : (d f : Bool) → all_sites_distinct all ≡ d → nat_le (length all) MOST_AREA_SITES ≡ f → (d && f) ≡ false → if_sites all ≡ None
    none d f distinct few is = (λ i. if distinct i && few i then Some all else None) ∙ ap (λ b. if b then Some all else None) is

    by : (b : Bool) → has_site site sites ≡ b → (not b && nat_lt (length sites) MOST_AREA_SITES) ≡ false → if_sites all ≡ None
    by true has full = none false (nat_le (length all) MOST_AREA_SITES) (twice sites site others has) refl refl
    by false has full =
        let full-already : MOST_AREA_SITES ≤ length sites = grind (arith, nat_tests, full) in
        let many : MOST_AREA_SITES < length all = omega (arith, full-already, length-append sites (site ∷ others)) in
        let more : nat_le (length all) MOST_AREA_SITES ≡ false = grind (arith, nat_tests) in
        none (all_sites_distinct all) false refl more (and-false (all_sites_distinct all))

pub further_sites : (sites : List Site) → all_sites_distinct sites ≡ true → length sites ≤ MOST_AREA_SITES → if_sites sites ≡ Some sites
further_sites sites distinct many =
    let few : nat_le (length sites) MOST_AREA_SITES ≡ true = grind (arith, nat_tests) in
    λ i. if distinct i && few i then Some sites else None
