-- The reply of a load is in order, and a load leaves the office valid.
use Rattle.std.proofs.Common.{◌≡◌, ℕ, zero, suc, ◌+◌, ◌-◌, ◌<◌, ◌≤◌, Bool, true, false, cond, not, ◌&&◌, ◌||◌, List, [], ◌∷◌, ◌++◌, length, take, drop, Some, None, Option, refl, ap, ◌∙◌, inl, inr, arith, subst}
use Rattle.std.specs.Prelude.{filter, count_by, sum_by, nat_le, nat_lt, ◌==◌}
use Rattle.std.specs.List.{list_all, filter_map, cons_option}
use Rattle.std.specs.Option.{option_or}
use Rattle.std.proofs.Math.ListN.{drop_of_length-le}
use Rattle.std.proofs.lemmas.Bool.{cases_lt, and_from, and_parts, eq-eqb, le-leb, leb-true}
use Rattle.std.proofs.lemmas.Bool.Decides.{nat_tests}
use Rattle.std.proofs.lemmas.List.{length-take, length-take-le, length-drop}
use Rattle.std.proofs.lemmas.List.Sums.{sum_by-cons, length-filter, count_by-le-length}
use Rattle.aq_base.specs.Rule.{rule_number, all_rules}
use Rattle.aq_base.specs.declared.reply.ListedLine.{ListedLine}
use Rattle.aq_base.specs.declared.reply.RestRule.{RestRule}
use Rattle.aq_base.specs.declared.rule.Rule.{Rule}
use Rattle.aq_base.specs.declared.rule.Rule.TheVariants.{BadBytes}
use Rattle.aq_rules.specs.Limits.{MOST_LINES, MOST_LISTED}
use Rattle.aq_rules.specs.Lines.Lines.{NumberedLine, numbered, texts, line_count, is_skipped, body_lines}
use Rattle.aq_rules.specs.Lines.Reading.{LineValue, breaks, reading_rules, reading_rule, line_value}
use Rattle.aq_rules.specs.Office.Office.{Office, rises, rises_from, is_rest, is_reply}
use Rattle.aq_rules.specs.Office.Refusal.{breaks_office, office_rules}
use Rattle.aq_rules.specs.Office.Load.{broken_by, refusal, after, listed_for, refusals, refused_under, rest_for, rest_of, reply_for, reply}
use Rattle.aq_rules.proofs.Elements.{found_passes}
use Rattle.aq_rules.proofs.Least.{is_built, reading_rules-built, office_rules-built}
use Rattle.aq_rules.proofs.RowsPlaced.{count-cons}

-- ---- numbers that rise

-- from the first number on, at most the last one, each above the one before it
abbrev Up : {X : Type 0} → (X → ℕ) → ℕ → ℕ → List X → Type 0
Up number first last [] = Unit {0}
Up number first last (x ∷ xs) = (first ≤ number x) × (number x ≤ last) × Up number (number x + 1) last xs

module _ {X : Type 0} (number : X → ℕ) where
  Up-earlier : (first later last : ℕ) (xs : List X) → first ≤ later → Up number later last xs → Up number first last xs
  Up-earlier first later last [] h up = tt
  Up-earlier first later last (x ∷ xs) h up = let low = up.0 in (omega arith, up.1, up.2)

  Up-filter : (keep : X → Bool) (first last : ℕ) (xs : List X) → Up number first last xs → Up number first last (filter keep xs)
  Up-filter keep first last [] up = tt
  Up-filter keep first last (x ∷ xs) up = choose (keep x) (Up-filter keep (number x + 1) last xs up.2)
    where
      choose : (b : Bool) → Up number (number x + 1) last (filter keep xs) → Up number first last (cond b (x ∷ filter keep xs) (filter keep xs))
      choose true rest = (up.0, up.1, rest)
      choose false rest = let low = up.0 in Up-earlier first (number x + 1) last (filter keep xs) (omega arith) rest

  Up-take : (n first last : ℕ) (xs : List X) → Up number first last xs → Up number first last (take n xs)
  Up-take zero first last xs up = tt
  Up-take (suc n) first last [] up = tt
  Up-take (suc n) first last (x ∷ xs) up = (up.0, up.1, Up-take n (number x + 1) last xs up.2)

  Up-rises : (first last : ℕ) (xs : List X) → Up number first last xs → rises (λ x. number x ∷ []) xs ≡ true
  Up-rises first last [] up = refl
  Up-rises first last (x ∷ xs) up = behind x xs (number x + 1) (omega arith) up.2
    where
      above : (n m : ℕ) → n < m → (nat_lt n m || ((n == m) && false)) ≡ true
      above n m h = grind (arith, nat_tests)

      behind : (x : X) (xs : List X) (first : ℕ) → number x < first → Up number first last xs → rises_from (λ x. number x ∷ []) x xs ≡ true
      behind x [] first less up = refl
      behind x (y ∷ ys) first less up =
          let low = up.0 in
          and_from _ _ (above (number x) (number y) (omega arith)) (behind y ys (number y + 1) (omega arith) up.2)

  Up-within : (first last : ℕ) (xs : List X) → Up number first last xs → list_all (λ x. nat_le first (number x) && nat_le (number x) last) xs ≡ true
  Up-within first last [] up = refl
  Up-within first last (x ∷ xs) up =
      let low = up.0 in
      and_from _ _ (and_from _ _ (le-leb first (number x) up.0) (le-leb (number x) last up.1))
      (Up-within first last xs (Up-earlier first (number x + 1) last xs (omega arith) up.2))

  Up-filter_map : {Y : Type 0} (h : Y → Option X) (other : Y → ℕ) (first last : ℕ) (ys : List Y)
      → ((y : Y) (x : X) → h y ≡ Some x → number x ≡ other y) → Up other first last ys → Up number first last (filter_map h ys)
  Up-filter_map h other first last [] same up = tt
  Up-filter_map h other first last (y ∷ ys) same up =
      choose (h y) (same y) (Up-filter_map h other (other y + 1) last ys same up.2)
    where
      choose : (o : Option X) → ((x : X) → o ≡ Some x → number x ≡ other y) → Up number (other y + 1) last (filter_map h ys)
          → Up number first last (cons_option o (filter_map h ys))
      choose None is rest = let low = up.0 in Up-earlier first (other y + 1) last (filter_map h ys) (omega arith) rest
      choose (Some x) is rest =
          let here = is x refl in
          let low = up.0 in
          let high = up.1 in
          (omega arith, omega arith, Up-earlier (number x + 1) (other y + 1) last (filter_map h ys) (omega arith) rest)

module _ {X : Type 0} where
  all_both : (p q : X → Bool) (xs : List X) → list_all p xs ≡ true → list_all q xs ≡ true → list_all (λ x. p x && q x) xs ≡ true
  all_both p q [] h k = refl
  all_both p q (x ∷ xs) h k =
      let left = and_parts (p x) (list_all p xs) h in
      let right = and_parts (q x) (list_all q xs) k in
      and_from _ _ (and_from (p x) (q x) left.0 right.0) (all_both p q xs left.1 right.1)

  all-take : (p : X → Bool) (n : ℕ) (xs : List X) → list_all p xs ≡ true → list_all p (take n xs) ≡ true
  all-take p zero xs h = refl
  all-take p (suc n) [] h = refl
  all-take p (suc n) (x ∷ xs) h =
      let parts = and_parts (p x) (list_all p xs) h in
      and_from (p x) _ parts.0 (all-take p n xs parts.1)

  all-drop : (p : X → Bool) (n : ℕ) (xs : List X) → list_all p xs ≡ true → list_all p (drop n xs) ≡ true
  all-drop p zero xs h = h
  all-drop p (suc n) [] h = refl
  all-drop p (suc n) (x ∷ xs) h = all-drop p n xs (and_parts (p x) (list_all p xs) h).1

  all-filter_map : {Y : Type 0} (p : Y → Bool) (q : X → Bool) (h : Y → Option X) (ys : List Y)
      → ((y : Y) (x : X) → p y ≡ true → h y ≡ Some x → q x ≡ true) → list_all p ys ≡ true → list_all q (filter_map h ys) ≡ true
  all-filter_map p q h [] go all = refl
  all-filter_map p q h (y ∷ ys) go all =
      let parts = and_parts (p y) (list_all p ys) all in
      choose (h y) (λ x. go y x parts.0) (all-filter_map p q h ys go parts.1)
    where
      choose : (o : Option X) → ((x : X) → o ≡ Some x → q x ≡ true) → list_all q (filter_map h ys) ≡ true → list_all q (cons_option o (filter_map h ys)) ≡ true
      choose None is rest = rest
      choose (Some x) is rest = and_from (q x) _ (is x refl) rest

-- ---- rules have numbers of at most 36

broken_by-built : (office : Office) (value : Option LineValue) (rule : Rule) → broken_by office value ≡ Some rule → is_built rule ≡ true
broken_by-built office None rule is = cc
broken_by-built office (Some value) rule is =
    found_passes (λ other. breaks_office other office value) is_built (office_rules value) rule (office_rules-built value) is

refusal-built : (office : Office) (line : List ℕ) (rule : Rule) → refusal office line ≡ Some rule → is_built rule ≡ true
refusal-built office line rule is = choose (reading_rule line) refl is
  where
    choose : (o : Option Rule) → reading_rule line ≡ o → option_or o (broken_by office (line_value line)) ≡ Some rule → is_built rule ≡ true
    choose None read is = broken_by-built office (line_value line) rule is
    choose (Some other) read is =
        found_passes (λ rule. breaks rule line) is_built (reading_rules line) rule (reading_rules-built line) (read ∙ is)

-- ---- the refused lines

numbered-up : (first last : ℕ) (lines : List (List ℕ)) → first + length lines ≤ last + 1 → Up (λ line. line.number) first last (numbered first lines)
numbered-up first last [] h = tt
numbered-up first last (line ∷ lines) h = (omega arith, omega arith, numbered-up (first + 1) last lines (omega arith))

body-up : (body : List ℕ) → Up (λ (line : NumberedLine). line.number) 1 (line_count body) (body_lines body)
body-up body =
    Up-filter (λ line. line.number) (λ line. not (is_skipped line.text)) 1 (line_count body) (numbered 1 (texts body))
    (numbered-up 1 (line_count body) (texts body) (omega arith))

refusals-up : (office : Office) (first last : ℕ) (lines : List NumberedLine) → Up (λ line. line.number) first last lines
    → Up (λ (listed : ListedLine). listed.line) first last (refusals office lines)
refusals-up office first last [] up = tt
refusals-up office first last (line ∷ lines) up =
    choose (refusal office line.text) (refusals-up (after office line.text) (line.number + 1) last lines up.2)
  where
    choose : (o : Option Rule) → Up (λ (listed : ListedLine). listed.line) (line.number + 1) last (refusals (after office line.text) lines)
        → Up (λ (listed : ListedLine). listed.line) first last (listed_for line.number o ++ refusals (after office line.text) lines)
    choose None rest =
        let low = up.0 in
        Up-earlier (λ listed. listed.line) first (line.number + 1) last (refusals (after office line.text) lines) (omega arith) rest
    choose (Some rule) rest = (up.0, up.1, rest)

refusals-built : (office : Office) (lines : List NumberedLine) → list_all (λ listed. is_built listed.rule) (refusals office lines) ≡ true
refusals-built office [] = refl
refusals-built office (line ∷ lines) =
    choose (refusal office line.text) (refusal-built office line.text) (refusals-built (after office line.text) lines)
  where
    choose : (o : Option Rule) → ((rule : Rule) → o ≡ Some rule → is_built rule ≡ true)
        → list_all (λ listed. is_built listed.rule) (refusals (after office line.text) lines) ≡ true
        → list_all (λ listed. is_built listed.rule) (listed_for line.number o ++ refusals (after office line.text) lines) ≡ true
    choose None is rest = rest
    choose (Some rule) is rest = and_from _ _ (is rule refl) rest

length-refusals : (office : Office) (lines : List NumberedLine) → length (refusals office lines) ≤ length lines
length-refusals office [] = omega arith
length-refusals office (line ∷ lines) = choose (refusal office line.text) (length-refusals (after office line.text) lines)
  where
    choose : (o : Option Rule) → length (refusals (after office line.text) lines) ≤ length lines
        → length (listed_for line.number o ++ refusals (after office line.text) lines) ≤ length (line ∷ lines)
    choose None h = omega arith
    choose (Some rule) h = omega arith

length-numbered : (first : ℕ) (lines : List (List ℕ)) → length (numbered first lines) ≡ length lines
length-numbered first [] = refl
length-numbered first (line ∷ lines) = omega (arith, length-numbered (first + 1) lines)

length-body : (body : List ℕ) → length (body_lines body) ≤ line_count body
length-body body =
    omega (
      arith,
      length-filter (λ (line : NumberedLine). not (is_skipped line.text)) (numbered 1 (texts body)),
      count_by-le-length (λ (line : NumberedLine). not (is_skipped line.text)) (numbered 1 (texts body)),
      length-numbered 1 (texts body),
    )

-- ---- the lines beyond those listed, by rule

rule_once : (rule : Rule) → is_built rule ≡ true → count_by (λ other. rule_number rule == rule_number other) all_rules ≡ 1
rule_once BadBytes h = refl
rule_once rule h = refl

sums_joined : (f g h : Rule → ℕ) (rules : List Rule) → ((rule : Rule) → f rule ≡ g rule + h rule) → sum_by f rules ≡ sum_by g rules + sum_by h rules
sums_joined f g h [] e = refl
sums_joined f g h (rule ∷ rules) e =
    omega (arith, sum_by-cons f rule rules, sum_by-cons g rule rules, sum_by-cons h rule rules, sums_joined f g h rules e, e rule)

nothing_under : (rules : List Rule) → sum_by (λ rule. refused_under rule []) rules ≡ 0
nothing_under [] = refl
nothing_under (rule ∷ rules) = omega (arith, sum_by-cons (λ rule. refused_under rule []) rule rules, nothing_under rules)

-- each refused line is under one rule
all_under : (refused : List ListedLine) → list_all (λ listed. is_built listed.rule) refused ≡ true
    → sum_by (λ rule. refused_under rule refused) all_rules ≡ length refused
all_under [] h = nothing_under all_rules
all_under (listed ∷ refused) h =
    let parts = and_parts (is_built listed.rule) (list_all (λ listed. is_built listed.rule) refused) h in
    let sums : sum_by (λ rule. refused_under rule (listed ∷ refused)) all_rules
    ≡ count_by (λ other. rule_number listed.rule == rule_number other) all_rules + sum_by (λ rule. refused_under rule refused) all_rules =
    sums_joined (λ rule. refused_under rule (listed ∷ refused)) (λ rule. cond {A = ℕ} (rule_number listed.rule == rule_number rule) 1 0)
    (λ rule. refused_under rule refused) all_rules
    (λ rule. count-cons (λ other. rule_number other.rule == rule_number rule) listed refused) in
    let one = rule_once listed.rule parts.0 in
    let rest = all_under refused parts.1 in
    let longer : length (listed ∷ refused) ≡ length refused + 1 = omega arith in
    sums ∙ join (count_by (λ other. rule_number listed.rule == rule_number other) all_rules)
    (sum_by (λ rule. refused_under rule refused) all_rules) (length refused) (length (listed ∷ refused)) one rest longer
  where
    join : (a b n m : ℕ) → a ≡ 1 → b ≡ n → m ≡ n + 1 → a + b ≡ m
    join a b n m e f g = omega arith

rest_counts : (refused : List ListedLine) (rules : List Rule)
    → sum_by (λ (rest : RestRule). rest.count) (filter_map (rest_for refused) rules) ≡ sum_by (λ rule. refused_under rule refused) rules
rest_counts refused [] = refl
rest_counts refused (rule ∷ rules) = choose (refused_under rule refused == 0) refl (rest_counts refused rules)
  where
    none : (n : ℕ) → (n == 0) ≡ true → n ≡ 0
    none n h = grind (arith, nat_tests)

    choose : (b : Bool) → (refused_under rule refused == 0) ≡ b
        → sum_by (λ (rest : RestRule). rest.count) (filter_map (rest_for refused) rules) ≡ sum_by (λ rule. refused_under rule refused) rules
        → sum_by (λ (rest : RestRule). rest.count)
        (cons_option (cond b None (Some (record { rule = rule; count = refused_under rule refused }))) (filter_map (rest_for refused) rules))
        ≡ sum_by (λ rule. refused_under rule refused) (rule ∷ rules)
    choose true h rest =
        let zero_here = none (refused_under rule refused) h in
        omega (arith, sum_by-cons (λ rule. refused_under rule refused) rule rules)
    choose false h rest =
        omega (
          arith,
          sum_by-cons (λ rule. refused_under rule refused) rule rules,
          sum_by-cons (λ (rest : RestRule). rest.count) (record { rule = rule; count = refused_under rule refused }) (filter_map (rest_for refused) rules),
        )

-- ---- the reply

rules_rise : ℕ → List Rule → Bool
rules_rise first [] = true
rules_rise first (rule ∷ rules) = nat_le first (rule_number rule) && nat_le (rule_number rule) 36 && rules_rise (rule_number rule + 1) rules

rules_up-from : (first : ℕ) (rules : List Rule) → rules_rise first rules ≡ true → Up rule_number first 36 rules
unfolding rules_rise
rules_up-from first [] h = tt
rules_up-from first (rule ∷ rules) h =
    let rest = and_parts _ (rules_rise (rule_number rule + 1) rules) h in
    let here = and_parts (nat_le first (rule_number rule)) (nat_le (rule_number rule) 36) rest.0 in
    (leb-true first (rule_number rule) here.0, leb-true (rule_number rule) 36 here.1, rules_up-from (rule_number rule + 1) rules rest.1)

rules_up : Up rule_number 1 36 all_rules
unfolding rules_rise
rules_up = rules_up-from 1 all_rules refl

some_nonzero : (n : ℕ) → (n == 0) ≡ false → nat_le 1 n ≡ true
some_nonzero n h = grind (arith, nat_tests)

rest_rule : (refused : List ListedLine) (rule : Rule) (rest : RestRule) → rest_for refused rule ≡ Some rest → rule_number rest.rule ≡ rule_number rule
rest_rule refused rule rest is = choose (refused_under rule refused == 0) is
  where
    choose : (b : Bool) → cond b None (Some (record { rule = rule; count = refused_under rule refused })) ≡ Some rest → rule_number rest.rule ≡ rule_number rule
    choose true is = cc
    choose false is = cc

rest_is : (refused : List ListedLine) (rule : Rule) (rest : RestRule) → is_built rule ≡ true → rest_for refused rule ≡ Some rest → is_rest rest ≡ true
rest_is refused rule rest built is = choose (refused_under rule refused == 0) refl is
  where
    choose : (b : Bool) → (refused_under rule refused == 0) ≡ b → cond b None (Some (record { rule = rule; count = refused_under rule refused })) ≡ Some rest
        → is_rest rest ≡ true
    choose true zero_here is = cc
    choose false some_here is =
        let count : refused_under rule refused ≡ rest.count = cc in
        let same : rule ≡ rest.rule = cc in
        and_from _ _ (subst (λ r. is_built r ≡ true) same built)
        (subst (λ n. nat_le 1 n ≡ true) count (some_nonzero (refused_under rule refused) some_here))

listed_or_none : (refused : List ListedLine)
    → ((length (rest_of (drop MOST_LISTED refused)) == 0) || (length (take MOST_LISTED refused) == MOST_LISTED)) ≡ true
listed_or_none refused = elim (cases_lt (length refused) MOST_LISTED) [ inl few ↦ none (omega arith) | inr many ↦ all many ]
  where
    either : (a b : Bool) → b ≡ true → (a || b) ≡ true
    either true b h = refl
    either false b h = h

    none : length refused ≤ MOST_LISTED → ((length (rest_of (drop MOST_LISTED refused)) == 0) || (length (take MOST_LISTED refused) == MOST_LISTED)) ≡ true
    none few = ap (λ rest. (length (rest_of rest) == 0) || (length (take MOST_LISTED refused) == MOST_LISTED)) (drop_of_length-le refused few)

    all : MOST_LISTED ≤ length refused → ((length (rest_of (drop MOST_LISTED refused)) == 0) || (length (take MOST_LISTED refused) == MOST_LISTED)) ≡ true
    all many = either _ _ (eq-eqb (length (take MOST_LISTED refused)) MOST_LISTED (length-take-le MOST_LISTED refused many))

reply-in_order : (number lines taken : ℕ) (refused : List ListedLine) → lines ≤ MOST_LINES → taken ≤ lines → length refused ≤ taken
    → Up (λ (listed : ListedLine). listed.line) 1 lines refused → list_all (λ listed. is_built listed.rule) refused ≡ true
    → is_reply (reply_for number lines taken refused) ≡ true
reply-in_order number lines taken refused few within fewer up built =
    and_from _ _
    (and_from _ _
    (and_from _ _
    (and_from _ _
    (and_from _ _
    (and_from _ _
    (and_from _ _
    (and_from _ _ (le-leb lines MOST_LINES few) (Up-rises (λ listed. listed.line) 1 lines (take MOST_LISTED refused) listed_up))
    (all_both (λ (listed : ListedLine). nat_le 1 listed.line && nat_le listed.line lines) (λ listed. is_built listed.rule) (take MOST_LISTED refused)
    (Up-within (λ listed. listed.line) 1 lines (take MOST_LISTED refused) listed_up)
    (all-take (λ listed. is_built listed.rule) MOST_LISTED refused built)))
    (le-leb (length (take MOST_LISTED refused)) MOST_LISTED (omega (arith, length-take MOST_LISTED refused))))
    (listed_or_none refused))
    (Up-rises (λ (rest : RestRule). rule_number rest.rule) 1 36 (rest_of (drop MOST_LISTED refused)) rest_up))
    (all-filter_map is_built is_rest (rest_for (drop MOST_LISTED refused)) all_rules (rest_is (drop MOST_LISTED refused)) refl))
    (eq-eqb (length refused) _ (omega (arith, length-take MOST_LISTED refused, length-drop MOST_LISTED refused, counts))))
    (le-leb (taken - length refused + length refused) lines (omega arith))
  where
    listed_up : Up (λ (listed : ListedLine). listed.line) 1 lines (take MOST_LISTED refused)
    listed_up = Up-take (λ listed. listed.line) MOST_LISTED 1 lines refused up

    rest_up : Up (λ (rest : RestRule). rule_number rest.rule) 1 36 (rest_of (drop MOST_LISTED refused))
    rest_up = Up-filter_map (λ rest. rule_number rest.rule) (rest_for (drop MOST_LISTED refused)) rule_number 1 36 all_rules (rest_rule (drop MOST_LISTED refused)) rules_up

    counts : sum_by (λ (rest : RestRule). rest.count) (rest_of (drop MOST_LISTED refused)) ≡ length (drop MOST_LISTED refused)
    counts =
        rest_counts (drop MOST_LISTED refused) all_rules
        ∙ all_under (drop MOST_LISTED refused) (all-drop (λ listed. is_built listed.rule) MOST_LISTED refused built)

-- the reply of a load
pub reply-is : (office : Office) (number : ℕ) (body : List ℕ) → line_count body ≤ MOST_LINES → is_reply (reply office number body) ≡ true
reply-is office number body few =
    reply-in_order number (line_count body) (length (body_lines body)) (refusals office (body_lines body)) few (length-body body)
    (length-refusals office (body_lines body)) (refusals-up office 1 (line_count body) (body_lines body) (body-up body)) (refusals-built office (body_lines body))
