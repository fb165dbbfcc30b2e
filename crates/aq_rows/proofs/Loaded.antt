-- A load that is read column by column is the one that the row says, if it can stand.
use Rattle.std.proofs.Common.{◌≡◌, ℕ, ◌+◌, ◌≤◌, Bool, true, false, ◌&&◌, ◌||◌, cond, List, [], ◌∷◌, length, refl, sym, ap, ◌∙◌, arith, length-append}
use Rattle.std.specs.Prelude.{Option, Some, None, ◌==◌, nat_le, nat_lt, sum_by}
use Rattle.std.specs.List.{list_all, before_first, after_first}
use Rattle.std.proofs.lemmas.Bool.{and_from, and_parts, leb-true}
use Rattle.std.proofs.lemmas.Bool.Decides.{nat_tests}
use Rattle.std.proofs.lemmas.List.Sums.{sum_by-cons, sum_by-append}
use Rattle.aq_base.specs.Rule.{rule_number}
use Rattle.aq_base.specs.declared.reply.ListedLine.{ListedLine}
use Rattle.aq_base.specs.declared.reply.RestRule.{RestRule}
use Rattle.aq_base.specs.declared.rule.Rule.{Rule}
use Rattle.aq_base.specs.declared.rule.Rule.TheVariants.{BadBytes, BadTag, FieldCount, BadAction, BadSite, ParameterOutOfProfile, BadPoc, BadDuration, BadUnit, BadMethod, BadDate, BadTime, ValueAndNull, NeitherValueNorNull, BadValue, ValueOutOfRange, BadNull, BadQualifier, UnknownMonitor, WrongDuration, AlreadyThere, NotThere, ObservationsFull, SitesFull, MonitorsFull, BadSpan, BadInterval, BadSeason, BadMakeup, MakeupsFull, UnknownEvent, EventsFull, BadCode, ListFull, BadPair, PairTaken}
use Rattle.aq_rules.specs.Limits.{MOST_LINES, MOST_LISTED, LAST_LOAD_NUMBER}
use Rattle.aq_rules.specs.Lines.Spellings.{◌>>=◌}
use Rattle.aq_rules.specs.Office.Office.{StoredLoad, is_load, is_reply, is_listed, is_rest, listed_rank, rest_rank, rises}
use Rattle.aq_rules.specs.Kept.Rows.{LoadRow, load_of_row, load_row, is_load_row, only_if, whole, each, words, number_in, rule_with, is_colon, listed_in, rest_in}
use Rattle.aq_rows.specs.Ranges.{is_between}
use Rattle.aq_rows.specs.Loaded.{is_few, small_number, rule_in, listed_word, rest_word, count_of, are_listed, are_counts, listed_words, rest_words, is_digest, digest_in, fits_reply, load_with, load_in}
use Rattle.aq_rows.proofs.Chains.{tested, ends, refused, same_first, none_behind}
use Rattle.aq_rows.proofs.Gathered.{FitsInFront, gathered-is, each-tested, two_tests}

-- each rule has one of the numbers
pub known_rule : (rule : Rule) → nat_le (rule_number rule) 36 ≡ true
known_rule BadBytes = refl
known_rule BadTag = refl
known_rule FieldCount = refl
known_rule BadAction = refl
known_rule BadSite = refl
known_rule ParameterOutOfProfile = refl
known_rule BadPoc = refl
known_rule BadDuration = refl
known_rule BadUnit = refl
known_rule BadMethod = refl
known_rule BadDate = refl
known_rule BadTime = refl
known_rule ValueAndNull = refl
known_rule NeitherValueNorNull = refl
known_rule BadValue = refl
known_rule ValueOutOfRange = refl
known_rule BadNull = refl
known_rule BadQualifier = refl
known_rule UnknownMonitor = refl
known_rule WrongDuration = refl
known_rule AlreadyThere = refl
known_rule NotThere = refl
known_rule ObservationsFull = refl
known_rule SitesFull = refl
known_rule MonitorsFull = refl
known_rule BadSpan = refl
known_rule BadInterval = refl
known_rule BadSeason = refl
known_rule BadMakeup = refl
known_rule MakeupsFull = refl
known_rule UnknownEvent = refl
known_rule EventsFull = refl
known_rule BadCode = refl
known_rule ListFull = refl
known_rule BadPair = refl
known_rule PairTaken = refl

-- ---- words

abbrev small_line : ListedLine → Bool
small_line l = is_few l.line

abbrev small_count : RestRule → Bool
small_count r = is_few r.count

line_with : (b : Bool) (line : ℕ) (rule : Rule)
    → (cond b (Some line) None >>= (λ n. Some (record { line = n; rule = rule }))) ≡ cond {A = Option ListedLine} b (Some (record { line = line; rule = rule })) None
line_with true line rule = refl
line_with false line rule = refl

count_with : (b : Bool) (count : ℕ) (rule : Rule)
    → (cond b (Some count) None >>= (λ n. Some (record { rule = rule; count = n }))) ≡ cond {A = Option RestRule} b (Some (record { rule = rule; count = count })) None
count_with true count rule = refl
count_with false count rule = refl

listed_word-is : (text : List ℕ) → listed_word text ≡ (listed_in text >>= only_if small_line)
unfolding listed_word listed_in small_number rule_in
listed_word-is text = by_parts (number_in (before_first is_colon text)) (number_in (after_first is_colon text))
  where
    by_rule : (line : ℕ) (o : Option Rule)
        → (only_if is_few line >>= (λ n. o >>= (λ rule. Some (record { line = n; rule = rule })))) ≡ ((o >>= (λ rule. Some (record { line = line; rule = rule }))) >>= only_if small_line)
    by_rule line None = none_behind (only_if is_few line) _ (λ n. refl)
    by_rule line (Some rule) = line_with (is_few line) line rule

    by_parts : (o p : Option ℕ)
        → ((o >>= only_if is_few) >>= (λ line. (p >>= rule_with) >>= (λ rule. Some (record { line = line; rule = rule }))))
        ≡ ((o >>= (λ line. p >>= (λ number. rule_with number >>= (λ rule. Some (record { line = line; rule = rule }))))) >>= only_if small_line)
    by_parts None p = refl
    by_parts (Some line) None = none_behind (only_if is_few line) _ (λ n. refl)
    by_parts (Some line) (Some number) = by_rule line (rule_with number)

rest_word-is : (text : List ℕ) → rest_word text ≡ (rest_in text >>= only_if small_count)
unfolding rest_word rest_in small_number rule_in
rest_word-is text = by_parts (number_in (before_first is_colon text)) (number_in (after_first is_colon text))
  where
    by_rule : (o : Option Rule) (p : Option ℕ)
        → (o >>= (λ rule. (p >>= only_if is_few) >>= (λ count. Some (record { rule = rule; count = count }))))
        ≡ ((o >>= (λ rule. p >>= (λ count. Some (record { rule = rule; count = count })))) >>= only_if small_count)
    by_rule None p = refl
    by_rule (Some rule) None = refl
    by_rule (Some rule) (Some count) = count_with (is_few count) count rule

    by_parts : (o p : Option ℕ)
        → ((o >>= rule_with) >>= (λ rule. (p >>= only_if is_few) >>= (λ count. Some (record { rule = rule; count = count }))))
        ≡ ((o >>= (λ number. rule_with number >>= (λ rule. p >>= (λ count. Some (record { rule = rule; count = count }))))) >>= only_if small_count)
    by_parts None p = refl
    by_parts (Some number) p = by_rule (rule_with number) p

listed-front : FitsInFront are_listed
listed-front xs ys h = let long = length-append xs ys in grind (arith, nat_tests)

counts-front : FitsInFront are_counts
counts-front xs ys h = let more = sum_by-append count_of xs ys in grind (arith, nat_tests)

abbrev listed_fit : List ListedLine → Bool
listed_fit listed = list_all small_line listed && are_listed listed

abbrev rest_fit : List RestRule → Bool
rest_fit rest = list_all small_count rest && are_counts rest

listed_words-are : (text : List ℕ) → listed_words text ≡ (each listed_in (words text) >>= only_if listed_fit)
unfolding listed_words
listed_words-are text =
    gathered-is listed_word are_listed listed-front [] (words text) refl
    ∙ same_first (each listed_word (words text)) (each listed_in (words text) >>= only_if (list_all small_line)) (only_if are_listed) (each-tested listed_in listed_word small_line listed_word-is (words text))
    ∙ two_tests (each listed_in (words text)) (list_all small_line) are_listed

rest_words-are : (text : List ℕ) → rest_words text ≡ (each rest_in (words text) >>= only_if rest_fit)
unfolding rest_words
rest_words-are text =
    gathered-is rest_word are_counts counts-front [] (words text) refl
    ∙ same_first (each rest_word (words text)) (each rest_in (words text) >>= only_if (list_all small_count)) (only_if are_counts) (each-tested rest_in rest_word small_count rest_word-is (words text))
    ∙ two_tests (each rest_in (words text)) (list_all small_count) are_counts

-- ---- what a load that can stand has

contra : (a b : Bool) → (a ≡ true → b ≡ true) → b ≡ false → a ≡ false
contra true b h e = let is = h refl in cc
contra false b h e = refl

all-lines : (lines : ℕ) (listed : List ListedLine) → lines ≤ 120000 → list_all (is_listed lines) listed ≡ true → list_all small_line listed ≡ true
all-lines lines [] few all = refl
all-lines lines (l ∷ listed) few all =
    let parts = and_parts (is_listed lines l) (list_all (is_listed lines) listed) all in
    let b = and_parts (nat_le 1 l.line) (nat_le l.line lines) (and_parts (nat_le 1 l.line && nat_le l.line lines) (nat_le (rule_number l.rule) 36) parts.0).0 in
    let low = leb-true l.line lines b.1 in
    and_from (small_line l) (list_all small_line listed) (grind (arith, nat_tests)) (all-lines lines listed few parts.1)

all-counts : (rest : List RestRule) → sum_by count_of rest ≤ 120000 → list_all small_count rest ≡ true
all-counts [] few = refl
all-counts (r ∷ rest) few =
    let sum = sum_by-cons count_of r rest in
    let low : r.count ≤ 120000 = omega (arith, sum) in
    and_from (small_count r) (list_all small_count rest) (grind (arith, nat_tests)) (all-counts rest (omega (arith, sum)))

small-sum : (accepted listed rest lines : ℕ) → accepted + (listed + rest) ≤ lines → lines ≤ 120000 → rest ≤ 120000
small-sum accepted listed rest lines most few = omega arith

record Can (number lines accepted : ℕ) (listed : List ListedLine) (rest : List RestRule) : Type 0 where
  number_fits : is_between 1 LAST_LOAD_NUMBER number ≡ true
  lines_fit : is_between 0 MOST_LINES lines ≡ true
  accepted_fit : is_between 0 MOST_LINES accepted ≡ true
  listed_fits : listed_fit listed ≡ true
  rest_fits : rest_fit rest ≡ true

can : (number : ℕ) (digest : List ℕ) (lines accepted : ℕ) (listed : List ListedLine) (rest : List RestRule) → is_load (load_with number digest lines accepted listed rest) ≡ true → Can number lines accepted listed rest
can number digest lines accepted listed rest h =
    let refused = length listed + sum_by count_of rest in
    let reply = (load_with number digest lines accepted listed rest).reply in
    let p = and_parts _ (is_reply reply) h in
    let q = and_parts _ (list_all (λ byte. nat_lt byte 256) digest) p.0 in
    let r = and_parts _ (length digest == 32) q.0 in
    let s = and_parts _ (number == number) r.0 in
    let i = and_parts _ (nat_le (accepted + refused) lines) p.1 in
    let g = and_parts _ (refused == refused) i.0 in
    let e = and_parts _ (list_all is_rest rest) g.0 in
    let d = and_parts _ (rises rest_rank rest) e.0 in
    let c = and_parts _ ((length rest == 0) || (length listed == MOST_LISTED)) d.0 in
    let b = and_parts _ (nat_le (length listed) MOST_LISTED) c.0 in
    let a = and_parts _ (list_all (is_listed lines) listed) b.0 in
    let few = leb-true lines MOST_LINES (and_parts (nat_le lines MOST_LINES) (rises listed_rank listed) a.0).0 in
    let most = leb-true (accepted + refused) lines i.1 in
    let sum = small-sum accepted (length listed) (sum_by count_of rest) lines most few in
    record {
      number_fits = s.0;
      lines_fit = grind (arith, nat_tests);
      accepted_fit = grind (arith, nat_tests);
      listed_fits = and_from (list_all small_line listed) (are_listed listed) (all-lines lines listed few a.1) b.1;
      rest_fits = and_from (list_all small_count rest) (are_counts rest) (all-counts rest sum) (grind (arith, nat_tests));
    }

-- ---- the end of the chain

and_true : (b : Bool) → (b && true) ≡ b
and_true true = refl
and_true false = refl

and_none : (b : Bool) → (b && false) ≡ false
and_none true = refl
and_none false = refl

same_number : (n : ℕ) → (n == n) ≡ true
same_number n = grind (arith, nat_tests)

digest-and_reply : (n e l b m r a k o s c t f : Bool) → n ≡ true → e ≡ true → m ≡ true → k ≡ true → t ≡ true
    → ((((n && e) && l) && b) && ((((((((m && r) && a) && k) && o) && s) && c) && t) && f)) ≡ ((l && b) && (((((r && a) && o) && s) && c) && f))
digest-and_reply n e l b m r a k o s c t f hn he hm hk ht = rw (hn, he, hm, hk, ht, and_true (r && a), and_true ((((r && a) && o) && s) && c)) refl

load-is : (number : ℕ) (digest : List ℕ) (lines accepted : ℕ) (listed : List ListedLine) (rest : List RestRule)
    → is_between 1 LAST_LOAD_NUMBER number ≡ true → is_between 0 MOST_LINES lines ≡ true → listed_fit listed ≡ true
    → is_load (load_with number digest lines accepted listed rest) ≡ (is_digest digest && fits_reply (load_with number digest lines accepted listed rest).reply)
unfolding fits_reply
load-is number digest lines accepted listed rest number_fits lines_fit listed_fits =
    digest-and_reply (is_between 1 LAST_LOAD_NUMBER number) (number == number) (length digest == 32) (list_all (λ byte. nat_lt byte 256) digest)
    (nat_le lines MOST_LINES) (rises listed_rank listed) (list_all (is_listed lines) listed) (nat_le (length listed) MOST_LISTED)
    ((length rest == 0) || (length listed == MOST_LISTED)) (rises rest_rank rest) (list_all is_rest rest)
    ((length listed + sum_by count_of rest) == (length listed + sum_by count_of rest)) (nat_le (accepted + (length listed + sum_by count_of rest)) lines)
    number_fits (same_number number) (grind (arith, nat_tests)) (and_parts (list_all small_line listed) (are_listed listed) listed_fits).1 (same_number (length listed + sum_by count_of rest))

finish : {A D : Type 0} (dg : Bool) (d : D) (next : D → Option A) (target : Option A) → (dg ≡ true → target ≡ next d) → (dg ≡ false → target ≡ None) → target ≡ (cond dg (Some d) None >>= next)
finish true d next target a b = a refl
finish false d next target a b = b refl

both_tests : {A : Type 0} (x : A) (own load fits : Bool) → load ≡ fits → (cond own (Some x) None >>= (λ y. cond load (Some y) None)) ≡ cond (fits && own) (Some x) None
both_tests x true load fits e = ap (λ b. cond b (Some x) None) (e ∙ sym (and_true fits))
both_tests x false load fits e = ap (λ b. cond b (Some x) None) (sym (and_none fits))

abbrev own : LoadRow → StoredLoad → Bool
own row l = is_load_row (load_row l) row

end : (row : LoadRow) (number lines accepted : ℕ) (listed : List ListedLine) (rest : List RestRule)
    → is_load (load_with number row.digest lines accepted listed rest) ≡ (is_digest row.digest && fits_reply (load_with number row.digest lines accepted listed rest).reply)
    → (only_if (own row) (load_with number row.digest lines accepted listed rest) >>= only_if is_load)
    ≡ (digest_in row.digest >>= (λ d. only_if (λ l. fits_reply l.reply && own row l) (load_with number d lines accepted listed rest)))
end row number lines accepted listed rest is =
    let l = load_with number row.digest lines accepted listed rest in
    let fits = fits_reply l.reply in
    finish (is_digest row.digest) row.digest (λ d. only_if (λ m. fits_reply m.reply && own row m) (load_with number d lines accepted listed rest)) _
    (λ e. own_first (own row l) (is ∙ ap (λ b. b && fits) e))
    (λ e. refused is_load (own row) l (is ∙ ap (λ b. b && fits) e))
  where
    own_first : (b : Bool) → is_load (load_with number row.digest lines accepted listed rest) ≡ fits_reply (load_with number row.digest lines accepted listed rest).reply
        → (cond b (Some (load_with number row.digest lines accepted listed rest)) None >>= only_if is_load)
        ≡ cond (fits_reply (load_with number row.digest lines accepted listed rest).reply && b) (Some (load_with number row.digest lines accepted listed rest)) None
    own_first true e = ap (λ b. cond b (Some (load_with number row.digest lines accepted listed rest)) None) (e ∙ sym (and_true (fits_reply (load_with number row.digest lines accepted listed rest).reply)))
    own_first false e = ap (λ b. cond b (Some (load_with number row.digest lines accepted listed rest)) None) (sym (and_none (fits_reply (load_with number row.digest lines accepted listed rest).reply)))

-- ---- column by column

pub read_in_turn : (row : LoadRow) → load_in row ≡ (load_of_row row >>= only_if is_load)
unfolding load_in load_of_row
read_in_turn row = sym (
    tested (whole row.number) (is_between 1 LAST_LOAD_NUMBER) _ (only_if is_load) _
    (λ number number_is no.
    ends (whole row.lines) _ (only_if is_load) λ lines.
    ends (whole row.accepted) _ (only_if is_load) λ accepted.
    ends (each listed_in (words row.listed)) _ (only_if is_load) λ listed.
    ends (each rest_in (words row.rest)) _ (only_if is_load) λ rest.
    refused is_load (own row) (load_with number row.digest lines accepted listed rest)
    (contra _ (is_between 1 LAST_LOAD_NUMBER number) (λ h. (can number row.digest lines accepted listed rest h).number_fits) no))
    (λ number number_is number_fits.
    tested (whole row.lines) (is_between 0 MOST_LINES) _ (only_if is_load) _
    (λ lines lines_are no.
    ends (whole row.accepted) _ (only_if is_load) λ accepted.
    ends (each listed_in (words row.listed)) _ (only_if is_load) λ listed.
    ends (each rest_in (words row.rest)) _ (only_if is_load) λ rest.
    refused is_load (own row) (load_with number row.digest lines accepted listed rest)
    (contra _ (is_between 0 MOST_LINES lines) (λ h. (can number row.digest lines accepted listed rest h).lines_fit) no))
    (λ lines lines_are lines_fit.
    tested (whole row.accepted) (is_between 0 MOST_LINES) _ (only_if is_load) _
    (λ accepted accepted_is no.
    ends (each listed_in (words row.listed)) _ (only_if is_load) λ listed.
    ends (each rest_in (words row.rest)) _ (only_if is_load) λ rest.
    refused is_load (own row) (load_with number row.digest lines accepted listed rest)
    (contra _ (is_between 0 MOST_LINES accepted) (λ h. (can number row.digest lines accepted listed rest h).accepted_fit) no))
    (λ accepted accepted_is accepted_fit.
    tested (each listed_in (words row.listed)) listed_fit _ (only_if is_load) _
    (λ listed listed_are no.
    ends (each rest_in (words row.rest)) _ (only_if is_load) λ rest.
    refused is_load (own row) (load_with number row.digest lines accepted listed rest)
    (contra _ (listed_fit listed) (λ h. (can number row.digest lines accepted listed rest h).listed_fits) no))
    (λ listed listed_are listed_fits.
    tested (each rest_in (words row.rest)) rest_fit _ (only_if is_load) _
    (λ rest rest_is no.
    refused is_load (own row) (load_with number row.digest lines accepted listed rest)
    (contra _ (rest_fit rest) (λ h. (can number row.digest lines accepted listed rest h).rest_fits) no))
    (λ rest rest_is rest_fits. end row number lines accepted listed rest (load-is number row.digest lines accepted listed rest number_fits lines_fit listed_fits))
    ∙ same_first (each rest_in (words row.rest) >>= only_if rest_fit) (rest_words row.rest) _ (sym (rest_words-are row.rest)))
    ∙ same_first (each listed_in (words row.listed) >>= only_if listed_fit) (listed_words row.listed) _ (sym (listed_words-are row.listed)))))
    )
