-- The texts in rows are read back as what they were written from.
use Rattle.std.proofs.Common.{◌≡◌, ℕ, suc, ◌+◌, ◌^◌, ◌<◌, ◌≤◌, Bool, true, false, not, ◌&&◌, ◌||◌, cond, List, [], ◌∷◌, ◌++◌, length, map, refl, ap, subst, ◌∙◌, arith, append_assoc}
use Rattle.std.specs.Prelude.{Option, Some, None, option_map, ◌==◌, nat_le, decimal, codes}
use Rattle.std.specs.List.{list_all, slice_split, onto_first, join_with_byte, before_first, after_first, prefix_len}
use Rattle.std.specs.Char.{is_ascii_digit}
use Rattle.std.proofs.lemmas.Fmt.{decimal_is_IsNumeral}
use Rattle.std.proofs.lemmas.Bool.Decides.{nat_tests}
use Rattle.std.proofs.lemmas.Bool.{and_from, and_parts}
use Rattle.aq_base.specs.Decimal.{are_digits}
use Rattle.aq_base.specs.Rule.{rule_number}
use Rattle.aq_base.specs.declared.code.Code.{Code}
use Rattle.aq_base.specs.declared.reply.ListedLine.{ListedLine}
use Rattle.aq_base.specs.declared.reply.RestRule.{RestRule}
use Rattle.aq_base.specs.declared.rule.Rule.{Rule}
use Rattle.aq_base.specs.declared.rule.Rule.TheVariants.{BadBytes, BadTag, FieldCount, BadAction, BadSite, ParameterOutOfProfile, BadPoc, BadDuration, BadUnit, BadMethod, BadDate, BadTime, ValueAndNull, NeitherValueNorNull, BadValue, ValueOutOfRange, BadNull, BadQualifier, UnknownMonitor, WrongDuration, AlreadyThere, NotThere, ObservationsFull, SitesFull, MonitorsFull, BadSpan, BadInterval, BadSeason, BadMakeup, MakeupsFull, UnknownEvent, EventsFull, BadCode, ListFull, BadPair, PairTaken}
use Rattle.aq_rules.specs.Lines.Fields.{is_empty, is_space}
use Rattle.aq_rules.specs.Lines.Spellings.{◌>>=◌, is_code_byte, qualifier_in}
use Rattle.aq_rules.specs.Lines.Canonical.{code_text}
use Rattle.aq_rules.specs.Office.Office.{is_null_code, is_qualifier}
use Rattle.aq_rules.specs.Shown.Export.{codes_text}
use Rattle.aq_rules.specs.Kept.Rows.{pair_text, words, each, null_of, number_in, is_colon, rule_with, listed_in, rest_in}
use Rattle.aq_rules.proofs.Digits.{digits_are}
use Rattle.aq_rules.proofs.Elements.{Every}

-- ---- words between spaces

abbrev pub unspaced : List ℕ → Bool
unspaced text = list_all (λ b. not (is_space b)) text

-- a text without spaces that is not empty
abbrev pub IsWord : List ℕ → Type 0
IsWord text = (is_empty text ≡ false) × (unspaced text ≡ true)

split-space : (text rest : List ℕ) → unspaced text ≡ true → slice_split is_space (text ++ 32 ∷ rest) ≡ text ∷ slice_split is_space rest
split-space [] rest h = refl
split-space (b ∷ text) rest h =
    let parts = and_parts (not (is_space b)) (unspaced text) h in
    let plain : is_space b ≡ false = not_true (is_space b) parts.0 in
    ap (λ s. cond s ([] ∷ slice_split is_space (text ++ 32 ∷ rest)) (onto_first b (slice_split is_space (text ++ 32 ∷ rest)))) plain
    ∙ ap (onto_first b) (split-space text rest parts.1)
  where
    not_true : (a : Bool) → not a ≡ true → a ≡ false
    not_true true h = cc
    not_true false h = refl

split-end : (text : List ℕ) → unspaced text ≡ true → slice_split is_space text ≡ text ∷ []
split-end [] h = refl
split-end (b ∷ text) h =
    let parts = and_parts (not (is_space b)) (unspaced text) h in
    let plain : is_space b ≡ false = not_true (is_space b) parts.0 in
    ap (λ s. cond s ([] ∷ slice_split is_space text) (onto_first b (slice_split is_space text))) plain ∙ ap (onto_first b) (split-end text parts.1)
  where
    not_true : (a : Bool) → not a ≡ true → a ≡ false
    not_true true h = cc
    not_true false h = refl

split-joined : (text : List ℕ) (texts : List (List ℕ)) → IsWord text → Every IsWord texts → slice_split is_space (join_with_byte 32 (text ∷ texts)) ≡ text ∷ texts
split-joined text [] h every = split-end text h.1
split-joined text (next ∷ texts) h every =
    split-space text (join_with_byte 32 (next ∷ texts)) h.1 ∙ ap (λ (l : List (List ℕ)). text ∷ l) (split-joined next texts every.0 every.1)

not_empty : (text : List ℕ) (texts : List (List ℕ)) → is_empty text ≡ false → is_empty (join_with_byte 32 (text ∷ texts)) ≡ false
not_empty [] texts h = cc
not_empty (b ∷ text) [] h = refl
not_empty (b ∷ text) (next ∷ texts) h = refl

pub words-joined : (texts : List (List ℕ)) → Every IsWord texts → words (join_with_byte 32 texts) ≡ texts
words-joined [] every = refl
words-joined (text ∷ texts) every =
    ap (λ s. cond s [] (slice_split is_space (join_with_byte 32 (text ∷ texts)))) (not_empty text texts every.0.0) ∙ split-joined text texts every.0 every.1

-- what each part says
pub each-read : {X : Type 0} (write : X → List ℕ) (read : List ℕ → Option X) (xs : List X) → Every (λ x. read (write x) ≡ Some x) xs → each read (map write xs) ≡ Some xs
each-read write read [] every = refl
each-read {X = X} write read (x ∷ xs) every =
    ap (λ (o : Option X). o >>= (λ y. option_map (λ ys. y ∷ ys) (each read (map write xs)))) every.0
    ∙ ap (λ (o : Option (List X)). option_map (λ ys. x ∷ ys) o) (each-read write read xs every.1)

pub every-map : {X Y : Type 0} (P : Y → Type 0) (f : X → Y) (xs : List X) → Every (λ x. P (f x)) xs → Every P (map f xs)
every-map P f [] every = tt
every-map P f (x ∷ xs) every = (every.0, every-map P f xs every.1)

-- ---- codes

code_plain : (b : ℕ) → is_code_byte b ≡ true → not (is_space b) ≡ true
code_plain b h = by_test (is_space b) refl
  where
    by_test : (a : Bool) → is_space b ≡ a → not a ≡ true
    by_test false e = refl
    by_test true e =
        let is : b ≡ 32 = grind (arith, nat_tests) in
        let P : ℕ → Type 0 = λ n. is_code_byte n ≡ true in
        let bad : is_code_byte 32 ≡ true = subst P is h in
        cc

pub qualifier-word : (code : Code) → is_qualifier code ≡ true → IsWord (code_text code)
qualifier-word code h =
    let parts = and_parts (is_code_byte code.first) ((code.second == 0) || is_code_byte code.second) h in
    by_test (code.second == 0) refl (code_plain code.first parts.0) parts.1
  where
    by_test : (a : Bool) → (code.second == 0) ≡ a → not (is_space code.first) ≡ true → (a || is_code_byte code.second) ≡ true
        → IsWord (cond a (code.first ∷ []) (code.first ∷ code.second ∷ []))
    by_test true e first second = (refl, and_from (not (is_space code.first)) true first refl)
    by_test false e first second = (refl, and_from (not (is_space code.first)) (not (is_space code.second) && true) first (and_from (not (is_space code.second)) true (code_plain code.second second) refl))

pub qualifier-read : (code : Code) → is_qualifier code ≡ true → qualifier_in (code_text code) ≡ Some code
qualifier-read code h =
    let parts = and_parts (is_code_byte code.first) ((code.second == 0) || is_code_byte code.second) h in
    by_test (code.second == 0) refl parts.0 parts.1
  where
    by_test : (a : Bool) → (code.second == 0) ≡ a → is_code_byte code.first ≡ true → (a || is_code_byte code.second) ≡ true
        → qualifier_in (cond a (code.first ∷ []) (code.first ∷ code.second ∷ [])) ≡ Some code
    by_test true e first second =
        let zero_second : 0 ≡ code.second = grind (arith, nat_tests) in
        rw first (λ i. Some (record { first = code.first; second = zero_second i }))
    by_test false e first second = rw (first, second) refl

null-qualifier : (code : Code) → is_null_code code ≡ true → is_qualifier code ≡ true
null-qualifier code h =
    let parts = and_parts (is_code_byte code.first) (is_code_byte code.second) h in
    and_from (is_code_byte code.first) ((code.second == 0) || is_code_byte code.second) parts.0 (or_second (code.second == 0) (is_code_byte code.second) parts.1)
  where
    or_second : (a b : Bool) → b ≡ true → (a || b) ≡ true
    or_second true b h = refl
    or_second false b h = h

pub null-read : (code : Code) → is_null_code code ≡ true → null_of (code_text code) ≡ Some (Some code)
null-read code h =
    let is = null-qualifier code h in
    ap (λ s. cond s (Some None) (option_map Some (qualifier_in (code_text code)))) (qualifier-word code is).0
    ∙ ap (λ (o : Option Code). option_map Some o) (qualifier-read code is)

every-qualifier : (P : Code → Type 0) → ((code : Code) → is_qualifier code ≡ true → P code) → (qualifiers : List Code) → list_all is_qualifier qualifiers ≡ true → Every P qualifiers
every-qualifier P h [] all = tt
every-qualifier P h (code ∷ qualifiers) all =
    let parts = and_parts (is_qualifier code) (list_all is_qualifier qualifiers) all in (h code parts.0, every-qualifier P h qualifiers parts.1)

pub qualifiers-read : (qualifiers : List Code) → list_all is_qualifier qualifiers ≡ true → each qualifier_in (words (codes_text qualifiers)) ≡ Some qualifiers
qualifiers-read qualifiers all =
    ap (each qualifier_in) (words-joined (map code_text qualifiers) (every-map IsWord code_text qualifiers (every-qualifier (λ code. IsWord (code_text code)) qualifier-word qualifiers all)))
    ∙ each-read code_text qualifier_in qualifiers (every-qualifier (λ code. qualifier_in (code_text code) ≡ Some code) qualifier-read qualifiers all)

-- ---- numbers

some_text : (ds : List ℕ) → 0 < length ds → is_empty ds ≡ false
some_text [] h = absurd (omega arith)
some_text (c ∷ ds) h = refl

pub number-read : (n : ℕ) → n < 2 ^ 64 → number_in (decimal n) ≡ Some n
number-read n small =
    let is = decimal_is_IsNumeral n small in
    let digits = digits_are (decimal n) is.0.1 in
    let some = some_text (decimal n) is.0.0 in
    rw (digits, some) (ap (λ (z : ℕ). Some z) is.1)

digit_plain : (c : ℕ) → is_ascii_digit c ≡ true → not (is_space c) ≡ true
digit_plain c h = grind (arith, nat_tests)

digit_no_colon : (c : ℕ) → is_ascii_digit c ≡ true → is_colon c ≡ false
digit_no_colon c h = grind (arith, nat_tests)

digits_unspaced : (ds : List ℕ) → are_digits ds ≡ true → unspaced ds ≡ true
digits_unspaced [] h = refl
digits_unspaced (c ∷ ds) h =
    let parts = and_parts (is_ascii_digit c) (are_digits ds) h in and_from (not (is_space c)) (unspaced ds) (digit_plain c parts.0) (digits_unspaced ds parts.1)

unspaced-append : (xs ys : List ℕ) → unspaced xs ≡ true → unspaced ys ≡ true → unspaced (xs ++ ys) ≡ true
unspaced-append [] ys h k = k
unspaced-append (x ∷ xs) ys h k =
    let parts = and_parts (not (is_space x)) (unspaced xs) h in and_from (not (is_space x)) (unspaced (xs ++ ys)) parts.0 (unspaced-append xs ys parts.1 k)

-- the part before a colon and the part after it
colon-before : (ds rest : List ℕ) → are_digits ds ≡ true → before_first is_colon (ds ++ 58 ∷ rest) ≡ ds
colon-before [] rest h = refl
colon-before (c ∷ ds) rest h =
    let parts = and_parts (is_ascii_digit c) (are_digits ds) h in
    let plain = digit_no_colon c parts.0 in
    let more : prefix_len (λ b. not (is_colon b)) ((c ∷ ds) ++ 58 ∷ rest) ≡ suc (prefix_len (λ b. not (is_colon b)) (ds ++ 58 ∷ rest)) = rw plain (omega arith) in
    rw more (ap (λ (l : List ℕ). c ∷ l) (colon-before ds rest parts.1))

colon-after : (ds rest : List ℕ) → are_digits ds ≡ true → after_first is_colon (ds ++ 58 ∷ rest) ≡ rest
colon-after [] rest h = refl
colon-after (c ∷ ds) rest h =
    let parts = and_parts (is_ascii_digit c) (are_digits ds) h in
    let plain = digit_no_colon c parts.0 in
    let more : prefix_len (λ b. not (is_colon b)) ((c ∷ ds) ++ 58 ∷ rest) + 1 ≡ suc (prefix_len (λ b. not (is_colon b)) (ds ++ 58 ∷ rest) + 1) = rw plain (omega arith) in
    rw more (colon-after ds rest parts.1)

-- ---- pairs of numbers

pair-split : (a b : ℕ) → pair_text a b ≡ decimal a ++ 58 ∷ decimal b
pair-split a b = append_assoc (decimal a) (58 ∷ []) (decimal b)

pub pair-before : (a b : ℕ) → a < 2 ^ 64 → before_first is_colon (pair_text a b) ≡ decimal a
pair-before a b small =
    ap (before_first is_colon) (pair-split a b) ∙ colon-before (decimal a) (decimal b) (digits_are (decimal a) (decimal_is_IsNumeral a small).0.1)

pub pair-after : (a b : ℕ) → a < 2 ^ 64 → after_first is_colon (pair_text a b) ≡ decimal b
pair-after a b small =
    ap (after_first is_colon) (pair-split a b) ∙ colon-after (decimal a) (decimal b) (digits_are (decimal a) (decimal_is_IsNumeral a small).0.1)

some-front : (xs ys : List ℕ) → is_empty xs ≡ false → is_empty (xs ++ ys) ≡ false
some-front [] ys h = cc
some-front (x ∷ xs) ys h = refl

pub pair-word : (a b : ℕ) → a < 2 ^ 64 → b < 2 ^ 64 → IsWord (pair_text a b)
pair-word a b small_a small_b =
    let first = (decimal_is_IsNumeral a small_a).0 in
    let second = (decimal_is_IsNumeral b small_b).0 in
    let digits_a = digits_unspaced (decimal a) (digits_are (decimal a) first.1) in
    let digits_b = digits_unspaced (decimal b) (digits_are (decimal b) second.1) in (
      some-front (decimal a ++ codes ":") (decimal b) (some-front (decimal a) (codes ":") (some_text (decimal a) first.0)),
      unspaced-append (decimal a ++ codes ":") (decimal b) (unspaced-append (decimal a) (codes ":") digits_a refl) digits_b,
    )

-- ---- rules

pub rule-read : (rule : Rule) → nat_le (rule_number rule) 36 ≡ true → rule_with (rule_number rule) ≡ Some rule
rule-read BadBytes h = refl
rule-read BadTag h = refl
rule-read FieldCount h = refl
rule-read BadAction h = refl
rule-read BadSite h = refl
rule-read ParameterOutOfProfile h = refl
rule-read BadPoc h = refl
rule-read BadDuration h = refl
rule-read BadUnit h = refl
rule-read BadMethod h = refl
rule-read BadDate h = refl
rule-read BadTime h = refl
rule-read ValueAndNull h = refl
rule-read NeitherValueNorNull h = refl
rule-read BadValue h = refl
rule-read ValueOutOfRange h = refl
rule-read BadNull h = refl
rule-read BadQualifier h = refl
rule-read UnknownMonitor h = refl
rule-read WrongDuration h = refl
rule-read AlreadyThere h = refl
rule-read NotThere h = refl
rule-read ObservationsFull h = refl
rule-read SitesFull h = refl
rule-read MonitorsFull h = refl
rule-read BadSpan h = refl
rule-read BadInterval h = refl
rule-read BadSeason h = refl
rule-read BadMakeup h = refl
rule-read MakeupsFull h = refl
rule-read UnknownEvent h = refl
rule-read EventsFull h = refl
rule-read BadCode h = refl
rule-read ListFull h = refl
rule-read BadPair h = refl
rule-read PairTaken h = refl

rule_small : (rule : Rule) → nat_le (rule_number rule) 36 ≡ true → rule_number rule < 2 ^ 64
rule_small rule h = let low : rule_number rule ≤ 36 = grind (arith, nat_tests) in omega arith

abbrev pub listed_write : ListedLine → List ℕ
listed_write l = pair_text l.line (rule_number l.rule)

abbrev pub rest_write : RestRule → List ℕ
rest_write r = pair_text (rule_number r.rule) r.count

pub listed-read : (l : ListedLine) → l.line < 2 ^ 64 → nat_le (rule_number l.rule) 36 ≡ true → listed_in (listed_write l) ≡ Some l
unfolding listed_in
listed-read l small known =
    let n = rule_number l.rule in
    let before : number_in (before_first is_colon (pair_text l.line n)) ≡ Some l.line = ap number_in (pair-before l.line n small) ∙ number-read l.line small in
    let after : number_in (after_first is_colon (pair_text l.line n)) ≡ Some n = ap number_in (pair-after l.line n small) ∙ number-read n (rule_small l.rule known) in
    let rule = rule-read l.rule known in
    rw before (rw after (rw rule refl))

pub rest-read : (r : RestRule) → r.count < 2 ^ 64 → nat_le (rule_number r.rule) 36 ≡ true → rest_in (rest_write r) ≡ Some r
unfolding rest_in
rest-read r small known =
    let n = rule_number r.rule in
    let low = rule_small r.rule known in
    let before : number_in (before_first is_colon (pair_text n r.count)) ≡ Some n = ap number_in (pair-before n r.count low) ∙ number-read n low in
    let after : number_in (after_first is_colon (pair_text n r.count)) ≡ Some r.count = ap number_in (pair-after n r.count low) ∙ number-read r.count small in
    let rule = rule-read r.rule known in
    rw before (rw rule (rw after refl))

pub listed-word : (l : ListedLine) → l.line < 2 ^ 64 → nat_le (rule_number l.rule) 36 ≡ true → IsWord (listed_write l)
listed-word l small known = pair-word l.line (rule_number l.rule) small (rule_small l.rule known)

pub rest-word : (r : RestRule) → r.count < 2 ^ 64 → nat_le (rule_number r.rule) 36 ≡ true → IsWord (rest_write r)
rest-word r small known = pair-word (rule_number r.rule) r.count (rule_small r.rule known) small
