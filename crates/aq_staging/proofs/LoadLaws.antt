-- Laws of loads.
use Rattle.std.proofs.Common.{◌≡◌, ℕ, ◌-◌, ◌<◌, ◌≤◌, min, take, drop, replicate, List, [], ◌∷◌, ◌++◌, length, if◌then◌else◌, Option, Some, None, refl, sym, ap, ◌∙◌, inl, inr, arith}
use Rattle.std.specs.Option.{is_some}
use Rattle.std.specs.List.{cons_option, filter_map}
use Rattle.std.proofs.lemmas.List.{append_assoc, get_or-replicate, length-append, append-nil, take_all, take_min, length-drop, nil_from_length}
use Rattle.std.proofs.lemmas.Bool.{cases_lt}
use Rattle.std.proofs.Math.Nat.{min_comm}
use Rattle.aq_base.specs.declared.reply.LoadReply.{LoadReply}
use Rattle.aq_base.specs.declared.reply.RestRule.{RestRule}
use Rattle.aq_rules.specs.Limits.{MOST_LISTED}
use Rattle.aq_base.specs.declared.reply.ListedLine.{ListedLine}
use Rattle.aq_base.specs.Rule.{rule_number}
use Rattle.aq_base.specs.declared.rule.Rule.{Rule}
use Rattle.aq_base.specs.declared.rule.Rule.TheVariants.{BadBytes}
use Rattle.aq_rules.specs.Lines.Reading.{line_value}
use Rattle.aq_rules.specs.Lines.Lines.{NumberedLine}
use Rattle.aq_rules.specs.Office.Load.{after, after_all, changed_by, listed_for, refusal, refusals, reply_for, rest_for, rest_of}
use Rattle.aq_rules.specs.Office.Office.{Office}
use Rattle.aq_staging.specs.Counts.{CountsByNumber, counted, counted_in}

-- a line that is refused leaves the office
pub after-refused : (office : Office) (text : List ℕ) (rule : Rule) → refusal office text ≡ Some rule → after office text ≡ office
after-refused office text rule broken = ap (λ (r : Option Rule). if is_some r then office else changed_by office (line_value text)) broken

-- a line is refused once at most
one_listed : (number : ℕ) (rule : Option Rule) → length (listed_for number rule) ≤ 1
one_listed number None = omega arith
one_listed number (Some rule) = omega arith

pub few_refused : (office : Office) (lines : List NumberedLine) → length (refusals office lines) ≤ length lines
few_refused office [] = omega arith
few_refused office (line ∷ lines) =
    omega (arith, one_listed line.number (refusal office line.text), few_refused (after office line.text) lines, length-append (listed_for line.number (refusal office line.text)) (refusals (after office line.text) lines))

-- a line that is refused is one of those refused so far
pub next_refused : (office now : Office) (line : NumberedLine) (rest left : List NumberedLine) (refused more all : List ListedLine) → left ≡ line ∷ rest → more ≡ refused ++ listed_for line.number (refusal office line.text) → now ≡ after office line.text
    → refused ++ refusals office left ≡ all → more ++ refusals now rest ≡ all
next_refused office now line rest left refused more all next listed is told =
    (λ i. listed i ++ refusals (is i) rest)
    ∙ append_assoc refused (listed_for line.number (refusal office line.text)) (refusals (after office line.text) rest)
    ∙ ap (λ lines. refused ++ refusals office lines) (sym next) ∙ told

-- at the end of the lines, those refused so far are all
pub all_refused : (refused all : List ListedLine) (office : Office) (left : List NumberedLine) → left ≡ [] → refused ++ refusals office left ≡ all → refused ≡ all
all_refused refused all office left none told =
    sym (append-nil refused) ∙ ap (λ lines. refused ++ refusals office lines) (sym none) ∙ told

-- and the office so far is the office after all
pub after_all_lines : (office all : Office) (left : List NumberedLine) → left ≡ [] → after_all office left ≡ all → office ≡ all
after_all_lines office all left none told = ap (after_all office) (sym none) ∙ told

-- ---- the reply

pub listed_part : (refused : List ListedLine) (cut : ℕ) → cut ≡ min (length refused) MOST_LISTED → take cut refused ≡ take MOST_LISTED refused
listed_part refused cut is = ap (λ n. take n refused) (is ∙ min_comm (length refused) MOST_LISTED) ∙ take_min MOST_LISTED refused

past_end : (refused : List ListedLine) (n : ℕ) → length refused ≤ n → drop n refused ≡ []
past_end refused n few = nil_from_length (drop n refused) (omega (arith, length-drop n refused))

dropped : (refused : List ListedLine) (cut : ℕ) → cut ≡ min (length refused) MOST_LISTED → drop cut refused ≡ drop MOST_LISTED refused
dropped refused cut is =
    elim (cases_lt MOST_LISTED (length refused)) [
      | inl more ↦ let same : cut ≡ MOST_LISTED = omega (arith, is, more) in ap (λ n. drop n refused) same
      | inr few ↦ past_end refused cut (omega (arith, is, few)) ∙ sym (past_end refused MOST_LISTED few)
    ]

pub rest_part : (refused : List ListedLine) (cut : ℕ) → cut ≡ min (length refused) MOST_LISTED → take (length refused - cut) (drop cut refused) ≡ drop MOST_LISTED refused
rest_part refused cut is =
    take_all (length refused - cut) (drop cut refused) (omega (arith, length-drop cut refused)) ∙ dropped refused cut is

pub same_reply : (number lines taken : ℕ) (refused listed : List ListedLine) (rest : List RestRule) → listed ≡ take MOST_LISTED refused → rest ≡ rest_of (drop MOST_LISTED refused)
    → (let reply : LoadReply = record { number = number; lines = lines; accepted = taken - length refused; refused = length refused; listed = listed; rest = rest } in reply) ≡ reply_for number lines taken refused
same_reply number lines taken refused listed rest same_listed same_rest = cc

pub reply_for-same : (number number' lines lines' taken taken' : ℕ) (refused refused' : List ListedLine) → number ≡ number' → lines ≡ lines' → taken ≡ taken' → refused ≡ refused' → reply_for number lines taken refused ≡ reply_for number' lines' taken' refused'
reply_for-same number number' lines lines' taken taken' refused refused' n p q r =
    λ i. reply_for (n i) (p i) (q i) (r i)

-- ---- counts by number

number_fits : (rule : Rule) → rule_number rule < 256
number_fits BadBytes = omega arith
number_fits _ = omega arith

counted-is : (refused : List ListedLine) (counts : List ℕ) (rule : Rule) → CountsByNumber refused counts → counted_in counts rule ≡ rest_for refused rule
counted-is refused counts rule counted_by = ap (counted rule) (counted_by (rule_number rule) (number_fits rule))

all_counted : (refused : List ListedLine) (counts : List ℕ) (rules : List Rule) → CountsByNumber refused counts → filter_map (counted_in counts) rules ≡ filter_map (rest_for refused) rules
all_counted refused counts [] counted_by = refl
all_counted refused counts (rule ∷ rules) counted_by =
    ap (λ (first : Option RestRule). cons_option first (filter_map (counted_in counts) rules)) (counted-is refused counts rule counted_by)
    ∙ ap (cons_option (rest_for refused rule)) (all_counted refused counts rules counted_by)

pub rest_counted : (refused : List ListedLine) (counts : List ℕ) (rules said : List Rule) (start all : List RestRule) → CountsByNumber refused counts → said ≡ rules → start ≡ [] → all ≡ start ++ filter_map (counted_in counts) said
    → all ≡ filter_map (rest_for refused) rules
rest_counted refused counts rules said start all counted_by same none by_rules =
    by_rules
    ∙ ap (λ (before : List RestRule). before ++ filter_map (counted_in counts) said) none
    ∙ ap (filter_map (counted_in counts)) same
    ∙ all_counted refused counts rules counted_by

pub none_counted : CountsByNumber [] (replicate 256 0)
none_counted number fits = get_or-replicate 256 number 0 0 fits
