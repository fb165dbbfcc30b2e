-- A text of whole lines, each of plain bytes and none skipped: what a body of it has, and how it is loaded.
use Rattle.std.proofs.Common.{◌≡◌, ℕ, ◌+◌, Bool, true, false, not, cond, List, [], ◌∷◌, ◌++◌, map, Some, None, Option, is_some, is_none, refl, sym, ap, ◌∙◌, arith, append_assoc}
use Rattle.std.specs.Prelude.{filter, flat_map, ◌==◌, codes}
use Rattle.std.proofs.lemmas.Bool.{and_parts, false≢true}
use Rattle.std.proofs.lemmas.Bool.Decides.{nat_tests}
use Rattle.aq_base.specs.declared.rule.Rule.{Rule}
use Rattle.aq_rules.specs.Lines.Lines.{cut_at_ends, without_return, without_mark, is_skipped, numbered, body_lines}
use Rattle.aq_rules.specs.Lines.Fields.{fields}
use Rattle.aq_rules.specs.Lines.Reading.{LineValue, is_plain, is_plain_byte, line_value, reading_rule, tag_of, form_value}
use Rattle.aq_rules.specs.Lines.Spellings.{◌>>=◌}
use Rattle.aq_rules.specs.Office.Load.{after, after_all, changed, listed_for, refusal, refusals}
use Rattle.aq_rules.specs.Office.Office.{Office}
use Rattle.aq_rules.specs.Office.Refusal.{broken}
use Rattle.aq_rules.proofs.Agree.{agree-line}
use Rattle.aq_rules.proofs.Elements.{Every}

-- of plain bytes, and neither empty nor a comment
pub record IsLine (text : List ℕ) : Type 0 where
  pub plain : is_plain text ≡ true
  pub read : is_skipped text ≡ false

abbrev pub ended : List ℕ → List ℕ
ended text = text ++ codes "\n"

-- ---- its lines

no_end : (byte : ℕ) → is_plain_byte byte ≡ true → (byte == 10) ≡ false
no_end byte h = grind (arith, nat_tests)

no_return : (byte : ℕ) → is_plain_byte byte ≡ true → (byte == 13) ≡ false
no_return byte h = grind (arith, nat_tests)

no_mark : (byte : ℕ) → is_plain_byte byte ≡ true → (byte == 239) ≡ false
no_mark byte h = grind (arith, nat_tests)

cut-line : (text rest : List ℕ) → is_plain text ≡ true → cut_at_ends (text ++ 10 ∷ rest) ≡ text ∷ cut_at_ends rest
cut-line [] rest h = refl
cut-line (byte ∷ text) rest h =
    let parts = and_parts (is_plain_byte byte) (is_plain text) h in
    rw (no_end byte parts.0, cut-line text rest parts.1) refl

kept-line : (text : List ℕ) → is_plain text ≡ true → without_return text ≡ text
kept-line [] h = refl
kept-line (byte ∷ text) h =
    let parts = and_parts (is_plain_byte byte) (is_plain text) h in
    rw (no_return byte parts.0, kept-line text parts.1) refl

cut-lines : (lines : List (List ℕ)) → Every IsLine lines → map without_return (cut_at_ends (flat_map ended lines)) ≡ lines
cut-lines [] h = refl
cut-lines (text ∷ lines) h =
    ap (λ bytes. map without_return (cut_at_ends bytes)) (append_assoc text (10 ∷ []) (flat_map ended lines))
    ∙ ap (map without_return) (cut-line text (flat_map ended lines) h.0.plain)
    ∙ rw (kept-line text h.0.plain, cut-lines lines h.1) refl

unmarked : (lines : List (List ℕ)) → Every IsLine lines → without_mark (flat_map ended lines) ≡ flat_map ended lines
unmarked [] h = refl
unmarked ([] ∷ lines) h = absurd (false≢true (sym h.0.read))
unmarked ((byte ∷ text) ∷ lines) h =
    let parts = and_parts (is_plain_byte byte) (is_plain text) h.0.plain in
    rw (no_mark byte parts.0) refl

all-read : (number : ℕ) (lines : List (List ℕ)) → Every IsLine lines → filter (λ line. not (is_skipped line.text)) (numbered number lines) ≡ numbered number lines
all-read number [] h = refl
all-read number (text ∷ lines) h = rw (h.0.read, all-read (number + 1) lines h.1) refl

pub lines-of : (lines : List (List ℕ)) → Every IsLine lines → body_lines (flat_map ended lines) ≡ numbered 1 lines
lines-of lines h =
    ap (λ bytes. filter (λ line. not (is_skipped line.text)) (numbered 1 (map without_return (cut_at_ends bytes)))) (unmarked lines h)
    ∙ ap (λ all. filter (λ line. not (is_skipped line.text)) (numbered 1 all)) (cut-lines lines h)
    ∙ all-read 1 lines h

-- ---- how they are loaded

-- each of these lines is accepted in turn, and the last one leaves this office
abbrev pub Accepts : Office → List (List ℕ) → Office → Type 0
Accepts before [] now = before ≡ now
Accepts before (text ∷ lines) now = (refusal before text ≡ None) × Accepts (after before text) lines now

none-refused : (before now : Office) (number : ℕ) (lines : List (List ℕ)) → Accepts before lines now → refusals before (numbered number lines) ≡ []
none-refused before now number [] h = refl
none-refused before now number (text ∷ lines) h =
    ap (λ (o : Option Rule). listed_for number o ++ refusals (after before text) (numbered (number + 1) lines)) h.0
    ∙ none-refused (after before text) now (number + 1) lines h.1

all-done : (before now : Office) (number : ℕ) (lines : List (List ℕ)) → Accepts before lines now → after_all before (numbered number lines) ≡ now
all-done before now number [] h = h
all-done before now number (text ∷ lines) h = all-done (after before text) now (number + 1) lines h.1

pub refused-none : (before now : Office) (lines : List (List ℕ)) → Every IsLine lines → Accepts before lines now → refusals before (body_lines (flat_map ended lines)) ≡ []
refused-none before now lines are h = ap (refusals before) (lines-of lines are) ∙ none-refused before now 1 lines h

pub loaded : (before now : Office) (lines : List (List ℕ)) → Every IsLine lines → Accepts before lines now → after_all before (body_lines (flat_map ended lines)) ≡ now
loaded before now lines are h = ap (after_all before) (lines-of lines are) ∙ all-done before now 1 lines h

-- ---- a line by its value

no_rule : (o : Option Rule) → is_none o ≡ true → o ≡ None
no_rule None h = refl
no_rule (Some rule) h = absurd (false≢true h)

pub read-no_rule : (text : List ℕ) (value : LineValue) → line_value text ≡ Some value → reading_rule text ≡ None
read-no_rule text value is = no_rule (reading_rule text) (sym (agree-line text) ∙ ap is_some is)

-- only plain bytes spell a value
pub read-plain : (text : List ℕ) (value : LineValue) → line_value text ≡ Some value → is_plain text ≡ true
read-plain text value is = choose (is_plain text) refl is
  where
    choose : (b : Bool) → is_plain text ≡ b → cond b (tag_of text >>= λ tag. form_value tag (fields text)) None ≡ Some value → is_plain text ≡ true
    choose true e h = e
    choose false e h = cc

pub line-accepted : (office : Office) (text : List ℕ) (value : LineValue) → line_value text ≡ Some value → broken office value ≡ None → refusal office text ≡ None
line-accepted office text value is unbroken = rw (read-no_rule text value is, is, unbroken) refl

pub line-done : (office : Office) (text : List ℕ) (value : LineValue) → line_value text ≡ Some value → broken office value ≡ None → after office text ≡ changed office value
line-done office text value is unbroken = rw (line-accepted office text value is unbroken, is) refl
