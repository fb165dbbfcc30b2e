-- A line that is written field by field.
use Rattle.std.proofs.Common.{◌≡◌, Bool, true, false, cond, ℕ, ◌+◌, ◌<◌, List, [], ◌∷◌, ◌++◌, map, length, take, get_or, Some, None, Option, refl, sym, ap, ◌∙◌, append_assoc}
use Rattle.std.proofs.lemmas.List.{take_more, map-append, append-nil}
use Rattle.aq_base.specs.declared.code.Code.{Code}
use Rattle.aq_rules.specs.Lines.Canonical.{canonical_rd, rd_texts, code_text, texts_behind, joined}
use Rattle.aq_rules.specs.Lines.RdForm.{Put, Delete}
use Rattle.aq_rules.specs.Lines.Reading.{is_plain}
use Rattle.aq_rd.specs.Printing.{behind_bars, null_text}
use Rattle.aq_rd.specs.RdReading.{value_of}
use Rattle.aq_rd.specs.Tags.{has_office_tag}
use Rattle.aq_rd.specs.declared.line.RdLine.{RdLine}
use Rattle.aq_rd.specs.declared.line.RdLine.TheVariants as lines

pub joined-cons : (text : List ℕ) (texts : List (List ℕ)) → joined (text ∷ texts) ≡ text ++ behind_bars texts
joined-cons text [] = sym (append-nil text)
joined-cons text (next ∷ texts) = ap (λ rest. text ++ 124 ∷ rest) (joined-cons next texts)

pub behind_bars-append : (a b : List (List ℕ)) → behind_bars (a ++ b) ≡ behind_bars a ++ behind_bars b
behind_bars-append [] b = refl
behind_bars-append (text ∷ a) b = ap (λ rest. 124 ∷ text ++ rest) (behind_bars-append a b) ∙ ap (λ rest. 124 ∷ rest) (sym (append_assoc text (behind_bars a) (behind_bars b)))

pub one-more : (quals : List Code) (i : ℕ) (code : Code) → i < length quals
    → behind_bars (map code_text (take (i + 1) quals)) ≡ behind_bars (map code_text (take i quals)) ++ 124 ∷ code_text (get_or quals i code)
one-more quals i code within =
    ap (λ front. behind_bars (map code_text front)) (take_more quals i code within)
    ∙ ap behind_bars (map-append code_text (take i quals) (get_or quals i code ∷ []))
    ∙ behind_bars-append (map code_text (take i quals)) (code_text (get_or quals i code) ∷ [])
    ∙ ap (λ text. behind_bars (map code_text (take i quals)) ++ 124 ∷ text) (append-nil (code_text (get_or quals i code)))

-- what follows the value
pub behind-null : (code : Code) → behind_bars (texts_behind (Some code) []) ≡ 124 ∷ code_text code
behind-null code = ap (λ text. 124 ∷ text) (append-nil (code_text code))

pub behind-quals : (null : Option Code) (code : Code) (quals : List Code)
    → behind_bars (texts_behind null (code ∷ quals)) ≡ 124 ∷ null_text null ++ 124 ∷ 124 ∷ behind_bars (map code_text (code ∷ quals))
behind-quals None code quals = refl
behind-quals (Some null) code quals = refl

pub bar-step : (start before pushed after bars text more : List ℕ) → before ≡ start ++ bars → pushed ≡ before ++ 124 ∷ [] → after ≡ pushed ++ text → more ≡ bars ++ 124 ∷ text → after ≡ start ++ more
bar-step start before pushed after bars text more e f g h = rw (g, f, e, h) (simp append_assoc)

regrouped : (o t a m d u k s v b : List ℕ) → ((((((((o ++ t) ++ a) ++ m) ++ d) ++ u) ++ k) ++ s) ++ v) ++ b ≡ o ++ (t ++ (a ++ ((m ++ (d ++ (u ++ (k ++ s)))) ++ (v ++ b))))
regrouped o t a m d u k s v b = simp append_assoc

pub put-written : (o0 o1 o2 o3 o4 o5 o6 o7 o8 o9 tag action duration unit method value : List ℕ) (monitor start behind : List (List ℕ))
    → o1 ≡ o0 ++ tag → o2 ≡ o1 ++ 124 ∷ action → o3 ≡ o2 ++ behind_bars monitor → o4 ≡ o3 ++ 124 ∷ duration → o5 ≡ o4 ++ 124 ∷ unit → o6 ≡ o5 ++ 124 ∷ method
    → o7 ≡ o6 ++ behind_bars start → o8 ≡ o7 ++ 124 ∷ value → o9 ≡ o8 ++ behind_bars behind
    → o9 ≡ o0 ++ joined (tag ∷ action ∷ monitor ++ duration ∷ unit ∷ method ∷ start ++ value ∷ behind)
put-written o0 o1 o2 o3 o4 o5 o6 o7 o8 o9 tag action duration unit method value monitor start behind e1 e2 e3 e4 e5 e6 e7 e8 e9 =
    let line : joined (tag ∷ action ∷ ((monitor ++ (duration ∷ unit ∷ method ∷ start)) ++ (value ∷ behind))) ≡ tag ++ (124 ∷ (action ++ ((behind_bars monitor ++ behind_bars (duration ∷ unit ∷ method ∷ start)) ++ behind_bars (value ∷ behind)))) =
    joined-cons tag (action ∷ ((monitor ++ (duration ∷ unit ∷ method ∷ start)) ++ (value ∷ behind)))
    ∙ ap (λ r. tag ++ (124 ∷ (action ++ r)))
    (behind_bars-append (monitor ++ (duration ∷ unit ∷ method ∷ start)) (value ∷ behind)
    ∙ ap (λ r. r ++ behind_bars (value ∷ behind)) (behind_bars-append monitor (duration ∷ unit ∷ method ∷ start)))
    in
    rw (e9, e8, e7, e6, e5, e4, e3, e2, e1, line)
    (regrouped o0 tag (124 ∷ action) (behind_bars monitor) (124 ∷ duration) (124 ∷ unit) (124 ∷ method) (behind_bars start) (124 ∷ value) (behind_bars behind))

pub delete-written : (o0 o1 o2 o3 o4 o5 tag action : List ℕ) (monitor start : List (List ℕ))
    → o1 ≡ o0 ++ tag → o2 ≡ o1 ++ 124 ∷ action → o3 ≡ o2 ++ behind_bars monitor → o4 ≡ o3 ++ 124 ∷ 124 ∷ 124 ∷ [] → o5 ≡ o4 ++ behind_bars start
    → o5 ≡ o0 ++ joined (tag ∷ action ∷ monitor ++ [] ∷ [] ∷ [] ∷ start)
delete-written o0 o1 o2 o3 o4 o5 tag action monitor start e1 e2 e3 e4 e5 =
    let line : joined (tag ∷ action ∷ (monitor ++ ([] ∷ [] ∷ [] ∷ start))) ≡ tag ++ (124 ∷ (action ++ (behind_bars monitor ++ behind_bars ([] ∷ [] ∷ [] ∷ start)))) =
    joined-cons tag (action ∷ (monitor ++ ([] ∷ [] ∷ [] ∷ start)))
    ∙ ap (λ r. tag ++ (124 ∷ (action ++ r))) (behind_bars-append monitor ([] ∷ [] ∷ [] ∷ start))
    in
    rw (e5, e4, e3, e2, e1, line) (simp append_assoc)

neither : (b : Bool) → cond b false false ≡ false
neither true = refl
neither false = refl

-- a written line begins with RD
pub no_office-line : (line : RdLine) → has_office_tag (canonical_rd (value_of line)) ≡ false
unfolding rd_texts
no_office-line (lines.Put update monitor duration hour content) =
    neither (is_plain (canonical_rd (Put update monitor duration hour content)))
no_office-line (lines.Delete monitor hour) = neither (is_plain (canonical_rd (Delete monitor hour)))
