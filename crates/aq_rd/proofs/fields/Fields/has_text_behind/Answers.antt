use Rattle.std.proofs.Common.{◌≡◌, ◌-◌, ◌≤◌, ◌∙◌, nat_lt, false, not, ◌&&◌, [], length, take, drop, get_or, sym, ap, arith}
use Rattle.std.specs.List.{list_any}
use Rattle.std.proofs.lemmas.Bool.Decides.{nat_tests}
use Rattle.std.proofs.lemmas.List.{take_all, drop_all, length-drop}
use Rattle.aq_rules.specs.Lines.Fields.{fields, is_bar, is_space}
use Rattle.aq_rd.specs.FieldPlaces.{has_text}
use Rattle.aq_rd.proofs.FieldSteps.{has_text-bytes}
use Rattle.aq_rd.proofs.fields.Fields.has_text_behind.Goals as goal

pub returns-then-self-number : goal.returns-then-self-number
returns-then-self-number c =
    let line = c.self.inside.line.now in
    let number = c.args.number in
    let start = get_or c.self.inside.starts number 0 in
    let text = drop start line in
    let long = length-drop start line in
    let whole : take (length line - start) text ≡ text = take_all (length line - start) text (omega (arith, long)) in
    c.has_other_byte.ensures ∙ ap (list_any (λ byte. not (is_bar byte) && not (is_space byte))) whole ∙ sym (has_text-bytes text)
    ∙ sym (ap has_text (c.self.invariant.0.behind number c.requires c.if-self-number.true))
    ∙ ap (λ texts. has_text (drop number texts)) c.self.view_is

pub returns-else-self-number : goal.returns-else-self-number
returns-else-self-number c =
    let line = c.self.inside.line.now in
    let number = c.args.number in
    let few : length (fields line) ≤ number = omega (arith, c.self.invariant.0.counted, c.if-self-number.false) in
    let none : drop number (fields line) ≡ [] = drop_all number (fields line) few in
    let no : nat_lt number c.self.inside.count ≡ false = grind (arith, nat_tests) in
    no ∙ sym (ap has_text none) ∙ ap (λ texts. has_text (drop number texts)) c.self.view_is
