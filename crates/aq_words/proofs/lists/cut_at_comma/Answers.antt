use Rattle.std.proofs.Common.{rules, ◌+◌, ◌<◌, ◌∙◌, subst, ◌==◌, ◌∷◌, ap, sym, take, drop, length, arith}
use Rattle.std.specs.List.{position_or_len, slice_split}
use Rattle.std.proofs.lemmas.List.{length-drop, take_all}
use Rattle.std.proofs.lemmas.List.Splits.{slice_split_first}
use Rattle.aq_words.proofs.Entries.{no_comma}
use Rattle.aq_words.proofs.Firsts.{first_at, first_nowhere}
use Rattle.aq_words.proofs.lists.cut_at_comma.Goals as goal

pub returns-in-Some : goal.returns-in-Some
returns-in-Some c =
    let here = first_at c.args.text.now 44 c.in-Some.place (search rules) (search rules) (search rules) in
    let within : position_or_len (λ byte. byte == 44) c.args.text.now < length c.args.text.now = subst (λ n. n < length c.args.text.now) (sym here) (search rules) in
    slice_split_first (λ byte. byte == 44) c.args.text.now 0 within
    ∙ (λ i. take (here i) c.args.text.now ∷ slice_split (λ byte. byte == 44) (drop (here i + 1) c.args.text.now))
    ∙ ap (λ rest. take c.in-Some.place c.args.text.now ∷ slice_split (λ byte. byte == 44) rest)
    (sym (take_all _ (drop (c.in-Some.place + 1) c.args.text.now) (omega (arith, length-drop (c.in-Some.place + 1) c.args.text.now))))

pub returns-in-None : goal.returns-in-None
returns-in-None c = no_comma (λ byte. byte == 44) c.args.text.now (first_nowhere c.args.text.now 44 (search rules))
