use Rattle.std.proofs.Common.{rules, ◌+◌, ◌∙◌, ap, sym, drop, length, arith}
use Rattle.std.proofs.lemmas.List.{drop_all, length-drop, take_all}
use Rattle.aq_words.proofs.Firsts.{first_at, first_nowhere}
use Rattle.aq_http.proofs.routes.behind.Goals as goal

pub returns-in-Some : goal.returns-in-Some
returns-in-Some c =
    let here = first_at c.args.text.now c.args.byte c.in-Some.place (search rules) (search rules) (search rules) in
    take_all _ (drop (c.in-Some.place + 1) c.args.text.now) (omega (arith, length-drop (c.in-Some.place + 1) c.args.text.now))
    ∙ ap (λ n. drop (n + 1) c.args.text.now) (sym here)

pub returns-in-None : goal.returns-in-None
returns-in-None c =
    let nowhere = first_nowhere c.args.text.now c.args.byte (search rules) in
    sym (ap (λ n. drop (n + 1) c.args.text.now) nowhere ∙ drop_all (length c.args.text.now + 1) c.args.text.now (omega arith))
