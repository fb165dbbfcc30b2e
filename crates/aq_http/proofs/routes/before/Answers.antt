use Rattle.std.proofs.Common.{rules, ◌∙◌, ap, sym, take, arith}
use Rattle.std.proofs.lemmas.List.{take_all}
use Rattle.aq_words.proofs.Firsts.{first_at, first_nowhere}
use Rattle.aq_http.proofs.routes.before.Goals as goal

pub returns-in-Some : goal.returns-in-Some
returns-in-Some c =
    ap (λ n. take n c.args.text.now) (sym (first_at c.args.text.now c.args.byte c.in-Some.place (search rules) (search rules) (search rules)))

pub returns-in-None : goal.returns-in-None
returns-in-None c =
    let nowhere = first_nowhere c.args.text.now c.args.byte (search rules) in
    sym (ap (λ n. take n c.args.text.now) nowhere ∙ take_all _ c.args.text.now (omega arith))
