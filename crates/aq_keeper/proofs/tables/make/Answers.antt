use Rattle.std.proofs.Common.{◌∙◌, ◌++◌, ap, sym, subst, List}
use Rattle.std.specs.Prelude.{reverse}
use Rattle.aq_rules.specs.Kept.Rows.{Row}
use Rattle.aq_keeper.specs.Rising.{without_first, Rise, keys_of_rows}
use Rattle.aq_keeper.proofs.RisingLemmas.{make-change, rise-made}
use Rattle.aq_keeper.proofs.tables.make.Goals as goal

pub returns-clause-made : goal.returns-clause-made
returns-clause-made c =
    let back = reverse c.args.later.now.items in
    let rest = c.drop_same.ensures.rest ∙ ap (λ k. without_first k back) c.key.ensures in
    (λ i. c.put.ensures.rows i ++ rest i)
    ∙ make-change c.args.change c.args.rows.now.items back c.requires.rise c.requires.before c.requires.later

pub returns-clause-rise : goal.returns-clause-rise
returns-clause-rise c =
    let back = reverse c.args.later.now.items in
    let rest = c.drop_same.ensures.rest ∙ ap (λ k. without_first k back) c.key.ensures in
    subst (λ (rows : List Row). Rise (keys_of_rows rows)) (sym (λ i. c.put.ensures.rows i ++ rest i)) (rise-made c.args.change c.args.rows.now.items back c.requires.rise c.requires.before c.requires.later)
