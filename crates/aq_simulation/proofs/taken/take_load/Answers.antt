use Rattle.std.proofs.Common.{◌≡◌, ℕ, ◌+◌, List, Vec, Global, ap, subst, ◌∙◌}
use Rattle.std.specs.Prelude.{OnOk}
use Rattle.std.specs.Option.{option_map}
use Rattle.sha2.specs.Sha256.{sha256}
use Rattle.aq_rules.specs.Lines.Lines.{line_count}
use Rattle.aq_rules.specs.Office.Load.{post}
use Rattle.aq_simulation.proofs.Steps.{body_is, made_of, not_none}
use Rattle.aq_simulation.proofs.taken.take_load.Goals as goal

pub returns-in_default-clause-book : goal.returns-in_default-clause-book
returns-in_default-clause-book c = absurd (not_none c.args.start c.args.sites c.args.years c.args.load c.requires.first c.requires.last _ c.in_ok-text.ensures.body (ap (option_map (λ (text : Vec ℕ Global). text.items)) c.in_default.is))

pub returns-in_default-clause-lines : goal.returns-in_default-clause-lines
returns-in_default-clause-lines c = absurd (not_none c.args.start c.args.sites c.args.years c.args.load c.requires.first c.requires.last _ c.in_ok-text.ensures.body (ap (option_map (λ (text : Vec ℕ Global). text.items)) c.in_default.is))

pub returns-clause-book : goal.returns-clause-book
returns-clause-book c =
    let P = λ (text : List ℕ). OnOk c.take.result (c.take.new.taken.book ≡ post c.args.taken.now.book c.args.load (sha256 text) text) in
    subst P
    (made_of c.new.result c.deref.result.now c.in-Ok.body c.new.ensures.body c.in-Ok.is ∙ c.deref.ensures.value ∙ body_is c.args.start c.args.sites c.args.years c.args.load c.requires.first c.requires.last _ c.in_ok-text.ensures.body c.in-Some.text.items (ap (option_map (λ (text : Vec ℕ Global). text.items)) c.in-Some.is))
    c.take.ensures.book

pub returns-clause-lines : goal.returns-clause-lines
returns-clause-lines c =
    let P = λ (text : List ℕ). OnOk c.take.result (c.take.new.taken.lines ≡ c.args.taken.now.lines + line_count text) in
    subst P
    (made_of c.new.result c.deref.result.now c.in-Ok.body c.new.ensures.body c.in-Ok.is ∙ c.deref.ensures.value ∙ body_is c.args.start c.args.sites c.args.years c.args.load c.requires.first c.requires.last _ c.in_ok-text.ensures.body c.in-Some.text.items (ap (option_map (λ (text : Vec ℕ Global). text.items)) c.in-Some.is))
    c.take.ensures.lines
