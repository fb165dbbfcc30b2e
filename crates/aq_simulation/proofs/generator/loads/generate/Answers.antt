use Rattle.aq_simulation.proofs.GeneratorLemmas.Given.{none-zero, none-beyond, some-given}
use Rattle.aq_simulation.proofs.generator.loads.generate.Goals as goal
use Rattle.aq_simulation.proofs.generator.loads.generate.Goals.{then-load-eq0-via-then-load-eq0, then-load-eq0-via-else-load-eq0+then-load_count-load}

pub returns-then-load-eq0-clause-body : goal.returns-then-load-eq0-clause-body
returns-then-load-eq0-clause-body c = elim c.then-load-eq0.branch [
  | then-load-eq0-via-then-load-eq0 w ↦ none-zero c.args.start c.args.sites c.args.years c.args.load w.if-load-eq0.true
  | then-load-eq0-via-else-load-eq0+then-load_count-load w ↦
      none-beyond c.args.start c.args.sites c.args.years c.args.load w.load_count.result w.load_count.ensures w.if-load_count-load.true
]

pub returns-clause-body : goal.returns-clause-body
returns-clause-body c =
    some-given c.args.start c.args.sites c.args.years c.args.load c.load_count.result c.in_ok-text_of.field-0.items
    c.if-load-eq0.false c.load_count.ensures c.if-load_count-load.false c.in_ok-text_of.ensures.text
