use Rattle.aq_simulation.specs.Generator.Samples.{completed}
use Rattle.aq_simulation.proofs.GeneratorLemmas.Written.{year-later, year-written, year-joined, text-is}
use Rattle.aq_simulation.proofs.generator.samples.samples_of.Goals as goal

pub add_days-requires-clause-start : goal.add_days-requires-clause-start
add_days-requires-clause-start c = year-later c.args.year _ _ c.requires.year.0 c.year_span-start.ensures.first c.year_span-first.ensures.first

pub add_days-requires-2-clause-start : goal.add_days-requires-2-clause-start
add_days-requires-2-clause-start c = year-later c.args.year _ _ c.requires.year.0 c.year_span-start.ensures.first c.year_span-first.ensures.first

pub returns : goal.returns
returns c =
    year-written c.args.state _ _ _ _ (completed c.add_hours.new.self) (completed c.add_days.new.self) (completed c.add_days-2.new.self) c.new.result.items c.add_days-2.new.self.text.items
    c.new.ensures.items c.in_ok-add_hours.ensures c.in_ok-add_days.ensures c.in_ok-add_days-2.ensures (text-is c.add_days-2.new.self.text.items c.add_days-2.new.self.draws.state)
    (year-joined c.args.number c.args.year c.year_span-first.result.0 c.year_span-first.result.1 c.year_span-start.result.0 c.site_of-site.result
    c.site_of-site.ensures c.year_span-first.ensures.first c.year_span-first.ensures.days c.year_span-start.ensures.first)
