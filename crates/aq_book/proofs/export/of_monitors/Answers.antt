use Rattle.std.proofs.Common.{◌*◌, ◌++◌, List, map, length, ap, sym, ◌∙◌, arith}
use Rattle.std.proofs.lemmas.List.{append_assoc, append-nil}
use Rattle.aq_base.specs.declared.shown.Shown.{Shown}
use Rattle.aq_shelf.specs.Standing.{observations_in}
use Rattle.aq_series.specs.DayCells.{monitor_at}
use Rattle.aq_book.specs.Questions.{shown_at}
use Rattle.aq_book.proofs.ShownLemmas.{shown-end, shown-more, shown-start, shown_above}
use Rattle.aq_series.proofs.SitePocs.{pocs-next}
use Rattle.aq_book.proofs.export.of_monitors.Goals as goal

pub loop-poc-smaller : goal.loop-poc-smaller
loop-poc-smaller g c =
    let fewer = ap length (pocs-next c.args.site c.args.pollutant c.args.registry.now c.loop-poc.after c.in-Some.poc c.next_poc.ensures.valid.keys_rise.records (sym c.next_poc.ensures.value ∙ c.in-Some.is)) in
    omega (arith, fewer)

pub loop-poc-preserved : goal.loop-poc-preserved
loop-poc-preserved g c =
    let records = c.args.registry.now in
    let rows = c.args.shelf.now in
    let monitor = monitor_at c.args.site c.args.pollutant c.in-Some.poc in
    let behind = shown_above records c.args.site c.args.pollutant c.args.year c.in-Some.poc rows in
    let added =
    c.in_ok-add_days.ensures
    ∙ (λ i. c.loop-poc.rows ++ map (shown_at records monitor) (observations_in monitor (24 * c.year_span-first.ensures.first i) (24 * c.year_span-first.ensures.days i) rows))
    in
    ap (λ (l : List Shown). l ++ behind) added
    ∙ append_assoc c.loop-poc.rows _ behind
    ∙ ap (λ (l : List Shown). c.loop-poc.rows ++ l)
    (sym (shown-more records c.args.site c.args.pollutant c.args.year c.requires.first rows c.next_poc.ensures.valid c.requires.registered c.count.ensures.shelf.rising c.loop-poc.after c.in-Some.poc (sym c.next_poc.ensures.value ∙ c.in-Some.is)))
    ∙ c.loop-poc.invariant

pub returns : goal.returns
returns g c =
    let records = c.args.registry.now in
    let rows = c.args.shelf.now in
    sym (append-nil c.loop-poc.rows)
    ∙ ap (λ (l : List Shown). c.loop-poc.rows ++ l)
    (sym (shown-end records c.args.site c.args.pollutant c.args.year c.requires.first rows c.next_poc.ensures.valid c.requires.registered c.loop-poc.after (sym c.next_poc.ensures.value ∙ c.in_default.is)))
    ∙ c.loop-poc.invariant
    ∙ shown-start records c.args.site c.args.pollutant c.args.year c.requires.first rows c.next_poc.ensures.valid c.requires.registered
