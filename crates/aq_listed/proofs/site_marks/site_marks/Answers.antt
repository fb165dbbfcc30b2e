use Rattle.std.proofs.Common.{◌≡◌, ◌∙◌, ◌∷◌, Bool, ap, count_by, arith}
use Rattle.std.proofs.lemmas.List.Sums.{count_by-le-length}
use Rattle.aq_base.specs.declared.observation.ObsKey.{ObsKey}
use Rattle.aq_base.specs.declared.observation.Observation.{Observation}
use Rattle.aq_listed.specs.Marks.{is_asked, is_marked}
use Rattle.aq_listed.proofs.Counted.{all-counted, count-cons, count-permuted, one-more}
use Rattle.aq_listed.proofs.site_marks.site_marks.Goals as goal

pub loop-key-preserved : goal.loop-key-preserved
loop-key-preserved g c pollutant code test =
    let asked : ObsKey × Observation → Bool = is_asked c.args.site pollutant code test in
    let row : ObsKey × Observation = (c.in-Some.key, c.in-Some.content) in
    let left : count_by asked c.loop-key.key-iterator ≡ count_by asked (row ∷ c.next.new.self) = ap (count_by asked) c.in-Some.ensures.steps in
    let first = count-cons asked row c.next.new.self in
    let added = c.in_ok-add_marks.ensures pollutant code test in
    let before = c.loop-key.invariant pollutant code test in
    one-more _ _ _ _ _ _ _ added left first before

pub sorted-requires : goal.sorted-requires
sorted-requires g c pollutant code test =
    let asked : ObsKey × Observation → Bool = is_asked c.args.site pollutant code test in
    let most = count_by-le-length asked c.args.shelf.now in
    let few = c.count.ensures.shelf.few in
    let before = c.loop-key.invariant pollutant code test in
    omega arith

pub returns : goal.returns
returns g c pollutant code test =
    let asked : ObsKey × Observation → Bool = is_asked c.args.site pollutant code test in
    let none : count_by asked c.loop-key.key-iterator ≡ 0 = ap (count_by asked) c.in-None.ensures.steps.0 in
    count-permuted (is_marked pollutant code test) c.loop-key.marks.items c.sorted.result c.sorted.ensures
    ∙ all-counted _ _ _ none (c.loop-key.invariant pollutant code test)
