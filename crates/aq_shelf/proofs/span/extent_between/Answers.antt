use Rattle.std.proofs.Common.{◌≡◌, ℕ, Option, List, ◌++◌, length, sym, ap, ◌∙◌, arith}
use Rattle.std.specs.Option.{option_or}
use Rattle.std.proofs.lemmas.List.{length-append}
use Rattle.aq_base.specs.declared.observation.Observation.{Observation}
use Rattle.aq_shelf.specs.Extents.{first_hour, last_hour}
use Rattle.aq_shelf.specs.Stretches.{hours_between}
use Rattle.aq_shelf.proofs.ExtentLemmas.{first-append, last-append}
use Rattle.aq_shelf.proofs.span.extent_between.Goals as goal

pub loop-hours-preserved : goal.loop-hours-preserved
loop-hours-preserved c =
    let left = hours_between c.args.from c.args.end c.next.new.self in
    let items = c.between.result.now in
    let seen = c.loop-hours.seen in
    let is : left ++ items ≡ hours_between c.args.from c.args.end c.loop-hours.hours-iterator =
    ap (λ (l : List (ℕ × Observation)). left ++ l) c.between.ensures
    ∙ ap (hours_between c.args.from c.args.end) (sym c.in-Some.ensures.steps)
    in
    let long = ap length is in
    record {
      counted = omega (arith, long, length-append left items, c.after-seen.ensures.count, c.loop-hours.invariant.counted);
      earliest =
          ap (option_or (first_hour left)) c.after-seen.ensures.first
          ∙ first-append left items seen.first
          ∙ ap (λ (l : List (ℕ × Observation)). option_or (first_hour l) seen.first) is
          ∙ c.loop-hours.invariant.earliest;
      latest =
          ap (λ (o : Option ℕ). option_or o (last_hour left)) c.after-seen.ensures.last
          ∙ last-append left items seen.last
          ∙ ap (λ (l : List (ℕ × Observation)). option_or seen.last (last_hour l)) is
          ∙ c.loop-hours.invariant.latest;
    }
