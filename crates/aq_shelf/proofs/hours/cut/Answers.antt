use Rattle.std.proofs.Common.{◌≡◌, ◌∙◌, ◌-◌, ap, List, ℕ, length, take, drop, arith}
use Rattle.std.proofs.lemmas.Grind.{common_steps}
use Rattle.aq_base.specs.declared.observation.Observation.{Observation}
use Rattle.aq_shelf.specs.Places.{place_of}
use Rattle.aq_shelf.proofs.HourLemmas.{filter-between, sorted-drop}
use Rattle.aq_shelf.proofs.hours.cut.Goals as goal

-- all of what is left is left
rest : (n : ℕ) (es : List (ℕ × Observation)) → take (length es - n) (drop n es) ≡ drop n es
rest n es = grind (arith, common_steps)

pub place-count-requires : goal.place-count-requires
place-count-requires c =
    rw (rest c.place-first.result c.args.items.now) (sorted-drop c.place-first.result c.args.items.now c.requires)

pub returns : goal.returns
returns c =
    let es = c.args.items.now in
    let n = c.place-first.result in
    let left : take (length es - n) (drop n es) ≡ drop (place_of c.args.from es) es = rest n es ∙ ap (λ (m : ℕ). drop m es) c.place-first.ensures.place in
    ap (λ (m : ℕ). take m (take (length es - n) (drop n es))) c.place-count.ensures.place
    ∙ ap (λ (l : List (ℕ × Observation)). take (place_of c.args.end l) l) left
    ∙ filter-between c.args.from c.args.end es c.requires
