use Rattle.std.proofs.Common.{◌≡◌, ◌∷◌, ◌++◌, ◌+◌, [], is_some, map, not, take, set, refl, sym, ap, ap₂, ◌∙◌, arith, rules}
use Rattle.std.proofs.lemmas.Grind.{common_steps}
use Rattle.std.proofs.lemmas.List.{map-append}
use Rattle.sqlite.specs.Values.{bound}
use Rattle.sqlite_keyed.proofs.ListLemmas.{all-append}
use Rattle.aq_tables.specs.Told.{third_values}
use Rattle.aq_tables.proofs.sixteen.take_rows.Goals as goal

pub loop-place-init : goal.loop-place-init
loop-place-init c = (refl, [], refl, refl, tt)

pub loop-place-preserved : goal.loop-place-preserved
loop-place-preserved c =
    let was = c.loop-place.invariant in
    let place = c.loop-place.place in
    let row = c.in-Some.row.now in
    let number = c.number_in-number.ensures in
    let some = sym (ap is_some number) ∙ c.is_none.ensures ∙ ap not c.if-is_none.false in
    let taken = c.row_values.ensures number in
    let rows : take (place + 1) c.args.rows.now ≡ take place c.args.rows.now ++ (c.index-rows-place.result ∷ []) = grind (arith, common_steps) in
    let values : take (place + 1) (set c.loop-place.values place c.row_values.result) ≡ take place c.loop-place.values ++ (c.row_values.result ∷ []) = grind (arith, common_steps) in (
      search rules,
      was.1 ++ row ∷ [],
      rows ∙ ap₂ (λ a b. a ++ b ∷ []) was.2 c.in-Some.ensures.some ∙ sym (map-append _ was.1 (row ∷ [])),
      ap (map bound) values ∙ map-append bound (take place c.loop-place.values) (c.row_values.result ∷ []) ∙ ap₂ (λ a b. a ++ b ∷ []) was.3 taken ∙ sym (map-append third_values was.1 (row ∷ [])),
      all-append _ was.1 (row ∷ []) was.4 (some, tt),
    )

pub returns-clause-rows : goal.returns-clause-rows
returns-clause-rows c done =
    let was = c.loop-place.invariant in
    let rows : take c.loop-place.place c.args.rows.now ≡ c.args.rows.now = grind (arith, common_steps) in
    let values : take c.loop-place.place c.loop-place.values ≡ c.loop-place.values = grind (arith, common_steps) in
    (was.1, rw rows at was.2, rw values at was.3, was.4)
