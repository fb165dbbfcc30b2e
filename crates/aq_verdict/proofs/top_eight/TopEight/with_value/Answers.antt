use Rattle.std.proofs.Common.{◌≡◌, ◌∙◌, ap, take}
use Rattle.std.specs.Prelude.{Some}
use Rattle.std.specs.Int.{w32}
use Rattle.std.proofs.lemmas.Int.{to_z-of_z}
use Rattle.aq_rules.specs.Lists.{ranked_in}
use Rattle.aq_verdict.specs.Top.{given}
use Rattle.aq_verdict.specs.Inserted.{joined}
use Rattle.aq_verdict.proofs.Inserted.{descends-joined, given-joined}
use Rattle.aq_verdict.proofs.top_eight.TopEight.with_value.Goals as goal

pub of_places-requires : goal.of_places-requires
of_places-requires c =
    let is : c.joined.result ≡ joined (Some c.args.value) c.places.result.now =
    c.joined.ensures ∙ ap (λ v. joined (Some v) c.places.result.now) (to_z-of_z w32 c.args.value c.ranges.value)
    in
    rw is (descends-joined (Some c.args.value) c.places.result.now c.places.ensures.falls)

pub returns : goal.returns
returns c =
    let is : c.joined.result ≡ joined (Some c.args.value) c.places.result.now =
    c.joined.ensures ∙ ap (λ v. joined (Some v) c.places.result.now) (to_z-of_z w32 c.args.value c.ranges.value)
    in
    c.of_places.ensures ∙ ap given is ∙ given-joined c.args.value c.places.result.now c.places.ensures.falls
    ∙ ap (λ n. take n (ranked_in c.args.value (given c.places.result.now))) c.places.ensures.eight
    ∙ ap (λ l. take 8 (ranked_in c.args.value l)) c.places.ensures.given
