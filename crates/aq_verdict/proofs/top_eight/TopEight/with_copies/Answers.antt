use Rattle.std.proofs.Common.{◌≡◌, ◌∙◌, ap, take, replicate, arith, to_z, of_z}
use Rattle.std.specs.Int.{w32}
use Rattle.std.proofs.lemmas.Int.{to_z-of_z}
use Rattle.aq_verdict.specs.Inserted.{inserted}
use Rattle.aq_verdict.proofs.Inserted.{take-given, one-more}
use Rattle.aq_verdict.proofs.top_eight.TopEight.with_copies.Goals as goal

pub loop-copy-init : goal.loop-copy-init
loop-copy-init c =
    let same : c.of_places-top.result ≡ c.args.self.now = c.of_places-top.ensures ∙ c.places.ensures.given in
    same ∙ take-given 8 c.places.result.now c.args.self.now c.places.ensures.eight c.places.ensures.given

pub loop-copy-preserved : goal.loop-copy-preserved
loop-copy-preserved c =
    one-more 8 c.loop-copy._copy _ c.args.self.now c.loop-copy.top c.with_value-top.result c.loop-copy.invariant c.with_value-top.ensures

pub returns : goal.returns
returns c =
    let all : c.loop-copy._copy ≡ c.args.number = omega arith in
    c.loop-copy.invariant ∙ ap (λ n. take 8 (inserted (replicate n (to_z w32 (of_z w32 c.args.value))) c.args.self.now)) all
    ∙ ap (λ v. take 8 (inserted (replicate c.args.number v) c.args.self.now)) (to_z-of_z w32 c.args.value c.ranges.value)
