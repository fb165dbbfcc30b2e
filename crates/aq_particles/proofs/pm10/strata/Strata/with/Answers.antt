use Rattle.std.proofs.Common.{◌≡◌, ◌+◌, ◌||◌, ◌==◌, Bool, true, cond, sym, subst, ap, ◌∙◌, [], ◌∷◌, ◌++◌, refl}
use Rattle.aq_particles.specs.Pm10.StrataSoFar.{AreStrataOf, StrataCut, with_sample}
use Rattle.aq_particles.proofs.pm10.strata.Strata.with.Goals as goal

pub returns-then-ends_before-clause-of : goal.returns-then-ends_before-clause-of
returns-then-ends_before-clause-of c cut is =
    let begun : StrataCut = record { ended = cut.ended ++ cut.samples ∷ []; first = c.args.day; samples = with_sample c.args.sample [] } in
    let going_on : StrataCut = record { ended = cut.ended; first = cut.first; samples = with_sample c.args.sample cut.samples } in
    let test : (c.args.scheduled || (c.args.day == cut.first + 6)) ≡ true =
    ap (λ n. c.args.scheduled || (c.args.day == n + 6)) (sym is.first) ∙ sym c.ends_before.ensures ∙ c.if-ends_before.true
    in
    subst (λ (b : Bool). AreStrataOf (cond b begun going_on) (record { ended = c.with.result; first = c.args.day; last = c.with-then-ends_before.result })) (sym test)
    (record {
      ended = c.with.ensures.of cut.ended cut.samples is.ended is.last_stratum;
      first = refl;
      last_stratum = c.with-then-ends_before.ensures.of [] c.new.ensures.of;
    })
