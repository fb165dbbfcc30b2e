use Rattle.std.proofs.Common.{◌<◌, w32, arith, ◌≡◌, Bool, true, false, ℕ, ◌+◌, cond, refl, ap, subst, ◌∙◌}
use mir.Val.{bool_byte}
use Rattle.std.proofs.lemmas.Int.{ints, fits_signed_from_abs, to_z-of_z}
use Rattle.std.specs.Prelude.{ℤ, unsigned_abs, Option, is_some, IfSome}
use Rattle.aq_rules.specs.Lists.{ranked_in}
use Rattle.aq_series.specs.Samples.{IsOzone}
use Rattle.aq_ozone.specs.FourGreatest.{four_of}
use Rattle.aq_ozone.proofs.YearLemmas.{more_with, more_without}
use Rattle.aq_ozone.proofs.ozone_year.YearTally.with.Goals as goal

one_where : (b : Bool) → bool_byte b ≡ cond b 1 0
one_where true = refl
one_where false = refl

pub returns-in-Some : goal.returns-in-Some
returns-in-Some c days is =
    let ozone : IsOzone c.in-Some.maximum = subst (λ (o : Option ℤ). IfSome o (λ (value : ℤ). IsOzone value)) c.in-Some.is c.requires.range in
    let small : unsigned_abs c.in-Some.maximum < 2147483648 = omega (arith, ints, ozone.0, ozone.1) in
    let same = to_z-of_z w32 c.in-Some.maximum (fits_signed_from_abs w32 c.in-Some.maximum small) in
    more_with c.ranking_forgets_the_order.ensures days c.args.day c.in-Some.maximum c.args.self _ is c.in-Some.is
    ozone
    (ap (λ (n : ℕ). c.args.self.season_days + n) (c.from.ensures ∙ one_where c.args.day.in_season))
    (ap (λ (n : ℕ). c.args.self.season_valid + n) (c.from-2.ensures ∙ one_where c.args.day.counted))
    (ap (λ (n : ℕ). c.args.self.ranked + n) (c.from-3.ensures ∙ ap (λ (b : Bool). bool_byte b) (c.is_some.ensures ∙ ap is_some c.in-Some.is)))
    (λ values top. c.with.ensures values top ∙ ap (λ (maximum : ℤ). four_of (ranked_in maximum values)) same)

pub returns-in-None : goal.returns-in-None
returns-in-None c days is =
    more_without days c.args.day c.args.self _ is c.in-None.is
    (ap (λ (n : ℕ). c.args.self.season_days + n) (c.from.ensures ∙ one_where c.args.day.in_season))
    (ap (λ (n : ℕ). c.args.self.season_valid + n) (c.from-2.ensures ∙ one_where c.args.day.counted))
    (ap (λ (n : ℕ). c.args.self.ranked + n) (c.from-3.ensures ∙ ap (λ (b : Bool). bool_byte b) (c.is_some.ensures ∙ ap is_some c.in-None.is)))
    refl
