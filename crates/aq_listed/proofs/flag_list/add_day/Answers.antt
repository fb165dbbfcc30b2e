use Rattle.std.proofs.Common.{◌≡◌, ◌+◌, ◌++◌, ◌∷◌, [], ◌∙◌, List, ap, cond, refl, arith}
use Rattle.aq_rules.specs.Listed.Flags.{ListedFlag}
use Rattle.aq_listed.specs.FlagWords.{flag_by, is_carried}
use Rattle.aq_listed.proofs.FlagRows.{codes-all, codes-more}
use Rattle.aq_listed.proofs.flag_list.add_day.Goals as goal

pub loop-place-preserved : goal.loop-place-preserved
loop-place-preserved c =
    c.in_ok-add_carried.ensures
    ∙ ap (λ (rows : List ListedFlag). rows ++ cond (is_carried c.listed_flag-row.result) (c.listed_flag-row.result ∷ []) []) c.loop-place.invariant
    ∙ codes-more (flag_by c.args.marks.now c.args.pollutant c.args.day) c.args.rows.now c.loop-place.place (65 + c.loop-place.place) c.listed_flag-row.result refl c.listed_flag-row.ensures

pub returns : goal.returns
returns c =
    let all : c.loop-place.place ≡ 26 = omega (arith, c.loop-place-test.false, c.loop-place.auto.place-end) in
    c.loop-place.invariant ∙ codes-all (flag_by c.args.marks.now c.args.pollutant c.args.day) c.args.rows.now c.loop-place.place all
