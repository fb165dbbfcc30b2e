use Rattle.std.proofs.Common.{◌≡◌, ℕ, ◌<◌, length, get_or, true, false, sym, ◌∙◌, rules}
use Rattle.aq_base.specs.declared.standard.Verdict.TheVariants.{NotMet}
use Rattle.aq_rules.specs.Areas.AreaValue.{is_year_of}
use Rattle.aq_area.specs.AreaRows.{no_rows}
use Rattle.aq_area.proofs.First.{first-at, none-is}
use Rattle.aq_area.proofs.area_history.first_not_met.Goals as goal

pub returns-in_err-first : goal.returns-in_err-first
returns-in_err-first c =
    let none : (k : ℕ) → k < length c.args.years.now → is_year_of NotMet (get_or c.args.years.now k no_rows) ≡ false = search rules in
    c.from_residual.ensures ∙ sym (none-is c.args.years.now no_rows none)

pub returns : goal.returns
returns c =
    let i = c.in_ok-first.first in
    let inside : i < length c.args.years.now = search rules in
    let at : is_year_of NotMet (get_or c.args.years.now i no_rows) ≡ true = search rules in
    let before : (k : ℕ) → k < i → is_year_of NotMet (get_or c.args.years.now k no_rows) ≡ false = search rules in
    sym (first-at c.args.years.now i no_rows inside at before)
