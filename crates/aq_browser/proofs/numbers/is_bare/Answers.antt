use Rattle.std.proofs.Common.{◌≡◌, ℕ, false, Option, List, sym, subst, ◌∙◌}
use Rattle.std.specs.Prelude.{IfSome}
use Rattle.aq_pages.specs.Numbers.{has_number}
use Rattle.aq_pages.specs.Page.{is_drawn}
use Rattle.aq_pages.specs.Sheets.{Line}
use Rattle.aq_browser.specs.Pages.{lines_of_rows}
use Rattle.aq_browser.proofs.Bare.{bare_by_places}
use Rattle.aq_browser.proofs.numbers.is_bare.Goals as goal

pub returns-in-Some : goal.returns-in-Some
returns-in-Some c =
    let decide =
    subst
    (λ (found : Option (ℕ × ℕ)). IfSome found (λ places. (heads rows : List Line) → has_number places.0 rows ≡ false → has_number places.1 rows ≡ false → is_drawn c.args.picture heads rows ≡ false))
    c.in-Some.is c.drawn_places.ensures in
    bare_by_places c.args.picture c.args.heads.now (lines_of_rows c.args.rows.now) c.in-Some.places c.have_no_number.result
    (sym c.is_drawable.ensures ∙ c.if-not-is_drawable.false)
    decide c.have_no_number.ensures.one c.have_no_number.ensures.other
