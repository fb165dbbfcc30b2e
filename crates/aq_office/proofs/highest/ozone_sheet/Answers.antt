use Rattle.std.proofs.Common.{◌≡◌, map, ap, ◌∙◌}
use Rattle.aq_base.specs.declared.monitor.Pollutant.TheVariants.{Ozone}
use Rattle.aq_rules.specs.Listed.Highest.{ranked_value, with_start}
use Rattle.aq_rules.specs.Ozone.OzoneYear.{days_of}
use Rattle.aq_reports.specs.Daily.Ranked.{ranked_from}
use Rattle.aq_reports.proofs.DailyLemmas.HighestDays.{highest-ozone-is}
use Rattle.aq_office.proofs.OzoneMaxima.{maxima-are, maxima-within, ten-rows}
use Rattle.aq_office.proofs.highest.ozone_sheet.Goals as goal

pub ten_highest-requires : goal.ten_highest-requires
ten_highest-requires g c =
    let office = c.args.book.now in
    let maxima : c.as_slice.result.now ≡ map (ranked_value office c.args.site Ozone) (days_of c.args.year) =
    maxima-are office c.args.site c.args.year c.in_ok-days.days c.as_slice.result.now c.in_ok-days.ensures.days (c.as_slice.ensures ∙ c.in_ok-maxima.ensures) in
    record {
      in_profile =
          maxima-within office c.args.site c.args.year c.year_span-first.result.0 c.year_span-first.result.1 c.as_slice.result.now
          c.year_span-first.ensures.days c.year_span-first.ensures.in_profile maxima;
    }

pub highest_ozone_sheet-requires : goal.highest_ozone_sheet-requires
highest_ozone_sheet-requires g c =
    let starts : c.as_slice-2.result.now ≡ map (with_start c.args.book.now c.args.site) c.in_ok-found.found.days.items =
    c.as_slice-2.ensures ∙ c.in_ok-rows.ensures.rows ∙ ap (map (with_start c.args.book.now c.args.site)) c.deref.ensures.value in
    record { few = ten-rows c.args.book.now c.args.site c.args.year (ranked_from c.year_span-first.result.0 c.as_slice.result.now) c.in_ok-found.found c.as_slice-2.result.now c.in_ok-found.ensures starts }

pub returns-clause-sheet : goal.returns-clause-sheet
returns-clause-sheet g c =
    let office = c.args.book.now in
    let maxima : c.as_slice.result.now ≡ map (ranked_value office c.args.site Ozone) (days_of c.args.year) =
    maxima-are office c.args.site c.args.year c.in_ok-days.days c.as_slice.result.now c.in_ok-days.ensures.days (c.as_slice.ensures ∙ c.in_ok-maxima.ensures) in
    let starts : c.as_slice-2.result.now ≡ map (with_start office c.args.site) c.in_ok-found.found.days.items =
    c.as_slice-2.ensures ∙ c.in_ok-rows.ensures.rows ∙ ap (map (with_start office c.args.site)) c.deref.ensures.value in
    c.in_ok-sheet.ensures
    ∙ highest-ozone-is office c.args.site c.args.year c.as_slice.result.now c.year_span-first.result.0 c.year_span-first.ensures.first maxima c.in_ok-found.found c.in_ok-found.ensures c.as_slice-2.result.now starts
