use Rattle.std.specs.Prelude.{IsTrue}
use Rattle.aq_base.specs.Standard.{standards}
use Rattle.aq_base.specs.declared.question.Question.{Question}
use Rattle.aq_base.specs.declared.question.Question.TheVariants.{Value, Report, Export, WhatIf, Decisive, Combined, Area, Reply, Windows, Days, Pm25, Pm10, Sites, Monitors, Events, Flags, Loads, Daily, Highest, Completeness, Reports, Records, Lines}
use Rattle.aq_rules.specs.Office.Office.{IsOffice, Office, load_at}
use Rattle.aq_rules.specs.Questions.Answer.{OfText, answer}
use Rattle.aq_rules.specs.Questions.Asking.{is_asked}
use Rattle.aq_rules.specs.Shown.OtherSheets.{report_answer}
use Rattle.aq_office.specs.Shown.{AreWellFormed, has_law}
use Rattle.aq_office.proofs.Showing.{each-sheet, of-load, of-site, one-sheet}
use Rattle.aq_office.proofs.answers.answers_of_an_office_are_well_formed.Goals as goal

pub returns : goal.returns
unfolding answer
returns c = by
  where
    by : (office : Office) (question : Question) → IsOffice office → IsTrue (is_asked question) → IsTrue (has_law question) → AreWellFormed (answer office question)
    by office (Value standard site year) valid range law =
        of-site office site _ (one-sheet _ (c.answers_are_well_formed.ensures.value office standard site year valid range))
    by office (Report standard year) valid range law = one-sheet _ (c.answers_are_well_formed.ensures.report office standard year valid range)
    by office (Export site pollutant year) valid range law = of-site office site (OfText _) tt
    by office (WhatIf standard site year assumed) valid range law = absurd (cc)
    by office (Decisive standard site year) valid range law = absurd (cc)
    by office (Combined standard site year) valid range law = absurd (cc)
    by office (Area standard area year) valid range law = absurd (cc)
    by office (Reply number) valid range law =
        of-load number (load_at office number) (λ load at. c.answers_are_well_formed.ensures.reply office number load valid at)
    by office (Windows site day) valid range law = of-site office site _ (one-sheet _ (c.answers_are_well_formed.ensures.windows office site day valid range))
    by office (Days site year) valid range law = of-site office site _ (one-sheet _ (c.answers_are_well_formed.ensures.days office site year valid range))
    by office (Pm25 site year) valid range law = of-site office site _ (one-sheet _ (c.answers_are_well_formed.ensures.fine office site year valid range))
    by office (Pm10 site year) valid range law = of-site office site _ (one-sheet _ (c.answers_are_well_formed.ensures.coarse office site year valid range))
    by office Sites valid range law = one-sheet _ (c.sheets_of_lists_are_well_formed.ensures.sites office valid)
    by office (Monitors site) valid range law = of-site office site _ (one-sheet _ (c.sheets_of_lists_are_well_formed.ensures.monitors office site valid))
    by office (Events site) valid range law = of-site office site _ (one-sheet _ (c.sheets_of_lists_are_well_formed.ensures.events office site valid))
    by office (Flags site pollutant year) valid range law =
        of-site office site _ (one-sheet _ (c.sheets_of_lists_are_well_formed.ensures.flags office site pollutant year valid range))
    by office Loads valid range law = one-sheet _ (c.sheets_of_lists_are_well_formed.ensures.loads office valid)
    by office (Daily site pollutant year) valid range law =
        of-site office site _ (one-sheet _ (c.sheets_of_lists_are_well_formed.ensures.daily office site pollutant year valid range))
    by office (Highest site pollutant year) valid range law =
        of-site office site _ (one-sheet _ (c.sheets_of_lists_are_well_formed.ensures.highest office site pollutant year valid range))
    by office (Completeness site pollutant year) valid range law =
        of-site office site _ (one-sheet _ (c.sheets_of_lists_are_well_formed.ensures.completeness office site pollutant year valid range))
    by office (Reports year) valid range law =
        each-sheet (λ standard. report_answer standard office year) standards
        (λ standard. c.answers_are_well_formed.ensures.report office standard year valid range)
    by office Records valid range law = tt
    by office (Lines site pollutant year) valid range law = of-site office site (OfText _) tt
