use Rattle.std.proofs.Common.{refl}
use Rattle.aq_base.specs.declared.question.Question.TheVariants.{Report, Reply, Windows, Days, Pm25, Pm10, Sites, Monitors, Events, Flags, Loads, Daily, Highest, Completeness, Reports, Records, Lines}
use Rattle.aq_office.proofs.Showing.{by-law}
use Rattle.aq_office.proofs.answers.counted.Goals as goal

pub returns-in-Report-clause-shown : goal.returns-in-Report-clause-shown
returns-in-Report-clause-shown g c valid =
    by-law c.args.book.now c.args.question.now (Report c.in-Report.standard c.in-Report.year) c.report_of.result c.answers_of_an_office_are_well_formed.ensures valid c.in-Report.is c.requires.range refl c.report_of.ensures

pub returns-in-Reply-clause-shown : goal.returns-in-Reply-clause-shown
returns-in-Reply-clause-shown g c valid =
    by-law c.args.book.now c.args.question.now (Reply c.in-Reply.number) c.reply_of.result c.answers_of_an_office_are_well_formed.ensures valid c.in-Reply.is c.requires.range refl c.reply_of.ensures

pub returns-in-Windows-clause-shown : goal.returns-in-Windows-clause-shown
returns-in-Windows-clause-shown g c valid =
    by-law c.args.book.now c.args.question.now (Windows c.in-Windows.site c.in-Windows.day) c.windows_of.result c.answers_of_an_office_are_well_formed.ensures valid c.in-Windows.is c.requires.range refl c.windows_of.ensures

pub returns-in-Days-clause-shown : goal.returns-in-Days-clause-shown
returns-in-Days-clause-shown g c valid =
    by-law c.args.book.now c.args.question.now (Days c.in-Days.site c.in-Days.year) c.days_of.result c.answers_of_an_office_are_well_formed.ensures valid c.in-Days.is c.requires.range refl c.days_of.ensures

pub returns-in-Pm25-clause-shown : goal.returns-in-Pm25-clause-shown
returns-in-Pm25-clause-shown g c valid =
    by-law c.args.book.now c.args.question.now (Pm25 c.in-Pm25.site c.in-Pm25.year) c.pm25_of.result c.answers_of_an_office_are_well_formed.ensures valid c.in-Pm25.is c.requires.range refl c.pm25_of.ensures

pub returns-in-Pm10-clause-shown : goal.returns-in-Pm10-clause-shown
returns-in-Pm10-clause-shown g c valid =
    by-law c.args.book.now c.args.question.now (Pm10 c.in-Pm10.site c.in-Pm10.year) c.pm10_of.result c.answers_of_an_office_are_well_formed.ensures valid c.in-Pm10.is c.requires.range refl c.pm10_of.ensures

pub returns-in-Sites-clause-shown : goal.returns-in-Sites-clause-shown
returns-in-Sites-clause-shown g c valid =
    by-law c.args.book.now c.args.question.now Sites c.sites_of.result c.answers_of_an_office_are_well_formed.ensures valid c.in-Sites.is c.requires.range refl c.sites_of.ensures

pub returns-in-Monitors-clause-shown : goal.returns-in-Monitors-clause-shown
returns-in-Monitors-clause-shown g c valid =
    by-law c.args.book.now c.args.question.now (Monitors c.in-Monitors.site) c.monitors_of.result c.answers_of_an_office_are_well_formed.ensures valid c.in-Monitors.is c.requires.range refl c.monitors_of.ensures

pub returns-in-Events-clause-shown : goal.returns-in-Events-clause-shown
returns-in-Events-clause-shown g c valid =
    by-law c.args.book.now c.args.question.now (Events c.in-Events.site) c.events_of.result c.answers_of_an_office_are_well_formed.ensures valid c.in-Events.is c.requires.range refl c.events_of.ensures

pub returns-in-Flags-clause-shown : goal.returns-in-Flags-clause-shown
returns-in-Flags-clause-shown g c valid =
    by-law c.args.book.now c.args.question.now (Flags c.in-Flags.site c.in-Flags.pollutant c.in-Flags.year) c.flags_of.result c.answers_of_an_office_are_well_formed.ensures valid c.in-Flags.is c.requires.range refl c.flags_of.ensures

pub returns-in-Loads-clause-shown : goal.returns-in-Loads-clause-shown
returns-in-Loads-clause-shown g c valid =
    by-law c.args.book.now c.args.question.now Loads c.loads_of.result c.answers_of_an_office_are_well_formed.ensures valid c.in-Loads.is c.requires.range refl c.loads_of.ensures

pub returns-in-Daily-clause-shown : goal.returns-in-Daily-clause-shown
returns-in-Daily-clause-shown g c valid =
    by-law c.args.book.now c.args.question.now (Daily c.in-Daily.site c.in-Daily.pollutant c.in-Daily.year) c.daily_of.result c.answers_of_an_office_are_well_formed.ensures valid c.in-Daily.is c.requires.range refl c.daily_of.ensures

pub returns-in-Highest-clause-shown : goal.returns-in-Highest-clause-shown
returns-in-Highest-clause-shown g c valid =
    by-law c.args.book.now c.args.question.now (Highest c.in-Highest.site c.in-Highest.pollutant c.in-Highest.year) c.highest_of.result c.answers_of_an_office_are_well_formed.ensures valid c.in-Highest.is c.requires.range refl c.highest_of.ensures

pub returns-in-Completeness-clause-shown : goal.returns-in-Completeness-clause-shown
returns-in-Completeness-clause-shown g c valid =
    by-law c.args.book.now c.args.question.now (Completeness c.in-Completeness.site c.in-Completeness.pollutant c.in-Completeness.year) c.completeness_of.result c.answers_of_an_office_are_well_formed.ensures valid c.in-Completeness.is c.requires.range refl c.completeness_of.ensures

pub returns-in-Reports-clause-shown : goal.returns-in-Reports-clause-shown
returns-in-Reports-clause-shown g c valid =
    by-law c.args.book.now c.args.question.now (Reports c.in-Reports.year) c.reports_of.result c.answers_of_an_office_are_well_formed.ensures valid c.in-Reports.is c.requires.range refl c.reports_of.ensures

pub returns-in-Records-clause-shown : goal.returns-in-Records-clause-shown
returns-in-Records-clause-shown g c valid =
    by-law c.args.book.now c.args.question.now Records c.records_of.result c.answers_of_an_office_are_well_formed.ensures valid c.in-Records.is c.requires.range refl c.records_of.ensures

pub returns-clause-shown : goal.returns-clause-shown
returns-clause-shown g c valid =
    by-law c.args.book.now c.args.question.now (Lines c.in-Lines.site c.in-Lines.pollutant c.in-Lines.year) c.lines_of.result c.answers_of_an_office_are_well_formed.ensures valid c.in-Lines.is c.requires.range refl c.lines_of.ensures
