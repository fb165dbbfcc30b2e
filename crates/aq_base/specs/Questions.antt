-- What a question is about, and the order of the table of questions (own).
use Rattle.std.specs.Prelude.{List, [], ◌∷◌}
use Rattle.aq_base.specs.declared.question.Question.{Question}
use Rattle.aq_base.specs.declared.question.Question.TheVariants as question
use Rattle.aq_base.specs.declared.question.Topic.{Topic}
use Rattle.aq_base.specs.declared.question.Topic.TheVariants.{Value, Report, Export, WhatIf, Decisive, Combined, Area, Reply, Windows, Days, Pm25, Pm10, Sites, Monitors, Events, Flags, Loads, Daily, Highest, Completeness, Reports, Records, Lines}

abbrev pub topic_of : Question → Topic
topic_of (question.Value standard site year) = Value
topic_of (question.Report standard year) = Report
topic_of (question.Export site pollutant year) = Export
topic_of (question.WhatIf standard site year assumed) = WhatIf
topic_of (question.Decisive standard site year) = Decisive
topic_of (question.Combined standard site year) = Combined
topic_of (question.Area standard area year) = Area
topic_of (question.Reply number) = Reply
topic_of (question.Windows site day) = Windows
topic_of (question.Days site year) = Days
topic_of (question.Pm25 site year) = Pm25
topic_of (question.Pm10 site year) = Pm10
topic_of question.Sites = Sites
topic_of (question.Monitors site) = Monitors
topic_of (question.Events site) = Events
topic_of (question.Flags site pollutant year) = Flags
topic_of question.Loads = Loads
topic_of (question.Daily site pollutant year) = Daily
topic_of (question.Highest site pollutant year) = Highest
topic_of (question.Completeness site pollutant year) = Completeness
topic_of (question.Reports year) = Reports
topic_of question.Records = Records
topic_of (question.Lines site pollutant year) = Lines

-- in the order in which the usage text and the documents have them
abbrev pub all_topics : List Topic
all_topics =
    Value ∷ Report ∷ Export ∷ WhatIf ∷ Decisive ∷ Combined ∷ Area ∷ Reply ∷ Windows ∷ Days ∷ Pm25 ∷ Pm10
    ∷ Sites ∷ Monitors ∷ Events ∷ Flags ∷ Loads ∷ Daily ∷ Highest ∷ Completeness ∷ Reports ∷ Records ∷ Lines ∷ []
