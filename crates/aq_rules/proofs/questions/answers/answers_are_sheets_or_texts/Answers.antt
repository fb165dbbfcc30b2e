use Rattle.std.proofs.Common.{refl}
use Rattle.std.specs.Fmt.{digits}
use Rattle.aq_rules.specs.Listed.Sites.{listed_sites, sites_answer, sites_sheet}
use Rattle.aq_rules.specs.Questions.Answer.{answer}
use Rattle.aq_rules.specs.Shown.Json.{json_of}
use Rattle.aq_rules.specs.Shown.Sheet.{text_of}
use Rattle.aq_rules.proofs.questions.answers.answers_are_sheets_or_texts.Goals as goal

pub returns : goal.returns
unfolding digits listed_sites sites_answer sites_sheet answer json_of text_of
returns c = record {
  records = λ office. refl;
  sites = λ office. refl;
  loads = λ office. refl;
  reply = λ office number load at. rw at refl;
  area = λ office standard area year first others are. rw are refl;
  report = λ office standard year. refl;
  reports = λ office year. refl;
  one = refl;
  two = refl;
  text = refl;
}
