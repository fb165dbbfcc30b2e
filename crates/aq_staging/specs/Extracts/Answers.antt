-- What is answered to an extract, in the book's words.
use Rattle.aq_staging.specs.declared.extracts.answer.ChangesAnswer.{ChangesAnswer}
use Rattle.aq_staging.specs.declared.extracts.answer.ChangesAnswer.TheVariants.{RefusedAt, OfLines}
use Rattle.aq_rules.specs.Extracts.Changes as changes

abbrev pub answer_in : ChangesAnswer → changes.ChangesAnswer
answer_in (RefusedAt line rule) = changes.RefusedAt line rule
answer_in (OfLines text) = changes.OfLines text
