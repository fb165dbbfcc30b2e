-- What was said of an event is what the record of its concurrence says.
use Rattle.std.proofs.Common.{◌≡◌, ℕ, Bool, true, cond, ◌==◌, List, Some, None, is_some, refl, ap}
use Rattle.std.specs.Option.{option_and_then}
use Rattle.std.proofs.lemmas.Bool.{false≢true}
use Rattle.aq_base.specs.declared.office.OfficeRecord.{OfficeRecord}
use Rattle.aq_base.specs.declared.office.OfficeRecord.TheVariants.{Concurrence}
use Rattle.aq_base.specs.declared.office.OfficeKey.TheVariants.{Concurrence as ConcurrenceKey}
use Rattle.aq_rules.specs.Office.Office.{key_numbers, record_rank, is_same}
use Rattle.aq_rules.specs.Office.Questions.{record_of}
use Rattle.aq_rules.specs.Listed.Events.{agreement_by, agreement_of}
use Rattle.aq_registry.specs.Registry.{office_with}
use Rattle.aq_registry.proofs.QuestionLemmas.{first_given-found, last_test}
use Rattle.aq_listed.specs.EventWords.{agreement_in}

has_number : ℕ → OfficeRecord → Bool
has_number number r = is_same (record_rank r) (key_numbers (ConcurrenceKey number))

tells : (number : ℕ) (r : OfficeRecord) → agreement_by number r ≡ cond (has_number number r) (agreement_in r) None
unfolding has_number
tells number (Concurrence other agreed) = ap (λ b. cond b (Some agreed) None) (last_test (other == number))
tells number r = refl

says : (number : ℕ) (r : OfficeRecord) → has_number number r ≡ true → is_some (agreement_in r) ≡ true
unfolding has_number
says number (Concurrence other agreed) h = refl
says number r h = absurd (false≢true h)

pub agreement_found : (records : List OfficeRecord) (number : ℕ) → agreement_of (office_with records) number ≡ option_and_then agreement_in (record_of records (ConcurrenceKey number))
unfolding agreement_of has_number
agreement_found records number = first_given-found (agreement_by number) agreement_in (has_number number) (tells number) (says number) records
