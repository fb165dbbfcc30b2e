-- The sheets of answers are well formed.
use Rattle.std.proofs.Common.{◌≡◌, ℕ, Bool, true, false, List, [], ◌∷◌, map, Option, Some, None, refl, subst}
use Rattle.std.specs.Prelude.{All, IfOk, IsTrue, Result, Ok, Err, if◌then◌else◌}
use Rattle.std.proofs.lemmas.List.Elements.{All-cons, All-nil, All-same}
use Rattle.aq_base.specs.Site.{Site}
use Rattle.aq_base.specs.declared.question.Question.{Question}
use Rattle.aq_base.specs.declared.refusal.Memory.{Memory}
use Rattle.aq_rules.specs.Office.Office.{IsOffice, Office, StoredLoad}
use Rattle.aq_rules.specs.Questions.Answer as questions
use Rattle.aq_rules.specs.Questions.Answer.{answer, is_registered, of_load, of_sheet, of_site}
use Rattle.aq_rules.specs.Questions.Asking.{is_asked}
use Rattle.aq_rules.specs.Shown.Sheet.{Sheet}
use Rattle.aq_rules.specs.Shown.Sheets.{load_sheet}
use Rattle.aq_rules.specs.Shown.WellFormed.{IsWellFormed}
use Rattle.aq_office.specs.Answers.{IsShown, seen}
use Rattle.aq_office.specs.Shown.{AreWellFormed, has_law}
use Rattle.aq_office.specs.declared.answers.Answer.{Answer}
use Rattle.aq_office.specs.declared.answers.Answer.TheVariants.{Sheets, Text, Lacks}

-- ---- the book's answers

pub one-sheet : (sheet : Sheet) → IsWellFormed sheet → AreWellFormed (of_sheet sheet)
one-sheet sheet well = All-cons IsWellFormed sheet [] well (All-nil IsWellFormed)

pub two-sheets : (first second : Sheet) (sheets : List Sheet) → sheets ≡ first ∷ second ∷ [] → IsWellFormed first → IsWellFormed second → All IsWellFormed sheets
two-sheets first second sheets are one other =
    All-same IsWellFormed sheets (first ∷ second ∷ []) are (All-cons IsWellFormed first (second ∷ []) one (All-cons IsWellFormed second [] other (All-nil IsWellFormed)))

-- a sheet for each entry of a list
pub each-sheet : {A : Type 0} (sheet_of : A → Sheet) (entries : List A) → ((entry : A) → IsWellFormed (sheet_of entry)) → All IsWellFormed (map sheet_of entries)
each-sheet sheet_of [] law = All-nil IsWellFormed
each-sheet sheet_of (entry ∷ entries) law = All-cons IsWellFormed (sheet_of entry) (map sheet_of entries) (law entry) (each-sheet sheet_of entries law)

pub of-site : (office : Office) (site : Site) (found : questions.Answer) → AreWellFormed found → AreWellFormed (of_site office site found)
of-site office site found are = by (is_registered office site)
  where
    by : (b : Bool) → AreWellFormed (if b then found else questions.Lacks (questions.NoSite site))
    by true = are
    by false = tt

pub of-load : (number : ℕ) (found : Option StoredLoad) → ((load : StoredLoad) → found ≡ Some load → IsWellFormed (load_sheet load.reply)) → AreWellFormed (of_load number found)
of-load number None law = tt
of-load number (Some load) law = one-sheet (load_sheet load.reply) (law load refl)

-- ---- what is answered by them

shown : (found : Answer) → AreWellFormed (seen found) → IsShown found
shown (Sheets sheets) are = are
shown (Text text) are = tt
shown (Lacks what) are = tt

answer-shown : (office : Office) (question : Question) (result : Result Answer Memory)
    → AreWellFormed (answer office question) → IfOk result (λ found. answer office question ≡ seen found) → IfOk result (λ found. IsShown found)
answer-shown office question (Ok found) are is = shown found (subst AreWellFormed is are)
answer-shown office question (Err memory) are is = tt

-- an answer of which the law speaks is shown
pub by-law : (office : Office) (asked question : Question) (result : Result Answer Memory)
    → ((office : Office) (question : Question) → IsOffice office → IsTrue (is_asked question) → IsTrue (has_law question) → AreWellFormed (answer office question))
    → IsOffice office → asked ≡ question → IsTrue (is_asked asked) → IsTrue (has_law question)
    → IfOk result (λ found. answer office question ≡ seen found) → IfOk result (λ found. IsShown found)
by-law office asked question result law valid same range speaks is =
    answer-shown office question result (law office question valid (subst (λ (q : Question). IsTrue (is_asked q)) same range) speaks) is
