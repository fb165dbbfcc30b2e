-- Loads that are taken one after the other.
use Rattle.std.proofs.Common.{◌≡◌, ℕ, suc, ◌+◌, ◌-◌, ◌*◌, ◌≤◌, ◌<◌, inl, inr, Bool, true, false, List, [], ◌∷◌, ◌++◌, length, flat_map, Vec, Global, Option, Some, None, refl, sym, ap, subst, ◌∙◌, arith}
use Rattle.std.specs.Prelude.{◌||◌, ◌==◌, nat_lt, if◌then◌else◌, fold, Result, Ok, IfOk}
use Rattle.std.specs.List.{range_with_len}
use Rattle.std.proofs.lemmas.Bool.Decides.{nat_tests}
use Rattle.std.proofs.lemmas.List.{append-nil}
use Rattle.std.proofs.lemmas.Nat.{mul-le}
use Rattle.sha2.specs.Sha256.{sha256}
use Rattle.aq_base.specs.Faults.{HasRisen}
use Rattle.aq_base.specs.Standard.{standards}
use Rattle.aq_base.specs.declared.question.Question.TheVariants.{Report}
use Rattle.aq_base.specs.declared.standard.Standard.{Standard}
use Rattle.aq_rules.specs.Limits.{MOST_LINES, MOST_GENERATED_SITES, MOST_GENERATED_YEARS}
use Rattle.aq_rules.specs.Lines.Lines.{line_count}
use Rattle.aq_rules.specs.Office.Office.{IsOffice, Office, nothing}
use Rattle.aq_rules.specs.Office.Load.{TooManyLines, Repeated, Differing, NoRoom, Taken, office_after, post}
use Rattle.aq_rules.specs.Office.Load as loads
use Rattle.aq_rules.specs.Questions.Answer.{OfSheets, OfText, answer, texts_of}
use Rattle.aq_rules.specs.Questions.Answer as questions
use Rattle.aq_rules.specs.Shown.Generator.{generate, generated_lines, generated_load, generated_office, load_count, loads_to_take, simulation, FIRST_GENERATED_YEAR}
use Rattle.aq_rules.specs.Shown.OtherSheets.{report_answer, summary_sheet}
use Rattle.aq_rules.specs.Shown.Sheet.{Sheet, text_of}
use Rattle.aq_keeper.specs.Standing.{Standing}
use Rattle.aq_office.specs.Posting.{IsPosted}
use Rattle.aq_office.specs.declared.posting.Posted.{Posted}
use Rattle.aq_office.specs.declared.posting.Posted.TheVariants.{Done, Conflict, Full, Failed}

-- ---- the load that is taken

-- there is one
pub generated_is : (start sites years load : ℕ) → 1 ≤ load → load ≤ load_count sites years → generate start sites years load ≡ Some (generated_load start sites years load)
unfolding generate
generated_is start sites years load first last = ap (λ (b : Bool). if b then None else Some (generated_load start sites years load)) (within load (load_count sites years) first last)
  where
    within : (n count : ℕ) → 1 ≤ n → n ≤ count → ((n == 0) || nat_lt count n) ≡ false
    within n count one last = grind (arith, nat_tests)

none-some : {A : Type 0} (a : A) → None ≡ Some a → ⊥
none-some a is = absurd (cc)

same-some : {A : Type 0} (a b : A) → Some a ≡ Some b → a ≡ b
same-some a b is = cc

module _ (start sites years load : ℕ) (first : 1 ≤ load) (last : load ≤ load_count sites years) (found : Option (List ℕ)) (is : found ≡ generate start sites years load) where
  pub not_none : found ≡ None → ⊥
  not_none none = none-some (generated_load start sites years load) (sym none ∙ is ∙ generated_is start sites years load first last)

  pub body_is : (body : List ℕ) → found ≡ Some body → body ≡ generated_load start sites years load
  body_is body some = same-some body (generated_load start sites years load) (sym some ∙ is ∙ generated_is start sites years load first last)

-- a body that is made of a text is the text
pub made_of : {E : Type 0} (made : Result (List ℕ) E) (text body : List ℕ) → IfOk made (λ b. b ≡ text) → made ≡ Ok body → body ≡ text
made_of {E} made text body is same = subst (λ (r : Result (List ℕ) E). IfOk r (λ b. b ≡ text)) same is

-- ---- the office that stands behind it

not_risen : (before after : ℕ) → before ≡ 0 → after ≡ 0 → HasRisen before after → ⊥
not_risen before after none still (inl rose) = omega (arith, still, rose)
not_risen before after none still (inr full) = omega (arith, none, full.0)

-- a keeper that has its tables has not failed
pub not_failed : (is_held : Bool) (faults : ℕ) → is_held ≡ true → (if is_held then 0 else faults) ≡ 0
not_failed true faults held = refl
not_failed false faults held = absurd (cc)

-- over a keeper that never fails it is what the load comes to
pub posted_office : (comes : loads.Posted) (told : Posted) (before after : Standing) → before.faults ≡ 0 → after.faults ≡ 0 → IsPosted comes before after told → after.office ≡ office_after comes before.office
posted_office TooManyLines told before after none still is = absurd is
posted_office (Repeated kept) told before after none still is = ap (λ (s : Standing). s.office) is.1
posted_office (Differing kept sent) told before after none still is = ap (λ (s : Standing). s.office) is.1
posted_office NoRoom told before after none still is = ap (λ (s : Standing). s.office) is.1
posted_office (Taken reply now) (Done sheet) before after none still is = is.1
posted_office (Taken reply now) Failed before after none still is = absurd (not_risen before.faults after.faults none still is.2)
posted_office (Taken reply now) (Conflict kept sent) before after none still is = absurd is
posted_office (Taken reply now) Full before after none still is = absurd is

-- ---- the report of a standard

report_is : (office : Office) (standard : Standard) (year : ℕ) → answer office (Report standard year) ≡ OfSheets (report_answer standard office year ∷ [])
unfolding answer
report_is office standard year = refl

same-sheets : (a b : List Sheet) → OfSheets a ≡ OfSheets b → a ≡ b
same-sheets a b is = cc

module _ (office : Office) (standard : Standard) (year : ℕ) where
  -- its text
  pub report_texts : (sheets : List Sheet) → answer office (Report standard year) ≡ OfSheets sheets → texts_of sheets ≡ text_of (report_answer standard office year)
  report_texts sheets is =
      ap texts_of (same-sheets sheets (report_answer standard office year ∷ []) (sym is ∙ report_is office standard year))
      ∙ append-nil (text_of (report_answer standard office year))

  -- and no other answer
  pub no_text : (text : List ℕ) → answer office (Report standard year) ≡ OfText text → ⊥
  no_text text is = let none : OfSheets (report_answer standard office year ∷ []) ≡ OfText text = sym (report_is office standard year) ∙ is in absurd (cc)

  pub no_lack : (what : questions.Lack) → answer office (Report standard year) ≡ questions.Lacks what → ⊥
  no_lack what is = let none : OfSheets (report_answer standard office year ∷ []) ≡ questions.Lacks what = sym (report_is office standard year) ∙ is in absurd (cc)

-- ---- all of them

pub few_loads : (sites years : ℕ) → sites ≤ MOST_GENERATED_SITES → years ≤ MOST_GENERATED_YEARS → load_count sites years ≤ 321
few_loads sites years few short = omega (arith, mul-le sites years MOST_GENERATED_SITES MOST_GENERATED_YEARS few short)

module _ (start sites years : ℕ) where
  abbrev step : Office → ℕ → Office
  step office load = post office load (sha256 (generated_load start sites years load)) (generated_load start sites years load)

  abbrev add : ℕ → ℕ → ℕ
  add lines load = lines + line_count (generated_load start sites years load)

  -- what is still to be taken completes all
  pub record TakesOn (load lines : ℕ) (office : Office) : Type 0 where
    pub first : 1 ≤ load
    pub last : load ≤ load_count sites years + 1
    pub valid : IsOffice office
    pub loads : load_count sites years ≤ 321
    pub few : lines + MOST_LINES ≤ load * MOST_LINES
    pub taken : fold step office (range_with_len load (load_count sites years + 1 - load)) ≡ generated_office sha256 start sites years
    pub count : fold add lines (range_with_len load (load_count sites years + 1 - load)) ≡ generated_lines start sites years

  pub takes_first : (office : Office) → IsOffice nothing → office ≡ nothing → sites ≤ MOST_GENERATED_SITES → years ≤ MOST_GENERATED_YEARS → TakesOn 1 0 office
  unfolding generated_office generated_lines loads_to_take
  takes_first office valid none few short = record {
    first = omega arith;
    last = omega arith;
    valid = subst IsOffice (sym none) valid;
    loads = few_loads sites years few short;
    few = omega arith;
    taken = ap (λ o. fold step o (range_with_len 1 (load_count sites years + 1 - 1))) none ∙ ap (λ k. fold step nothing (range_with_len 1 k)) all;
    count = ap (λ k. fold add 0 (range_with_len 1 k)) all;
  }
    where
      all : load_count sites years + 1 - 1 ≡ load_count sites years
      all = omega arith

  pub takes_next : (load lines more : ℕ) (office now : Office) → load ≤ load_count sites years → TakesOn load lines office → IsOffice now → now ≡ step office load → more ≡ add lines load → more ≤ lines + MOST_LINES → TakesOn (load + 1) more now
  takes_next load lines more office now is_there on valid is counts few = record {
    first = omega arith;
    last = omega (arith, is_there);
    valid = valid;
    loads = on.loads;
    few = omega (arith, on.few, few);
    taken = ap (fold step now) rest ∙ ap (λ o. fold step o (range_with_len (load + 1) left)) is ∙ ap (λ k. fold step office (range_with_len load k)) (sym here) ∙ on.taken;
    count = ap (fold add more) rest ∙ ap (λ k. fold add k (range_with_len (load + 1) left)) counts ∙ ap (λ k. fold add lines (range_with_len load k)) (sym here) ∙ on.count;
  }
    where
      left : ℕ
      left = load_count sites years - load

      here : load_count sites years + 1 - load ≡ suc left
      here = omega (arith, is_there)

      rest : range_with_len (load + 1) (load_count sites years + 1 - (load + 1)) ≡ range_with_len (load + 1) left
      rest = ap (range_with_len (load + 1)) (omega (arith, is_there))

  pub takes_all : (load lines : ℕ) (office : Office) → load_count sites years < load → TakesOn load lines office → (office ≡ generated_office sha256 start sites years) × (lines ≡ generated_lines start sites years)
  takes_all load lines office past on =
      (sym (ap (λ k. fold step office (range_with_len load k)) none) ∙ on.taken, sym (ap (λ k. fold add lines (range_with_len load k)) none) ∙ on.count)
    where
      none : load_count sites years + 1 - load ≡ 0
      none = omega (arith, past)

  pub room_left : (load lines : ℕ) (office : Office) → load ≤ load_count sites years → TakesOn load lines office → lines ≤ 400 * MOST_LINES
  room_left load lines office is_there on = omega (arith, is_there, on.few, on.loads)

-- ---- the text

pub text_is : {E : Type 0} (answer : Result (Vec ℕ Global) E) (made whole : List ℕ) → made ≡ whole → IfOk answer (λ text. text.items ≡ made) → IfOk answer (λ text. text.items ≡ whole)
text_is answer made whole same is = subst (λ (t : List ℕ). IfOk answer (λ text. text.items ≡ t)) same is

pub simulation_is : (start sites years year loads lines : ℕ) (office : Office) (summary text : List ℕ)
    → loads ≡ load_count sites years → office ≡ generated_office sha256 start sites years → lines ≡ generated_lines start sites years → year ≡ FIRST_GENERATED_YEAR + years - 1
    → summary ≡ text_of (summary_sheet loads lines (length office.observations)) → text ≡ summary ++ flat_map (λ standard. text_of (report_answer standard office year)) standards
    → text ≡ simulation sha256 start sites years
unfolding simulation
simulation_is start sites years year loads lines office summary text all is counts last front whole =
    whole
    ∙ ap (λ t. t ++ flat_map (λ standard. text_of (report_answer standard office year)) standards) (front ∙ ap (λ k. text_of (summary_sheet k lines (length office.observations))) all ∙ ap (λ k. text_of (summary_sheet (load_count sites years) k (length office.observations))) counts)
    ∙ ap (over office) last
    ∙ ap (λ o. over o (FIRST_GENERATED_YEAR + years - 1)) is
  where
    over : Office → ℕ → List ℕ
    over o y = text_of (summary_sheet (load_count sites years) (generated_lines start sites years) (length o.observations)) ++ flat_map (λ standard. text_of (report_answer standard o y)) standards
