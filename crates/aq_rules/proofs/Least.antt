-- The first broken rule of a list in rising number is the least one.
use Rattle.std.proofs.Common.{◌≡◌, ℕ, ◌<◌, ◌≤◌, Bool, true, false, cond, List, [], ◌∷◌, Some, None, Option, refl, sym, ap, ◌∙◌, ◌&&◌, arith, inl, inr, suc, subst}
use Rattle.std.specs.Prelude.{All, Contains, find, nat_le}
use Rattle.std.specs.List.{AllByRecursion, list_all}
use Rattle.std.proofs.lemmas.List.Elements.{All-from_recursion, All-cons, All-nil}
use Rattle.std.proofs.lemmas.Bool.{and_parts, cases_Bool}
use Rattle.std.proofs.lemmas.Bool.Decides.{nat_tests}
use Rattle.aq_base.specs.Rule.{rule_number}
use Rattle.aq_base.specs.declared.rule.Rule.{Rule}
use Rattle.aq_base.specs.declared.rule.Rule.TheVariants.{BadBytes, BadTag, FieldCount, BadAction}
use Rattle.aq_base.specs.declared.office.OfficeRecord.TheVariants.{Monitor, Primary, Schedule, Season, Makeup, Event, Concurrence}
use Rattle.aq_base.specs.declared.office.OfficeKey.TheVariants.{Monitor as MonitorKey, Event as EventKey}
use Rattle.aq_base.specs.declared.office.OfficeLine.TheVariants.{Put, Change, Drop}
use Rattle.aq_rules.specs.Lines.Fields.{fields}
use Rattle.aq_rules.specs.Lines.Spellings.{Tag, Rd, Xm, Xp, Xs, Xo, Xu, Xe, Xc, Xa, Xb}
use Rattle.aq_rules.specs.Lines.RdForm.{Put as PutSample, Delete as DeleteSample}
use Rattle.aq_rules.specs.Lines.Reading.{LineValue, OfRd, OfOffice, rules_of, rules_for, reading_rules, tag_of, is_deletion}
use Rattle.aq_rules.specs.Office.Refusal.{office_rules}
use Rattle.aq_rules.specs.Office.Office.{rises, rises_from, comes_before}
use Rattle.aq_rules.specs.Least.{IsLeastBroken, rule_rank}

one_before : (a b : ℕ) → comes_before (a ∷ []) (b ∷ []) ≡ true → a < b
one_before a b h = grind (arith, nat_tests)

-- the rules after one in a rising list have greater numbers
above : (n : ℕ) (first : Rule) (rest : List Rule) → n ≤ rule_number first → rises_from rule_rank first rest ≡ true
    → AllByRecursion (λ other. n < rule_number other) rest
above n first [] small rising = tt
above n first (next ∷ rest) small rising =
    let parts = and_parts (comes_before (rule_rank first) (rule_rank next)) (rises_from rule_rank next rest) rising in
    let lower : rule_number first < rule_number next = one_before (rule_number first) (rule_number next) parts.0 in
    (omega arith, above n next rest (omega arith) parts.1)

rises_rest : (first : Rule) (rest : List Rule) → rises_from rule_rank first rest ≡ true → rises rule_rank rest ≡ true
rises_rest first [] rising = refl
rises_rest first (next ∷ rest) rising =
    (and_parts (comes_before (rule_rank first) (rule_rank next)) (rises_from rule_rank next rest) rising).1

greater_not_less : (p : Rule → Bool) (rule : Rule) (rest : List Rule) → AllByRecursion (λ other. rule_number rule < rule_number other) rest
    → AllByRecursion (λ other. rule_number other < rule_number rule → p other ≡ false) rest
greater_not_less p rule [] h = tt
greater_not_less p rule (next ∷ rest) h = (λ less. absurd (omega (arith, h.0)), greater_not_less p rule rest h.1)

contains_head : (rule : Rule) (rest : List Rule) → Contains (rule ∷ rest) rule
contains_head rule rest = (0, omega arith, refl)

contains_tail : (first rule : Rule) (rest : List Rule) → Contains rest rule → Contains (first ∷ rest) rule
contains_tail first rule rest (k, h, e) = (suc k, omega arith, e)

pub IsLeastBroken-find : (p : Rule → Bool) (rules : List Rule) (rule : Rule) → rises rule_rank rules ≡ true → find p rules ≡ Some rule
    → IsLeastBroken p rules rule
IsLeastBroken-find p [] rule rising found = cc
IsLeastBroken-find p (first ∷ rest) rule rising found =
    elim (cases_Bool (p first)) [
      | inl here ↦
          let same : Some first ≡ Some rule = sym (ap (λ b. cond b (Some first) (find p rest)) here) ∙ found in
          let is : first ≡ rule = cc in
          record {
            listed = subst (λ r. Contains (first ∷ rest) r) is (contains_head first rest);
            broken = subst (λ r. p r ≡ true) is here;
            least = subst (λ r. All (λ other. rule_number other < rule_number r → p other ≡ false) (first ∷ rest)) is
                (All-from_recursion (λ other. rule_number other < rule_number first → p other ≡ false) (first ∷ rest)
                (λ less. absurd (omega arith), greater_not_less p first rest (above (rule_number first) first rest (omega arith) rising)));
          }
      | inr there ↦
          let later : find p rest ≡ Some rule = sym (ap (λ b. cond b (Some first) (find p rest)) there) ∙ found in
          let rec = IsLeastBroken-find p rest rule (rises_rest first rest rising) later in
          record {
            listed = contains_tail first rule rest rec.listed;
            broken = rec.broken;
            least = All-cons (λ other. rule_number other < rule_number rule → p other ≡ false) first rest (λ less. there) rec.least;
          }
    ]

pub none_broken-find : (p : Rule → Bool) (rules : List Rule) → find p rules ≡ None → All (λ other. p other ≡ false) rules
none_broken-find p [] none = All-nil (λ other. p other ≡ false)
none_broken-find p (first ∷ rest) none =
    elim (cases_Bool (p first)) [
      | inl here ↦
          let same : Some first ≡ None = sym (ap (λ b. cond b (Some first) (find p rest)) here) ∙ none in
          cc
      | inr there ↦
          let later : find p rest ≡ None = sym (ap (λ b. cond b (Some first) (find p rest)) there) ∙ none in
          All-cons (λ other. p other ≡ false) first rest there (none_broken-find p rest later)
    ]

-- ---- the lists of rules rise, and their numbers are those of rules

abbrev pub is_built : Rule → Bool
is_built rule = nat_le (rule_number rule) 36

-- rules in rising number, of which each has a number of the profile
abbrev are_in_order : List Rule → Bool
are_in_order rules = rises rule_rank rules && list_all is_built rules

tag_ordered : (tag : Tag) (deletes : Bool) → are_in_order (BadBytes ∷ BadTag ∷ FieldCount ∷ BadAction ∷ rules_of tag deletes) ≡ true
tag_ordered Rd true = refl
tag_ordered Rd false = refl
tag_ordered Xm true = refl
tag_ordered Xm false = refl
tag_ordered Xp true = refl
tag_ordered Xp false = refl
tag_ordered Xs true = refl
tag_ordered Xs false = refl
tag_ordered Xo true = refl
tag_ordered Xo false = refl
tag_ordered Xu true = refl
tag_ordered Xu false = refl
tag_ordered Xe true = refl
tag_ordered Xe false = refl
tag_ordered Xc true = refl
tag_ordered Xc false = refl
tag_ordered Xa true = refl
tag_ordered Xa false = refl
tag_ordered Xb true = refl
tag_ordered Xb false = refl

parts_ordered : (tag : Option Tag) (texts : List (List ℕ)) → are_in_order (BadBytes ∷ BadTag ∷ FieldCount ∷ BadAction ∷ rules_for tag texts) ≡ true
parts_ordered None texts = refl
parts_ordered (Some tag) texts = tag_ordered tag (is_deletion texts)

office_ordered : (value : LineValue) → are_in_order (office_rules value) ≡ true
office_ordered (OfRd (PutSample true monitor duration hour content)) = refl
office_ordered (OfRd (PutSample false monitor duration hour content)) = refl
office_ordered (OfRd (DeleteSample monitor hour)) = refl
office_ordered (OfOffice (Put (Monitor id duration eligible))) = refl
office_ordered (OfOffice (Put (Primary site pollutant from poc))) = refl
office_ordered (OfOffice (Put (Schedule site pollutant from interval anchor))) = refl
office_ordered (OfOffice (Put (Season site year first last))) = refl
office_ordered (OfOffice (Put (Makeup site missed makeup))) = refl
office_ordered (OfOffice (Put (Event number site pollutant first last code))) = refl
office_ordered (OfOffice (Put r)) = refl
office_ordered (OfOffice (Change (Monitor id duration eligible))) = refl
office_ordered (OfOffice (Change (Concurrence number agreed))) = refl
office_ordered (OfOffice (Change r)) = refl
office_ordered (OfOffice (Drop (MonitorKey id))) = refl
office_ordered (OfOffice (Drop (EventKey number))) = refl
office_ordered (OfOffice (Drop key)) = refl

pub reading_rules-rise : (line : List ℕ) → rises rule_rank (reading_rules line) ≡ true
reading_rules-rise line =
    (and_parts (rises rule_rank (reading_rules line)) (list_all is_built (reading_rules line)) (parts_ordered (tag_of line) (fields line))).0

pub reading_rules-built : (line : List ℕ) → list_all is_built (reading_rules line) ≡ true
reading_rules-built line =
    (and_parts (rises rule_rank (reading_rules line)) (list_all is_built (reading_rules line)) (parts_ordered (tag_of line) (fields line))).1

pub office_rules-rise : (value : LineValue) → rises rule_rank (office_rules value) ≡ true
office_rules-rise value = (and_parts (rises rule_rank (office_rules value)) (list_all is_built (office_rules value)) (office_ordered value)).0

pub office_rules-built : (value : LineValue) → list_all is_built (office_rules value) ≡ true
office_rules-built value = (and_parts (rises rule_rank (office_rules value)) (list_all is_built (office_rules value)) (office_ordered value)).1
