-- What is put after the others comes last.
use Rattle.std.proofs.Common.{◌≡◌, Bool, true, false, not, ◌&&◌, List, [], ◌∷◌, ◌++◌, refl, sym, ap, ◌∙◌, subst}
use Rattle.std.specs.Prelude.{Option, Some, None, is_some, is_none, option_map, IsSome}
use Rattle.aq_base.specs.declared.observation.ObsKey.{ObsKey}
use Rattle.aq_base.specs.declared.observation.Observation.{Observation}
use Rattle.aq_base.specs.declared.office.OfficeKey.{OfficeKey}
use Rattle.aq_base.specs.declared.office.OfficeLine.{OfficeLine}
use Rattle.aq_base.specs.declared.office.OfficeRecord.{OfficeRecord}
use Rattle.aq_base.specs.declared.rule.Rule.{Rule}
use Rattle.aq_rules.specs.Lines.Canonical.{record_line, is_line_value}
use Rattle.aq_rules.specs.Lines.Reading.{OfOffice}
use Rattle.aq_rules.specs.Office.Load.{changed}
use Rattle.aq_rules.specs.Office.Office.{IsOffice, key_of, record_rank, observation_rank, rises, content_of}
use Rattle.aq_rules.specs.Office.Questions.{following, record_of}
use Rattle.aq_rules.specs.Office.Refusal.{broken}
use Rattle.aq_registry.specs.Registry.{office_with}
use Rattle.aq_registry.specs.Changes.{IsFaultOf}
use Rattle.aq_registry.specs.declared.changes.RegistryFault.{RegistryFault}
use Rattle.aq_registry.specs.declared.changes.RegistryFault.TheVariants.{Broken}
use Rattle.aq_shelf.specs.Standing.{content_at, IsInsertFault}
use Rattle.aq_shelf.specs.declared.fault.ShelfFault.{ShelfFault}
use Rattle.aq_shelf.specs.declared.fault.ShelfFault.TheVariants.{AlreadyThere}
use Rattle.aq_rows.proofs.RisingEnds.{absent, last-test}
use Rattle.aq_rows.proofs.LastRecord.{record-last, record-taken, record-refused}

-- ---- records

is_none-not : {X : Type 0} (o : Option X) (b : Bool) → is_some o ≡ not b → is_none o ≡ b
is_none-not None true h = refl
is_none-not None false h = sym h
is_none-not (Some x) true h = sym h
is_none-not (Some x) false h = refl

module _ (records : List OfficeRecord) (entry : OfficeRecord) where
  abbrev comes : Bool
  comes = rises record_rank (records ++ entry ∷ [])

  -- the two questions of the registry
  questions : (key again : OfficeKey) → rises record_rank records ≡ true → key ≡ key_of entry → again ≡ key_of entry
      → (is_none (following records (Some key)) && is_none (record_of records again)) ≡ comes
  unfolding following
  questions key again rising first second =
      ap (λ k. is_none (following records (Some k)) && is_none (record_of records again)) first
      ∙ ap (λ k. is_none (following records (Some (key_of entry))) && is_none (record_of records k)) second
      ∙ last-test record_rank records entry rising

  pub both-asked : (key again : OfficeKey) (f g : Option OfficeRecord) (a b : Bool) → rises record_rank records ≡ true → key ≡ key_of entry → f ≡ following records (Some key)
      → is_some f ≡ not a → a ≡ true → again ≡ key_of entry → g ≡ record_of records again → is_some g ≡ not b → b ≡ comes
  both-asked key again f g a b rising first follows none found second at new =
      let one : is_none (following records (Some key)) ≡ true = ap is_none (sym follows) ∙ is_none-not f a none ∙ found in
      let two : is_none (record_of records again) ≡ b = ap is_none (sym at) ∙ is_none-not g b new in
      sym two ∙ ap (λ x. x && is_none (record_of records again)) (sym one) ∙ questions key again rising first second

  pub first-asked : (key : OfficeKey) (f : Option OfficeRecord) (a : Bool) → rises record_rank records ≡ true → key ≡ key_of entry → f ≡ following records (Some key)
      → is_some f ≡ not a → a ≡ false → a ≡ comes
  first-asked key f a rising first follows none found =
      let one : is_none (following records (Some key)) ≡ false = ap is_none (sym follows) ∙ is_none-not f a none ∙ found in
      found ∙ ap (λ x. x && is_none (record_of records key)) (sym one) ∙ questions key key rising first first

  pub put-last : (line : OfficeLine) (after : List OfficeRecord) → line ≡ record_line entry → after ≡ (changed (office_with records) (OfOffice line)).records → comes ≡ true → after ≡ records ++ entry ∷ []
  put-last line after is changes rising =
      changes ∙ ap (λ l. (changed (office_with records) (OfOffice l)).records) is ∙ record-last records entry rising

  pub put-valid : (line : OfficeLine) (after : List OfficeRecord) → line ≡ record_line entry → after ≡ (changed (office_with records) (OfOffice line)).records → comes ≡ true
      → IsOffice (office_with records) → is_line_value (OfOffice (record_line entry)) ≡ true → broken (office_with records) (OfOffice line) ≡ None → IsOffice (office_with after)
  put-valid line after is changes rising valid spelled none =
      subst (λ l. IsOffice (office_with l)) (sym (put-last line after is changes rising))
      (record-taken records entry valid spelled (subst (λ l. broken (office_with records) (OfOffice l) ≡ None) is none) rising)

  pub put-refused : (line : OfficeLine) (fault : RegistryFault) (rule : Rule) → line ≡ record_line entry → fault ≡ Broken rule → IsFaultOf (broken (office_with records) (OfOffice line)) line fault
      → IsOffice (office_with (records ++ entry ∷ [])) → ⊥
  put-refused line fault rule is broke refused =
      let told : broken (office_with records) (OfOffice line) ≡ Some rule = subst (λ f. IsFaultOf (broken (office_with records) (OfOffice line)) line f) broke refused in
      record-refused (office_with records) entry rule (subst (λ l. broken (office_with records) (OfOffice l) ≡ Some rule) is told)

-- ---- observations

pub not-there : (fault : ShelfFault) (key : ObsKey) (content : Observation) (rows : List (ObsKey × Observation)) → fault ≡ AlreadyThere → IsInsertFault fault key rows
    → rises observation_rank (rows ++ (key, content) ∷ []) ≡ true → ⊥
not-there fault key content rows is refused rising =
    let there : IsSome (content_at key rows) = subst (λ f. IsInsertFault f key rows) is refused in
    let none : content_at key rows ≡ None = ap (option_map content_of) (absent observation_rank (key, content) rows rising) in
    cc (subst IsSome none there)
