-- What stands after the changes of an extract is what it says at its places; and the same extract then changes nothing.
use Rattle.std.proofs.Common.{◌≡◌, Bool, true, false, not, cond, ◌&&◌, List, [], ◌++◌, map, Some, None, Option, option_map, is_some, is_none, refl, sym, ap, ◌∙◌}
use Rattle.std.specs.Prelude.{ℕ, ◌==◌, flat_map}
use Rattle.std.specs.Option.{option_map_or, option_or}
use Rattle.std.proofs.lemmas.Bool.{and_from, and_parts, false≢true}
use Rattle.aq_base.specs.declared.observation.ObsKey.{ObsKey}
use Rattle.aq_base.specs.declared.observation.Observation.{Observation}
use Rattle.aq_rules.specs.Extracts.BroughtUpToDate.{is_of_extract, updated, updated_office, wanted_at}
use Rattle.aq_rules.specs.Extracts.Changes.{DaySpan, OfLines, Says, answer_for, change_text, change_values, changes_answer, deletion_of, extract_of, is_changed, is_dropped, is_in_span, is_new, names, put_of, says}
use Rattle.aq_rules.specs.Lines.Spellings.{◌>>=◌}
use Rattle.aq_rules.specs.Listed.Places.{is_of_monitor}
use Rattle.aq_rules.specs.Office.Load.{is_same_content}
use Rattle.aq_rules.specs.Office.Monitors.{is_same_monitor}
use Rattle.aq_rules.specs.Office.Office.{Office, IsOffice, content_of, fits_monitors, is_same, observation_at, observation_numbers, observation_rank}
use Rattle.aq_rules.specs.Office.Sameness.{key_itself}
use Rattle.aq_rules.proofs.ChangesDone.{At, Entry, at-updated, some_found, updated-rises}
use Rattle.aq_rules.proofs.Elements.{filter-none, found_passes}
use Rattle.aq_rules.proofs.ExtractRows.{AreRows, extract-same, is_row}
use Rattle.aq_rules.proofs.Found.{Stands, any-of_found, own-rows}
use Rattle.aq_rules.proofs.OneKey.{one_observation_key}
use Rattle.aq_rules.proofs.SameRows.{content-itself}

module _ (span : DaySpan) (office : Office) (rows : List Entry) (valid : IsOffice office) (are : AreRows span office rows) where
  found_key : (key : ObsKey) (xs : List Entry) (row : Entry) → At (observation_numbers key) xs ≡ Some row → row.0 ≡ key
  found_key key xs row is = one_observation_key row.0 key (some_found (λ x. true) xs row (observation_numbers key) is)

  -- a place of which the extract says something is one of its own
  of-extract : (key : ObsKey) (row : Entry) → At (observation_numbers key) rows ≡ Some row → is_of_extract span rows key ≡ true
  of-extract key row is =
      let place = found_key key rows row is in
      let itself = (and_parts (is_same_monitor key.monitor key.monitor) (key.hour == key.hour) (key_itself key)).0 in
      let named = any-of_found (λ x. is_same (observation_rank x) (observation_numbers key)) (is_of_monitor key.monitor) rows row is (ap (λ (k : ObsKey). is_same_monitor k.monitor key.monitor) place ∙ itself) in
      let a_row = found_passes (λ x. is_same (observation_rank x) (observation_numbers key)) (is_row span office) rows row are.each is in
      let day = (and_parts (fits_monitors office row && is_some row.1.method) (is_in_span span row.0.hour) a_row).1 in
      and_from (names rows key.monitor) (is_in_span span key.hour) named (sym (ap (λ (k : ObsKey). is_in_span span k.hour) place) ∙ day)

  abbrev Stood : ObsKey → Option Entry → Option Entry → Type 0
  Stood key r o =
      option_map content_of (option_or r (o >>= λ row. cond (not (is_of_extract span rows row.0)) (Some row) None))
      ≡ cond (is_of_extract span rows key) (option_map content_of r) (option_map content_of o)

  stood : (key : ObsKey) (r o : Option Entry) → At (observation_numbers key) rows ≡ r → At (observation_numbers key) office.observations ≡ o → Stood key r o
  stood key None None e f = neither (is_of_extract span rows key)
    where
      neither : (b : Bool) → ◌≡◌ {A = Option Observation} None (cond b None None)
      neither true = refl
      neither false = refl
  stood key None (Some row) e f =
      ap (λ (k : ObsKey). option_map content_of (cond (not (is_of_extract span rows k)) (Some row) None)) (found_key key office.observations row f)
      ∙ either (is_of_extract span rows key)
    where
      either : (b : Bool) → option_map content_of (cond (not b) (Some row) None) ≡ cond b None (Some row.1)
      either true = refl
      either false = refl
  stood key (Some row) o e f = sym (ap (λ b. cond b (Some row.1) (option_map content_of o)) (of-extract key row e))

  pub stands : (key : ObsKey) → observation_at (updated_office span office rows) key ≡ wanted_at span office rows key
  stands key =
      ap (option_map content_of) (at-updated span office rows valid are (observation_numbers key))
      ∙ stood key (At (observation_numbers key) rows) (At (observation_numbers key) office.observations) refl refl

  -- ---- the same extract again

  said_stands : (row : Entry) → Stands observation_rank rows row → observation_at (updated_office span office rows) row.0 ≡ Some row.1
  said_stands row is =
      stands row.0
      ∙ ap (λ b. cond b (option_map content_of (says rows row.0)) (observation_at office row.0)) (of-extract row.0 row is)
      ∙ ap (option_map content_of) is

  not_changed : (row : Entry) → Stands observation_rank rows row → is_changed (updated_office span office rows) row ≡ false
  not_changed row is =
      ap (λ (o : Option Observation). option_map_or (λ content. not (is_same_content content row.1)) o false) (said_stands row is)
      ∙ ap not (content-itself row.1)

  not_dropped : (row : Entry) → Stands observation_rank (updated span office rows) row → is_dropped span rows row ≡ false
  not_dropped row is = by_place (is_of_extract span rows row.0) (says rows row.0) (sym (ap is_some (stands row.0)) ∙ ap (λ (o : Option Entry). is_some (option_map content_of o)) is)
    where
      by_place : (b : Bool) (o : Option Entry) → is_some (cond b (option_map content_of o) (observation_at office row.0)) ≡ true → (b && is_none o) ≡ false
      by_place true (Some found) h = refl
      by_place true None h = absurd (false≢true h)
      by_place false o h = refl

  no_changes : change_values span (updated_office span office rows) rows ≡ []
  unfolding change_values
  no_changes =
      let now = updated_office span office rows in
      let own = own-rows observation_rank rows are.rising in
      let gone = filter-none (Stands observation_rank now.observations) (is_dropped span rows) not_dropped now.observations (own-rows observation_rank now.observations (updated-rises span office rows valid are)) in
      let other = filter-none (Stands observation_rank rows) (is_changed now) not_changed rows own in
      let fresh = filter-none (Stands observation_rank rows) (is_new now) (λ row is. ap is_none (said_stands row is)) rows own in
      λ i. map deletion_of (gone i) ++ map (put_of true now) (other i) ++ map (put_of false now) (fresh i)

  pub again : (body : List ℕ) → extract_of span office body ≡ Says rows → changes_answer span (updated_office span office rows) body ≡ OfLines []
  unfolding changes_answer
  again body is =
      ap (answer_for span (updated_office span office rows)) (extract-same span office body (updated span office rows) ∙ is)
      ∙ ap (λ values. OfLines (flat_map change_text values)) no_changes
