-- What the names of a whole database say of which tables are missing.
use Rattle.std.proofs.Common.{◌≡◌, ◌&&◌, ◌||◌, ◌==◌, not, List, [], ◌∷◌, ◌++◌, length, Bool, true, false, Some, is_some, IsTrue, refl, sym, ap, subst, ◌∙◌, slice_get, arith}
use Rattle.std.specs.List.{list_any}
use Rattle.std.proofs.lemmas.Bool.{false≢true, not-false, eqb-true, or_parts, and_left, and_right, and_from, or_left, or_right, or_from, not_from_true, not_from_false}
use Rattle.sqlite.specs.Schema.{Schema}
use Rattle.sqlite.specs.Table.{Table}
use Rattle.sqlite.specs.Effect.{Database}
use Rattle.aq_tables.specs.declared.missing.Missing.{Missing}
use Rattle.aq_tables.specs.Forms.{Form, table_of, records_form, observations_form, loads_form, second_form, third_form}
use Rattle.aq_rules.specs.Kept.Rows as the_rows
use Rattle.aq_tables.specs.All.{rows_in}
use Rattle.aq_tables.specs.Made.{AreMissing, AreThere, IsMade, IsMissing, IsThere, has_tables, has_view, is_named, is_whole}
use Rattle.aq_tables.specs.Told.{Reads, told, records, observations, loads, second, third}
use Rattle.aq_tables.proofs.Extending.{rows_missing}
use Rattle.aq_tables.proofs.OneTable.{rows_in-is}
use Rattle.aq_tables.proofs.LeftAlone.{leaves_here}
use Rattle.aq_tables.proofs.Moved.{is_none, is_there, may_have}

no_truth : IsTrue false → ⊥
no_truth h = absurd (false≢true h)

-- whether a name stands for a table, by whether that is missing
named_if : (missing : Bool) (schema : Schema) (form : Form) → IsMissing missing schema form → is_named schema form ≡ not missing
named_if true schema form none = ap is_some none
named_if false schema form has = ap is_some has.formed.stands.has.named

not_not : (b : Bool) → not (not b) ≡ b
not_not true = refl
not_not false = refl

-- the same tests, of what is missing
abbrev before_by : Missing → Bool
before_by m = not m.records && not m.observations && not m.loads && m.third

abbrev today_by : Missing → Bool
today_by m = not m.records && not m.loads && not m.third && m.second

module _ (m : Missing) (schema : Schema) (are : AreMissing m schema) where
  abbrev nobody : Bool
  nobody = not (has_tables schema) && not (has_view schema)

  abbrev former : Bool
  former = before_by m && not (has_view schema)

  whole_is : is_whole schema ≡ (nobody || former || today_by m)
  whole_is =
      let r = named_if m.records schema records_form are.of_records in
      let o = named_if m.observations schema observations_form are.of_observations in
      let l = named_if m.loads schema loads_form are.of_loads in
      let s = ap not (named_if m.second schema second_form are.of_second) ∙ not_not m.second in
      let t = named_if m.third schema third_form are.of_third in
      let n = ap not t ∙ not_not m.third in
      λ i. (not (has_tables schema) && not (has_view schema)) || (r i && o i && l i && n i && not (has_view schema)) || (r i && l i && t i && s i)

  pub whole_today : today_by m ≡ true → is_whole schema ≡ true
  whole_today today = whole_is ∙ or_right (nobody || former) (today_by m) today

  pub whole_viewed : today_by m ≡ false → has_view schema ≡ true → is_whole schema ≡ false
  whole_viewed today view =
      let shut = not_from_true (has_view schema) view in
      whole_is ∙ or_from (nobody || former) (today_by m) (or_from nobody former (and_right (not (has_tables schema)) (not (has_view schema)) shut) (and_right (before_by m) (not (has_view schema)) shut)) today

  pub whole_empty : has_view schema ≡ false → has_tables schema ≡ false → is_whole schema ≡ true
  whole_empty view tables =
      whole_is ∙ or_left (nobody || former) (today_by m) (or_left nobody former (and_from (not (has_tables schema)) (not (has_view schema)) (not_from_false (has_tables schema) tables) (not_from_false (has_view schema) view)))

  pub whole_before : today_by m ≡ false → has_view schema ≡ false → has_tables schema ≡ true → is_whole schema ≡ before_by m
  whole_before today view tables =
      let none = and_left (not (has_tables schema)) (not (has_view schema)) (not_from_true (has_tables schema) tables) in
      let free = not_from_false (has_view schema) view in
      whole_is ∙ (λ i. none i || (before_by m && free i) || today i) ∙ alone (before_by m)
    where
      alone : (b : Bool) → (false || (b && true) || false) ≡ b
      alone true = refl
      alone false = refl

-- where there is no table at all each of ours is missing
none_at_all : (schema : Schema) (form : Form) (missing : Bool) → has_tables schema ≡ false → IsMissing missing schema form → missing ≡ true
none_at_all schema form true bare h = refl
none_at_all schema form false bare h = absurd (go schema.tables bare h.formed.stands.has.stands)
  where
    go : (ts : List Table) → (not (length ts == 0) || list_any (λ v. is_some v.foreign) schema.views) ≡ false → slice_get ts h.formed.at ≡ Some (table_of form h.formed.tree) → ⊥
    go [] none is = absurd cc
    go (t ∷ ts) none is =
        let test = or_parts (not (length (t ∷ ts) == 0)) (list_any (λ v. is_some v.foreign) schema.views) none in
        let empty : length (t ∷ ts) ≡ 0 = eqb-true (length (t ∷ ts)) 0 (not-false (length (t ∷ ts) == 0) test.0) in
        absurd (omega arith)

-- a database of nobody lacks both; one of before has both
pub both_or_none : (missing : Missing) (schema : Schema) → AreMissing missing schema → IsTrue (is_whole schema) → missing.third ≡ true → missing.loads ≡ missing.records
both_or_none m schema are whole gone =
    go m.records m.observations m.loads m.third m.second (has_tables schema) (has_view schema) gone (subst IsTrue (whole_is m schema are) whole)
    (λ bare. (none_at_all schema records_form m.records bare are.of_records, none_at_all schema loads_form m.loads bare are.of_loads))
  where
    go : (r o l t s tables view : Bool) → t ≡ true → IsTrue ((not tables && not view) || (not r && not o && not l && t && not view) || (not r && not l && not t && s)) → (tables ≡ false → (r ≡ true) × (l ≡ true)) → l ≡ r
    go true o true t s tables view is w none = refl
    go false o false t s tables view is w none = refl
    go true o false t s false view is w none = absurd (false≢true (none refl).1)
    go true o false t s true view is w none = absurd (no_truth w)
    go false o true t s false view is w none = absurd (false≢true (none refl).0)
    go false true true t s true view is w none = absurd (no_truth w)
    go false false true t s true view is w none = absurd (no_truth w)

-- where `observations3` stands all is as it has to be
pub here_already : (missing : Missing) (db : Database) → missing.third ≡ false → IsTrue (is_whole db.schema) → AreMissing missing db.schema → AreThere missing db → IsMade db db
here_already m db stands whole are there =
    let is = go m.records m.observations m.loads m.third m.second (has_tables db.schema) (has_view db.schema) stands (subst IsTrue (whole_is m db.schema are) whole) (λ bare. none_at_all db.schema third_form m.third bare are.of_third) in
    record {
      tables = record {
        of_records = is_there m.records records db is.0 there.of_records;
        of_observations = may_have m.observations observations db there.of_observations;
        of_loads = is_there m.loads loads db is.1 there.of_loads;
        of_third = is_there m.third third db stands there.of_third;
        no_second = is_none m.second second db is.2 there.of_second;
      };
      tells = refl;
      others = leaves_here db (is_none m.second second db is.2 there.of_second);
      sound = λ h. h;
    }
  where
    go : (r o l t s tables view : Bool) → t ≡ false → IsTrue ((not tables && not view) || (not r && not o && not l && t && not view) || (not r && not l && not t && s)) → (tables ≡ false → t ≡ true) → (r ≡ false) × (l ≡ false) × (s ≡ true)
    go r o l true s tables view is w none = absurd (false≢true (sym is))
    go r o l false s false view is w none = absurd (false≢true (none refl))
    go true o l false s true view is w none = absurd (no_truth w)
    go false true true false s true view is w none = absurd (no_truth w)
    go false false true false s true view is w none = absurd (no_truth w)
    go false true false false false true view is w none = absurd (no_truth w)
    go false false false false false true view is w none = absurd (no_truth w)
    go false o false false true true view is w none = (refl, refl, refl)

-- ---- the rows of the table of before

pub none_before : (missing : Bool) (db : Database) (start : List the_rows.Row) → missing ≡ true → start ≡ [] → IsThere missing second db → start ≡ rows_in second db
none_before missing db start is none there = none ∙ sym (rows_missing second db (is_none missing second db is there))

pub read_before : (missing : Bool) (db : Database) (start found : List the_rows.Row) → missing ≡ false → start ≡ [] → IsThere missing second db → Reads second db start found → found ≡ rows_in second db
read_before missing db start found stands none there reads =
    let it = is_there missing second db stands there in
    reads it.at it.tree it.has ∙ ap (λ (l : List the_rows.Row). l ++ told second (db.trees it.tree)) none ∙ sym (rows_in-is second db it.at it.tree it.has)
