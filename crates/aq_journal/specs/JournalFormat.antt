-- A journal as bytes, both ways: the bytes of a list of batches, and the batches of a file, if it is a journal (own).
use Rattle.std.specs.Prelude.{◌≡◌, ◌≢◌, Bool, true, false, ℕ, zero, suc, ◌<◌, ◌^◌, ◌==◌, nat_lt, nat_le, bytes_eq, if◌then◌else◌, ℤ, List, [], ◌∷◌, ◌++◌, length, take, drop, fold, codes, Option, Some, None, IfSome}
use Rattle.std.specs.Option.{option_map}
use Rattle.std.specs.List.{flat_map, AllByRecursion}
use Rattle.std.specs.Int.{w32, w64, to_be_bytes, from_be_bytes, cast_signed, cast_unsigned}
use Rattle.std.specs.Int.RustNames.{FitsSigned}
use Rattle.aq_rules.specs.Lines.Fields.{is_empty}
use Rattle.aq_rules.specs.Lines.Spellings.{◌>>=◌}
use Rattle.aq_rules.specs.Kept.Rows.{Row, OfficeRow, ObsRow, ObsRow2, LoadRow, OfOfficeRow, OfObsRow, OfLoadRow, OfSecondRow}
use Rattle.aq_rules.specs.Kept.RowChanges.{RowKey, OfficeRowKey, ObsRowKey, LoadRowKey, SecondRowKey, RowChange, PutRow, DropRow, with_row_changes}

-- ---- fields: a whole number, one that may be missing, and bytes

pub data Kind : Type 0 where
  Whole Optional Bytes : Kind

abbrev pub Value : Kind → Type 0
Value Whole = ℤ
Value Optional = Option ℤ
Value Bytes = List ℕ

-- a form is the kinds of its fields in order
abbrev pub Values : List Kind → Type 0
Values [] = Unit {0}
Values (kind ∷ kinds) = Value kind × Values kinds

-- ---- the fields of the rows and keys of each table, in order

abbrev pub record_form : List Kind
record_form = Whole ∷ Bytes ∷ Bytes ∷ []

abbrev pub record_values : OfficeRow → Values record_form
record_values row = (row.kind, (row.key, (row.line, tt)))

abbrev pub record_with : Values record_form → OfficeRow
record_with v = record { kind = v.0; key = v.1.0; line = v.1.1.0 }

abbrev pub observation_form : List Kind
observation_form = Whole ∷ Whole ∷ Whole ∷ Whole ∷ Optional ∷ Bytes ∷ Bytes ∷ []

abbrev pub observation_values : ObsRow → Values observation_form
observation_values row = (row.site, (row.pollutant, (row.poc, (row.hour, (row.value, (row.null, (row.quals, tt)))))))

abbrev pub observation_with : Values observation_form → ObsRow
observation_with v = record { site = v.0; pollutant = v.1.0; poc = v.1.1.0; hour = v.1.1.1.0; value = v.1.1.1.1.0; null = v.1.1.1.1.1.0; quals = v.1.1.1.1.1.1.0 }

abbrev pub load_form : List Kind
load_form = Whole ∷ Bytes ∷ Whole ∷ Whole ∷ Bytes ∷ Bytes ∷ []

abbrev pub load_values : LoadRow → Values load_form
load_values row = (row.number, (row.digest, (row.lines, (row.accepted, (row.listed, (row.rest, tt))))))

abbrev pub load_with : Values load_form → LoadRow
load_with v = record { number = v.0; digest = v.1.0; lines = v.1.1.0; accepted = v.1.1.1.0; listed = v.1.1.1.1.0; rest = v.1.1.1.1.1.0 }

abbrev pub second_form : List Kind
second_form = Whole ∷ Whole ∷ Whole ∷ Whole ∷ Optional ∷ Optional ∷ Bytes ∷ Bytes ∷ []

abbrev pub second_values : ObsRow2 → Values second_form
second_values row = (row.site, (row.pollutant, (row.poc, (row.hour, (row.value, (row.method, (row.null, (row.quals, tt))))))))

abbrev pub second_with : Values second_form → ObsRow2
second_with v = record { site = v.0; pollutant = v.1.0; poc = v.1.1.0; hour = v.1.1.1.0; value = v.1.1.1.1.0; method = v.1.1.1.1.1.0; null = v.1.1.1.1.1.1.0; quals = v.1.1.1.1.1.1.1.0 }

abbrev pub record_key_form : List Kind
record_key_form = Whole ∷ Bytes ∷ []

abbrev pub load_key_form : List Kind
load_key_form = Whole ∷ []

-- of both tables of observations
abbrev pub hour_key_form : List Kind
hour_key_form = Whole ∷ Whole ∷ Whole ∷ Whole ∷ []

-- ---- fields as bytes: the most significant byte first

-- in four bytes
unfoldable pub count_bytes : ℕ → List ℕ
count_bytes n = to_be_bytes w32 n

-- in eight bytes, a negative one as its two's complement
unfoldable pub whole_bytes : ℤ → List ℕ
whole_bytes n = to_be_bytes w64 (cast_unsigned w64 n)

-- a flag, and the number if there is one
abbrev pub optional_bytes : Option ℤ → List ℕ
optional_bytes None = 0 ∷ []
optional_bytes (Some n) = 1 ∷ whole_bytes n

-- their length, and they
abbrev pub sized : List ℕ → List ℕ
sized bytes = count_bytes (length bytes) ++ bytes

abbrev pub field_bytes : (kind : Kind) → Value kind → List ℕ
field_bytes Whole n = whole_bytes n
field_bytes Optional n = optional_bytes n
field_bytes Bytes bytes = sized bytes

abbrev pub fields_bytes : (kinds : List Kind) → Values kinds → List ℕ
fields_bytes [] values = []
fields_bytes (kind ∷ kinds) values = field_bytes kind values.0 ++ fields_bytes kinds values.1

-- ---- changes as bytes

-- the number of a row's table, and its fields
abbrev pub row_bytes : Row → List ℕ
row_bytes (OfOfficeRow row) = 0 ∷ fields_bytes record_form (record_values row)
row_bytes (OfObsRow row) = 1 ∷ fields_bytes observation_form (observation_values row)
row_bytes (OfLoadRow row) = 2 ∷ fields_bytes load_form (load_values row)
row_bytes (OfSecondRow row) = 3 ∷ fields_bytes second_form (second_values row)

abbrev pub key_bytes : RowKey → List ℕ
key_bytes (OfficeRowKey kind key) = 0 ∷ fields_bytes record_key_form (kind, (key, tt))
key_bytes (ObsRowKey site pollutant poc hour) = 1 ∷ fields_bytes hour_key_form (site, (pollutant, (poc, (hour, tt))))
key_bytes (LoadRowKey number) = 2 ∷ fields_bytes load_key_form (number, tt)
key_bytes (SecondRowKey site pollutant poc hour) = 3 ∷ fields_bytes hour_key_form (site, (pollutant, (poc, (hour, tt))))

-- 0 for a row that is put, 1 for a key that is dropped
abbrev pub change_bytes : RowChange → List ℕ
change_bytes (PutRow row) = 0 ∷ row_bytes row
change_bytes (DropRow key) = 1 ∷ key_bytes key

-- how many changes, and they
abbrev pub body_of : List RowChange → List ℕ
body_of batch = count_bytes (length batch) ++ flat_map change_bytes batch

-- an open gate, the length of the body, and the body
abbrev pub frame_of : List RowChange → List ℕ
frame_of batch = 1 ∷ sized (body_of batch)

abbrev pub header : List ℕ
header = codes "AIRDVJ01"

abbrev pub frames_of : List (List RowChange) → List ℕ
frames_of batches = flat_map frame_of batches

-- the header, the frames, a gate that is not open, and whatever follows it
abbrev pub journal_of : List (List RowChange) → ℕ → List ℕ → List ℕ
journal_of batches gate rest = (header ++ frames_of batches) ++ gate ∷ rest

-- ---- what has bytes

abbrev pub FieldFits : (kind : Kind) → Value kind → Type 0
FieldFits Whole n = FitsSigned w64 n
FieldFits Optional n = IfSome n (λ whole. FitsSigned w64 whole)
FieldFits Bytes bytes = length bytes < 2 ^ 32

abbrev pub FieldsFit : (kinds : List Kind) → Values kinds → Type 0
FieldsFit [] values = Unit {0}
FieldsFit (kind ∷ kinds) values = FieldFits kind values.0 × FieldsFit kinds values.1

abbrev pub RowFits : Row → Type 0
RowFits (OfOfficeRow row) = FieldsFit record_form (record_values row)
RowFits (OfObsRow row) = FieldsFit observation_form (observation_values row)
RowFits (OfLoadRow row) = FieldsFit load_form (load_values row)
RowFits (OfSecondRow row) = FieldsFit second_form (second_values row)

abbrev pub KeyFits : RowKey → Type 0
KeyFits (OfficeRowKey kind key) = FieldsFit record_key_form (kind, (key, tt))
KeyFits (ObsRowKey site pollutant poc hour) = FieldsFit hour_key_form (site, (pollutant, (poc, (hour, tt))))
KeyFits (LoadRowKey number) = FieldsFit load_key_form (number, tt)
KeyFits (SecondRowKey site pollutant poc hour) = FieldsFit hour_key_form (site, (pollutant, (poc, (hour, tt))))

abbrev pub ChangeFits : RowChange → Type 0
ChangeFits (PutRow row) = RowFits row
ChangeFits (DropRow key) = KeyFits key

pub record BatchFits (batch : List RowChange) : Type 0 where
  pub count : length batch < 2 ^ 32
  pub changes : AllByRecursion ChangeFits batch
  pub size : length (body_of batch) < 2 ^ 32

-- a file is a journal of these batches
pub record IsJournalOf (file : List ℕ) (batches : List (List RowChange)) : Type 0 where
  pub gate : ℕ
  pub rest : List ℕ
  pub whole : file ≡ journal_of batches gate rest
  pub shut : gate ≢ 1
  pub fits : AllByRecursion BatchFits batches

-- ---- fields as they are read: the value, and the bytes behind it

unfoldable pub count_at : List ℕ → Option (ℕ × List ℕ)
count_at bytes = if nat_lt (length bytes) 4 then None else Some (from_be_bytes w32 (take 4 bytes), drop 4 bytes)

unfoldable pub whole_at : List ℕ → Option (ℤ × List ℕ)
whole_at bytes = if nat_lt (length bytes) 8 then None else Some (cast_signed w64 (from_be_bytes w64 (take 8 bytes)), drop 8 bytes)

abbrev pub some_at : List ℕ → Option (Option ℤ × List ℕ)
some_at bytes = do
  n ← whole_at bytes
  Some (Some n.0, n.1)

-- a flag other than 0 and 1 is none
unfoldable pub optional_at : List ℕ → Option (Option ℤ × List ℕ)
optional_at [] = None
optional_at (flag ∷ bytes) = if flag == 0 then Some (None, bytes) else (if flag == 1 then some_at bytes else None)

unfoldable pub sized_at : List ℕ → Option (List ℕ × List ℕ)
sized_at bytes = do
  size ← count_at bytes
  if nat_lt (length size.1) size.0 then None else Some (take size.0 size.1, drop size.0 size.1)

abbrev pub field_at : (kind : Kind) → List ℕ → Option (Value kind × List ℕ)
field_at Whole bytes = whole_at bytes
field_at Optional bytes = optional_at bytes
field_at Bytes bytes = sized_at bytes

unfoldable pub fields_at : (kinds : List Kind) → List ℕ → Option (Values kinds × List ℕ)
fields_at [] bytes = Some (tt, bytes)
fields_at (kind ∷ kinds) bytes = do
  field ← field_at kind bytes
  others ← fields_at kinds field.1
  Some ((field.0, others.0), others.1)

-- ---- changes as they are read

abbrev pub with_value : {A B : Type 0} → (A → B) → Option (A × List ℕ) → Option (B × List ℕ)
with_value make read = option_map (λ found. (make found.0, found.1)) read

abbrev pub record_at : List ℕ → Option (OfficeRow × List ℕ)
record_at bytes = with_value record_with (fields_at record_form bytes)

abbrev pub observation_at : List ℕ → Option (ObsRow × List ℕ)
observation_at bytes = with_value observation_with (fields_at observation_form bytes)

abbrev pub load_at : List ℕ → Option (LoadRow × List ℕ)
load_at bytes = with_value load_with (fields_at load_form bytes)

abbrev pub second_at : List ℕ → Option (ObsRow2 × List ℕ)
second_at bytes = with_value second_with (fields_at second_form bytes)

-- in the second table with a method
abbrev pub hour_in : Bool → List ℕ → Option (Row × List ℕ)
hour_in has_method bytes = if has_method then with_value OfSecondRow (second_at bytes) else with_value OfObsRow (observation_at bytes)

-- by the number of the table
unfoldable pub row_in : ℕ → List ℕ → Option (Row × List ℕ)
row_in table bytes =
    if table == 0 then with_value OfOfficeRow (record_at bytes)
    else (if table == 1 then hour_in false bytes
    else (if table == 2 then with_value OfLoadRow (load_at bytes)
    else (if table == 3 then hour_in true bytes
    else None)))

unfoldable pub key_in : ℕ → List ℕ → Option (RowKey × List ℕ)
key_in table bytes =
    if table == 0 then with_value (λ v. OfficeRowKey v.0 v.1.0) (fields_at record_key_form bytes)
    else (if table == 1 then with_value (λ v. ObsRowKey v.0 v.1.0 v.1.1.0 v.1.1.1.0) (fields_at hour_key_form bytes)
    else (if table == 2 then with_value (λ v. LoadRowKey v.0) (fields_at load_key_form bytes)
    else (if table == 3 then with_value (λ v. SecondRowKey v.0 v.1.0 v.1.1.0 v.1.1.1.0) (fields_at hour_key_form bytes)
    else None)))

unfoldable pub change_in : ℕ → ℕ → List ℕ → Option (RowChange × List ℕ)
change_in kind table bytes =
    if kind == 0 then with_value PutRow (row_in table bytes)
    else (if kind == 1 then with_value DropRow (key_in table bytes)
    else None)

unfoldable pub change_at : List ℕ → Option (RowChange × List ℕ)
change_at [] = None
change_at (kind ∷ []) = None
change_at (kind ∷ table ∷ bytes) = change_in kind table bytes

unfoldable pub changes_at : ℕ → List ℕ → Option (List RowChange × List ℕ)
changes_at zero bytes = Some ([], bytes)
changes_at (suc count) bytes = do
  change ← change_at bytes
  others ← changes_at count change.1
  Some (change.0 ∷ others.0, others.1)

-- all of the bytes
unfoldable pub batch_in : List ℕ → Option (List RowChange)
batch_in body = do
  count ← count_at body
  changes ← changes_at count.0 count.1
  if is_empty changes.1 then Some changes.0 else None

-- ---- a journal as it is read

-- the batches of the frames up to the first gate that is not open, of which there has to be one; no more than `most`
unfoldable pub frames_in : ℕ → List ℕ → Option (List (List RowChange))
frames_in zero bytes = None
frames_in (suc most) [] = None
frames_in (suc most) (gate ∷ bytes) =
    if gate == 1 then (sized_at bytes >>= (λ body. batch_in body.0 >>= (λ batch. option_map (λ others. batch ∷ others) (frames_in most body.1))))
    else Some []

-- a file of at most nine bytes is the empty journal; a longer one begins with the header
unfoldable pub batches_in : List ℕ → Option (List (List RowChange))
batches_in file =
    if nat_le (length file) 9 then Some []
    else (if bytes_eq (take 8 file) header then frames_in (length file) (drop 8 file) else None)

-- ---- the tables of a journal: its batches, one after the other

abbrev pub tables_of : List (List RowChange) → List Row
tables_of batches = fold with_row_changes [] batches

abbrev pub tables_in : List ℕ → Option (List Row)
tables_in file = option_map tables_of (batches_in file)
