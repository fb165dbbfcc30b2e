-- A sheet that was read by the names of a kind has these names, so that its page finds the same kind.
use Rattle.std.proofs.Common.{◌≡◌, ℕ, Bool, true, false, cond, List, [], ◌∷◌, length, take, drop, Option, Some, None, is_some, refl, sym, ◌∙◌, ap, subst}
use Rattle.std.specs.Prelude.{bytes_eq, find, option_map, take_while, unwrap_or}
use Rattle.std.proofs.lemmas.Bool.{and_parts}
use Rattle.std.proofs.lemmas.Slice.Eq.{bytes_eq-Decides}
use Rattle.aq_pages.specs.Sheets.{Line, PageSheet, is_head, is_word}
use Rattle.aq_pages.specs.Kinds.{SheetKind, has_names, kind_named, kind_of, kinds, names_of, other_kind, same_words}
use Rattle.aq_pages.specs.Numbers.{word_at}
use Rattle.airdv_page.specs.Reading.{are_heads, cut, first_sheet, is_row, or_else, sheet_as, sheet_at, with_table}

-- ---- names that are the same

same-is : (names words : List (List ℕ)) → same_words names words ≡ true → words ≡ names
same-is [] [] h = refl
same-is [] (word ∷ words) h = cc
same-is (name ∷ names) [] h = cc
same-is (name ∷ names) (word ∷ words) h =
    let parts = and_parts (bytes_eq name word) (same_words names words) h in
    let first : name ≡ word = (bytes_eq-Decides name word).0 parts.0 in
    let rest : words ≡ names = same-is names words parts.1 in
    cc

same-itself : (names : List (List ℕ)) → same_words names names ≡ true
same-itself [] = refl
same-itself (name ∷ names) =
    let first : bytes_eq name name ≡ true = (bytes_eq-Decides name name).1 refl in rw (first, same-itself names) refl

-- ---- the names of a sheet that was read

heads-named : (names : List (List ℕ)) (lines : List Line) → are_heads names lines ≡ true → names_of (take (length names) lines) ≡ names
unfolding word_at
heads-named [] lines h = refl
heads-named (name ∷ names) [] h = cc
heads-named (name ∷ names) ([] ∷ lines) h = cc
heads-named (name ∷ names) ((word ∷ []) ∷ lines) h = cc
heads-named (name ∷ names) ((word ∷ value ∷ []) ∷ lines) h =
    let parts = and_parts (is_head name (word ∷ value ∷ [])) (are_heads names lines) h in
    let both = and_parts (bytes_eq word name) (is_word value) parts.0 in
    let first : word ≡ name = (bytes_eq-Decides word name).0 both.0 in
    let rest : names_of (take (length names) lines) ≡ names = heads-named names lines parts.1 in
    cc
heads-named (name ∷ names) ((word ∷ value ∷ more ∷ words) ∷ lines) h = cc

-- the parts of a sheet, if there is one
abbrev heads_in : Option PageSheet → List Line
heads_in sheet = unwrap_or (option_map (λ (s : PageSheet). s.heads) sheet) []

abbrev columns_in : Option PageSheet → Line
columns_in sheet = unwrap_or (option_map (λ (s : PageSheet). s.columns) sheet) []

record HasParts (sheet : PageSheet) (heads : List Line) (columns : Line) : Type 0 where
  heads_are : sheet.heads ≡ heads
  columns_are : sheet.columns ≡ columns

table-parts : (heads : List Line) (columns : List (List ℕ)) (lines : List Line) (sheet : PageSheet)
    → with_table heads columns lines ≡ Some sheet → HasParts sheet heads columns
unfolding with_table
table-parts heads [] lines sheet e = record { heads_are = ap heads_in (sym e); columns_are = ap columns_in (sym e) }
table-parts heads (name ∷ names) [] sheet e = cc
table-parts heads (name ∷ names) (line ∷ lines) sheet e = by (same_words (name ∷ names) line) refl e
  where
    found : Option PageSheet
    found = Some (record { heads = heads; columns = line; rows = take_while (is_row (length (name ∷ names))) lines })

    by : (b : Bool) → same_words (name ∷ names) line ≡ b → cond b found None ≡ Some sheet → HasParts sheet heads (name ∷ names)
    by true same is = record { heads_are = ap heads_in (sym is); columns_are = ap columns_in (sym is) ∙ same-is (name ∷ names) line same }
    by false same is = cc

-- a sheet with the names of a kind
record IsNamed (sheet : PageSheet) (heads columns : List (List ℕ)) : Type 0 where
  heads_named : names_of sheet.heads ≡ heads
  columns_named : sheet.columns ≡ columns

cut-named : (names columns : List (List ℕ)) (lines : List Line) (sheet : PageSheet) → cut names columns lines ≡ Some sheet → IsNamed sheet names columns
unfolding cut
cut-named names columns lines sheet e = by (are_heads names lines) refl e
  where
    by : (b : Bool) → are_heads names lines ≡ b → cond b (with_table (take (length names) lines) columns (drop (length names) lines)) None ≡ Some sheet
        → IsNamed sheet names columns
    by true are is =
        let parts = table-parts (take (length names) lines) columns (drop (length names) lines) sheet is in
        record { heads_named = ap names_of parts.heads_are ∙ heads-named names lines are; columns_named = parts.columns_are }
    by false are is = cc

-- ---- the kind by which it was read

record IsReadAs (lines : List Line) (sheet : PageSheet) (kind : SheetKind) : Type 0 where
  read : sheet_as kind lines ≡ Some sheet
  named : IsNamed sheet kind.heads kind.columns

read-named : (lines : List Line) (sheet : PageSheet) (kind : SheetKind) → sheet_as kind lines ≡ Some sheet → IsReadAs lines sheet kind
unfolding sheet_as
read-named lines sheet kind e = record { read = e; named = cut-named kind.heads kind.columns lines sheet e }

record IsRead (lines : List Line) (sheet : PageSheet) : Type 0 where
  kind : SheetKind
  read_as : IsReadAs lines sheet kind

first-read : (some : List SheetKind) (lines : List Line) (sheet : PageSheet) → first_sheet some lines ≡ Some sheet → IsRead lines sheet
first-read [] lines sheet e = cc
first-read (kind ∷ some) lines sheet e = by (sheet_as kind lines) refl e (first-read some lines sheet)
  where
    by : (one : Option PageSheet) → sheet_as kind lines ≡ one → or_else one (first_sheet some lines) ≡ Some sheet
        → (first_sheet some lines ≡ Some sheet → IsRead lines sheet) → IsRead lines sheet
    by None none is rest = rest is
    by (Some other) one is rest = record { kind = kind; read_as = read-named lines sheet kind (one ∙ is) }

-- a sheet that has the names of another kind could have been read as that one
abbrev has_its_names : PageSheet → SheetKind → Bool
has_its_names sheet kind = has_names (names_of sheet.heads) sheet.columns kind

read-too : (lines : List Line) (sheet : PageSheet) → IsRead lines sheet → (other : SheetKind) → has_its_names sheet other ≡ true → sheet_as other lines ≡ Some sheet
unfolding has_names sheet_as
read-too lines sheet is other h =
    let parts = and_parts (same_words other.heads (names_of sheet.heads)) (same_words other.columns sheet.columns) h in
    let heads : is.kind.heads ≡ other.heads = sym is.read_as.named.heads_named ∙ same-is other.heads (names_of sheet.heads) parts.0 in
    let columns : is.kind.columns ≡ other.columns = sym is.read_as.named.columns_named ∙ same-is other.columns sheet.columns parts.1 in
    subst (λ (names : List (List ℕ)). cut names other.columns lines ≡ Some sheet) heads
    (subst (λ (names : List (List ℕ)). cut is.kind.heads names lines ≡ Some sheet) columns is.read_as.read)

has-its-names : (lines : List Line) (sheet : PageSheet) (kind : SheetKind) → IsReadAs lines sheet kind → has_its_names sheet kind ≡ true
unfolding has_names
has-its-names lines sheet kind is =
    rw (is.named.heads_named, is.named.columns_named, same-itself kind.heads, same-itself kind.columns) refl

-- ---- the first kind that fits is the first whose names the sheet has

abbrev fits : List Line → SheetKind → Bool
fits lines kind = is_some (sheet_as kind lines)

same-first : (some : List SheetKind) (lines : List Line) (sheet : PageSheet) → first_sheet some lines ≡ Some sheet
    → find (fits lines) some ≡ Some (unwrap_or (find (has_its_names sheet) some) other_kind)
same-first [] lines sheet e = cc
same-first (kind ∷ some) lines sheet e = by (sheet_as kind lines) refl e (has_its_names sheet kind) refl (same-first some lines sheet) (first-read some lines sheet)
  where
    by : (one : Option PageSheet) → sheet_as kind lines ≡ one → or_else one (first_sheet some lines) ≡ Some sheet
        → (b : Bool) → has_its_names sheet kind ≡ b
        → (first_sheet some lines ≡ Some sheet → find (fits lines) some ≡ Some (unwrap_or (find (has_its_names sheet) some) other_kind))
        → (first_sheet some lines ≡ Some sheet → IsRead lines sheet)
        → cond (is_some one) (Some kind) (find (fits lines) some) ≡ Some (unwrap_or (cond b (Some kind) (find (has_its_names sheet) some)) other_kind)
    by None none is false b rest read = rest is
    by None none is true b rest read = let too : sheet_as kind lines ≡ Some sheet = read-too lines sheet (read is) kind b in cc
    by (Some other) one is true b rest read = refl
    by (Some other) one is false b rest read =
        let itself : has_its_names sheet kind ≡ true = has-its-names lines sheet kind (read-named lines sheet kind (one ∙ is)) in cc

none-fits : (some : List SheetKind) (lines : List Line) → first_sheet some lines ≡ None → find (fits lines) some ≡ None
none-fits [] lines e = refl
none-fits (kind ∷ some) lines e = by (sheet_as kind lines) refl e (none-fits some lines)
  where
    by : (one : Option PageSheet) → sheet_as kind lines ≡ one → or_else one (first_sheet some lines) ≡ None
        → (first_sheet some lines ≡ None → find (fits lines) some ≡ None) → cond (is_some one) (Some kind) (find (fits lines) some) ≡ None
    by None none is rest = rest is
    by (Some other) one is rest = cc

pub read-as-drawn : (lines : List Line) → find (fits lines) kinds ≡ option_map kind_of (sheet_at lines)
unfolding sheet_at kind_named
read-as-drawn lines = by (first_sheet kinds lines) refl
  where
    by : (sheet : Option PageSheet) → first_sheet kinds lines ≡ sheet → find (fits lines) kinds ≡ option_map kind_of sheet
    by None is = none-fits kinds lines is
    by (Some sheet) is = same-first kinds lines sheet is
