-- The text of a sheet's JSON data is the sheet's JSON text.
use Rattle.std.proofs.Common.{◌≡◌, ℕ, ◌^◌, ◌<◌, Bool, true, false, cond, List, [], ◌∷◌, ◌++◌, length, map, fold, refl, sym, ap, subst, ◌∙◌, append_assoc, arith}
use Rattle.std.specs.Prelude.{ℤ, pos, negsuc, neg_ℤ, ◌≤ℤ◌, ◌<ℤ◌, int_le, int_lt, nat_lt, ◌==◌, ◌&&◌, ◌||◌, codes, unsigned_abs}
use Rattle.std.specs.Ordering.{nat_cmp, match_ordering, ordering_then}
use Rattle.std.specs.declared.cmp.Ordering.{Ordering}
use Rattle.std.specs.declared.cmp.Ordering.TheVariants.{Less, Equal, Greater}
use Rattle.std.specs.Cmp.Lexicographic.{slice_cmp}
use Rattle.std.specs.FinMap.{nat_cmp-IsAntisymmetric, slice_cmp-IsAntisymmetric}
use Rattle.std.specs.List.{list_all, join_with_byte}
use Rattle.std.proofs.lemmas.Bool.{and_from, and_parts}
use Rattle.std.proofs.lemmas.Bool.Decides.{nat_tests}
use Rattle.std.proofs.lemmas.Int.{ints}
use Rattle.json.specs.Print.{escape_byte, escape, print, quoted}
use Rattle.json.specs.Token.{Token}
use Rattle.serde_json.specs.Data.{Data, string, object, Members, no_members, member, put}
use Rattle.serde_json.specs.View.{items_of}
use Rattle.serde_json.specs.Written.{compact_text, items_text, members_text}
use Rattle.serde_json.proofs.Texts.{print-outline}
use Rattle.aq_base.specs.Decimal.{fixed}
use Rattle.aq_rules.specs.Office.Office.{comes_before, is_same, with_row}
use Rattle.aq_rules.specs.Shown.Sheet.{SheetCell, Head, Sheet}
use Rattle.aq_rules.specs.Shown.Sheet.SheetCell.{Int, Fixed, Text, Missing}
use Rattle.aq_rules.specs.Shown.Json.{Member, json_string, json_list, json_cell, json_member, head_member, json_of, table_members, members_of}
use Rattle.aq_rules.specs.Shown.WellFormed.{is_word_byte, is_word, is_whole, is_cell, is_head, is_row, IsWellFormed}
use Rattle.aq_sheets.specs.JsonView.{are_cells, data_of, list_of, row_of, tokens_of, with_heads, with_table}
use Rattle.aq_sheets.proofs.Words.{fixed-word}

-- ---- words are written as they are

plain-byte : (b : ℕ) → is_word_byte b ≡ true → escape_byte b ≡ b ∷ []
unfolding escape_byte
plain-byte b h =
    let least : (32 < b) = grind (arith, nat_tests) in
    let no_quote : (b == 34) ≡ false = grind (arith, nat_tests) in
    let no_slash : (b == 92) ≡ false = grind (arith, nat_tests) in
    let no_8 : (b == 8) ≡ false = grind (arith, nat_tests) in
    let no_12 : (b == 12) ≡ false = grind (arith, nat_tests) in
    let no_10 : (b == 10) ≡ false = grind (arith, nat_tests) in
    let no_13 : (b == 13) ≡ false = grind (arith, nat_tests) in
    let no_9 : (b == 9) ≡ false = grind (arith, nat_tests) in
    let no_control : nat_lt b 32 ≡ false = grind (arith, nat_tests) in
    rw (no_quote, no_slash, no_8, no_12, no_10, no_13, no_9, no_control) refl

plain-word : (s : List ℕ) → list_all is_word_byte s ≡ true → escape s ≡ s
plain-word [] h = refl
plain-word (b ∷ s) h =
    let parts = and_parts (is_word_byte b) (list_all is_word_byte s) h in
    ap (λ (first : List ℕ). first ++ escape s) (plain-byte b parts.0) ∙ ap (λ (rest : List ℕ). b ∷ rest) (plain-word s parts.1)

quoted-word : (s : List ℕ) → is_word s ≡ true → quoted s ≡ json_string s
quoted-word s h = ap (λ (text : List ℕ). 34 ∷ (text ++ 34 ∷ [])) (plain-word s (and_parts (nat_lt 0 (length s)) (list_all is_word_byte s) h).1)

-- ---- cells and lists

le-of : (x y : ℤ) → int_le x y ≡ true → x ≤ℤ y
le-of x y h = grind (arith, ints)

lt-of : (x y : ℤ) → int_lt x y ≡ true → x <ℤ y
lt-of x y h = grind (arith, ints)

whole-few : (v : ℤ) → is_whole v ≡ true → unsigned_abs v < 2 ^ 64
whole-few v h =
    let parts = and_parts (int_le (neg_ℤ (pos (2 ^ 63))) v) (int_lt v (pos (2 ^ 63))) h in
    let low = le-of (neg_ℤ (pos (2 ^ 63))) v parts.0 in
    let high = lt-of v (pos (2 ^ 63)) parts.1 in
    omega (arith, ints, low, high)

cell-text : (cell : SheetCell) → is_cell cell ≡ true → compact_text (data_of cell) ≡ json_cell cell
cell-text (Int (pos n)) h = refl
cell-text (Int (negsuc n)) h = refl
cell-text (Fixed v places) h = quoted-word (fixed v places) (fixed-word v places (whole-few v (and_parts (is_whole v) _ h).0))
cell-text (Text text) h = quoted-word text h
cell-text Missing h = refl

-- texts, each behind a comma
abbrev behind : List (List ℕ) → List ℕ
behind [] = []
behind (text ∷ texts) = 44 ∷ (text ++ behind texts)

join-first : (text : List ℕ) (texts : List (List ℕ)) → join_with_byte 44 (text ∷ texts) ≡ text ++ behind texts
join-first text [] = sym (append-nothing text)
  where
    append-nothing : (xs : List ℕ) → xs ++ [] ≡ xs
    append-nothing [] = refl
    append-nothing (x ∷ xs) = ap (λ (rest : List ℕ). x ∷ rest) (append-nothing xs)
join-first text (next ∷ texts) = ap (λ (rest : List ℕ). text ++ 44 ∷ rest) (join-first next texts)

items-later : (ds : List Data) → items_text true (items_of ds) ≡ behind (map compact_text ds) ++ 93 ∷ []
items-later [] = refl
items-later (d ∷ ds) =
    ap (λ (rest : List ℕ). 44 ∷ (compact_text d ++ rest)) (items-later ds)
    ∙ ap (λ (rest : List ℕ). 44 ∷ rest) (sym (append_assoc (compact_text d) (behind (map compact_text ds)) (93 ∷ [])))

list-text : (ds : List Data) → compact_text (list_of ds) ≡ json_list (map compact_text ds)
list-text [] = refl
list-text (d ∷ ds) =
    ap (λ (rest : List ℕ). 91 ∷ (compact_text d ++ rest)) (items-later ds)
    ∙ ap (λ (rest : List ℕ). 91 ∷ rest)
    (sym (append_assoc (compact_text d) (behind (map compact_text ds)) (93 ∷ [])) ∙ ap (λ (text : List ℕ). text ++ 93 ∷ []) (sym (join-first (compact_text d) (map compact_text ds))))

row-text : (row : List SheetCell) → list_all is_cell row ≡ true → map compact_text (map data_of row) ≡ map json_cell row
row-text [] h = refl
row-text (cell ∷ row) h =
    let parts = and_parts (is_cell cell) (list_all is_cell row) h in
    (λ i. cell-text cell parts.0 i ∷ row-text row parts.1 i)

rows-text : (rows : List (List SheetCell)) → are_cells rows ≡ true → map compact_text (map row_of rows) ≡ map (λ row. json_list (map json_cell row)) rows
rows-text [] h = refl
rows-text (row ∷ rows) h =
    let parts = and_parts (list_all is_cell row) (are_cells rows) h in
    (λ i. (list-text (map data_of row) ∙ ap json_list (row-text row parts.0)) i ∷ rows-text rows parts.1 i)

names-text : (names : List (List ℕ)) → list_all is_word names ≡ true → map compact_text (map string names) ≡ map json_string names
names-text [] h = refl
names-text (name ∷ names) h =
    let parts = and_parts (is_word name) (list_all is_word names) h in
    (λ i. quoted-word name parts.0 i ∷ names-text names parts.1 i)

-- ---- members

abbrev name_of : Member → List ℕ
name_of m = m.name

abbrev as_members : Members → List Member
as_members no_members = []
as_members (member k d ms) = record { name = k; value = compact_text d } ∷ as_members ms

abbrev names_plain : Members → Bool
names_plain no_members = true
names_plain (member k d ms) = is_word k && names_plain ms

-- a comparison picks what the tests of the book pick
same-choice : {X : Type 0} (k l : List ℕ) (a b c : X) → match_ordering (slice_cmp nat_cmp k l) a b c ≡ cond (comes_before k l) a (cond (is_same k l) b c)
same-choice [] [] a b c = refl
same-choice [] (y ∷ l) a b c = refl
same-choice (x ∷ k) [] a b c = refl
same-choice (x ∷ k) (y ∷ l) a b c = by_tests (nat_lt x y) (x == y) (same-choice k l a b c)
  where
    by_tests : (p q : Bool) → match_ordering (slice_cmp nat_cmp k l) a b c ≡ cond (comes_before k l) a (cond (is_same k l) b c)
        → match_ordering (ordering_then (cond p Less (cond q Equal Greater)) (slice_cmp nat_cmp k l)) a b c
        ≡ cond (p || (q && comes_before k l)) a (cond (q && is_same k l) b c)
    by_tests true q rest = refl
    by_tests false true rest = rest
    by_tests false false rest = refl

abbrev member_row : List ℕ → Data → Member
member_row k d = record { name = k; value = compact_text d }

put-row : (k : List ℕ) (d : Data) (ms : Members) → as_members (put k d ms) ≡ with_row name_of (member_row k d) (as_members ms)
put-row k d no_members = refl
put-row k d (member l e ms) =
    by_order (slice_cmp nat_cmp k l) refl (put-row k d ms) ∙ same-choice k l (member_row k d ∷ member_row l e ∷ as_members ms) (member_row k d ∷ as_members ms) (member_row l e ∷ with_row name_of (member_row k d) (as_members ms))
  where
    by_order : (o : Ordering) → slice_cmp nat_cmp k l ≡ o → as_members (put k d ms) ≡ with_row name_of (member_row k d) (as_members ms)
        → as_members (match_ordering o (member k d (member l e ms)) (member l d ms) (member l e (put k d ms)))
        ≡ match_ordering o (member_row k d ∷ member_row l e ∷ as_members ms) (member_row k d ∷ as_members ms) (member_row l e ∷ with_row name_of (member_row k d) (as_members ms))
    by_order Less h rest = refl
    by_order Equal h rest = ap (λ (name : List ℕ). member_row name d ∷ as_members ms) (sym (slice_cmp-IsAntisymmetric nat_cmp-IsAntisymmetric k l h))
    by_order Greater h rest = ap (λ (rows : List Member). member_row l e ∷ rows) rest

put-words : (k : List ℕ) (d : Data) (ms : Members) → is_word k ≡ true → names_plain ms ≡ true → names_plain (put k d ms) ≡ true
put-words k d no_members h hs = and_from (is_word k) true h refl
put-words k d (member l e ms) h hs = by_order (slice_cmp nat_cmp k l) (put-words k d ms h (and_parts (is_word l) (names_plain ms) hs).1)
  where
    by_order : (o : Ordering) → names_plain (put k d ms) ≡ true → names_plain (match_ordering o (member k d (member l e ms)) (member l d ms) (member l e (put k d ms))) ≡ true
    by_order Less rest = and_from (is_word k) (is_word l && names_plain ms) h hs
    by_order Equal rest = hs
    by_order Greater rest = and_from (is_word l) (names_plain (put k d ms)) (and_parts (is_word l) (names_plain ms) hs).0 rest

-- the members show these rows, and their names are words
pub record Shows (ms : Members) (rows : List Member) : Type 0 where
  pub same : as_members ms ≡ rows
  pub words : names_plain ms ≡ true

abbrev step : List Member → Member → List Member
step done m = with_row name_of m done

put-shows : (k : List ℕ) (d : Data) (text : List ℕ) (ms : Members) (rows : List Member) → is_word k ≡ true → compact_text d ≡ text
    → Shows ms rows → Shows (put k d ms) (step rows (record { name = k; value = text }))
put-shows k d text ms rows word is shows = record {
  same = put-row k d ms ∙ (λ i. with_row name_of (record { name = k; value = is i }) (shows.same i));
  words = put-words k d ms word shows.words;
}

heads-show : (heads : List Head) (ms : Members) (rows : List Member) → list_all is_head heads ≡ true → Shows ms rows
    → Shows (with_heads heads ms) (fold step rows (map head_member heads))
heads-show [] ms rows h shows = shows
heads-show (head ∷ heads) ms rows h shows =
    let parts = and_parts (is_head head) (list_all is_head heads) h in
    let own = and_parts (is_word head.name) (is_cell head.cell) parts.0 in
    heads-show heads (put head.name (data_of head.cell) ms) (step rows (head_member head)) parts.1
    (put-shows head.name (data_of head.cell) (json_cell head.cell) ms rows own.0 (cell-text head.cell own.1) shows)

table-shows : (columns : List (List ℕ)) (rows : List (List SheetCell)) (ms : Members) (members : List Member) → list_all is_word columns ≡ true → are_cells rows ≡ true → Shows ms members
    → Shows (with_table columns rows ms) (fold step members (table_members columns rows))
table-shows [] rows ms members h hs shows = shows
table-shows (column ∷ columns) rows ms members h hs shows =
    let names = list_of (map string (column ∷ columns)) in
    let table = list_of (map row_of rows) in
    put-shows (codes "rows") table (json_list (map (λ row. json_list (map json_cell row)) rows)) (put (codes "columns") names ms) _ refl
    (list-text (map row_of rows) ∙ ap json_list (rows-text rows hs))
    (put-shows (codes "columns") names (json_list (map json_string (column ∷ columns))) ms members refl
    (list-text (map string (column ∷ columns)) ∙ ap json_list (names-text (column ∷ columns) h)) shows)

both-show : (heads : List Head) (rest rows : List Member) → fold step rows (map head_member heads ++ rest) ≡ fold step (fold step rows (map head_member heads)) rest
both-show [] rest rows = refl
both-show (head ∷ heads) rest rows = both-show heads rest (step rows (head_member head))

-- ---- the text of an object

one-member : (k v rest more : List ℕ) → is_word k ≡ true → rest ≡ more ++ 125 ∷ []
    → quoted k ++ 58 ∷ (v ++ rest) ≡ (json_member (record { name = k; value = v }) ++ more) ++ 125 ∷ []
one-member k v rest more word is =
    (λ i. quoted-word k word i ++ 58 ∷ (v ++ is i)) ∙ in_order (json_string k)
  where
    in_order : (q : List ℕ) → q ++ 58 ∷ (v ++ (more ++ 125 ∷ [])) ≡ (((q ++ 58 ∷ []) ++ v) ++ more) ++ 125 ∷ []
    in_order q = sym (append_assoc ((q ++ 58 ∷ []) ++ v) more (125 ∷ []) ∙ append_assoc (q ++ 58 ∷ []) v (more ++ 125 ∷ []) ∙ append_assoc q (58 ∷ []) (v ++ (more ++ 125 ∷ [])))

members-later : (ms : Members) → names_plain ms ≡ true → members_text true ms ≡ behind (map json_member (as_members ms)) ++ 125 ∷ []
members-later no_members h = refl
members-later (member k d ms) h =
    let parts = and_parts (is_word k) (names_plain ms) h in
    ap (λ (rest : List ℕ). 44 ∷ rest) (one-member k (compact_text d) (members_text true ms) (behind (map json_member (as_members ms))) parts.0 (members-later ms parts.1))

object-text : (ms : Members) → names_plain ms ≡ true → compact_text (object ms) ≡ codes "{" ++ join_with_byte 44 (map json_member (as_members ms)) ++ codes "}"
object-text no_members h = refl
object-text (member k d ms) h =
    let parts = and_parts (is_word k) (names_plain ms) h in
    let own : Member = record { name = k; value = compact_text d } in
    ap (λ (rest : List ℕ). 123 ∷ rest)
    (one-member k (compact_text d) (members_text true ms) (behind (map json_member (as_members ms))) parts.0 (members-later ms parts.1)
    ∙ ap (λ (text : List ℕ). text ++ 125 ∷ []) (sym (join-first (json_member own) (map json_member (as_members ms)))))

-- ---- a sheet

pub cells-of : (columns : List (List ℕ)) (rows : List (List SheetCell)) → list_all (is_row columns) rows ≡ true → are_cells rows ≡ true
cells-of columns [] h = refl
cells-of columns (row ∷ rows) h =
    let parts = and_parts (is_row columns row) (list_all (is_row columns) rows) h in
    and_from (list_all is_cell row) (are_cells rows) (and_parts (length row == length columns) (list_all is_cell row) parts.0).1 (cells-of columns rows parts.1)

abbrev pub members_in : Sheet → Members
members_in sheet = with_table sheet.columns sheet.rows (with_heads sheet.heads no_members)

sheet-shows : (sheet : Sheet) → IsWellFormed sheet → Shows (members_in sheet) (members_of sheet)
sheet-shows sheet formed =
    subst (λ (rows : List Member). Shows (members_in sheet) rows) (sym (both-show sheet.heads (table_members sheet.columns sheet.rows) []))
    (table-shows sheet.columns sheet.rows (with_heads sheet.heads no_members) (fold step [] (map head_member sheet.heads)) formed.columns (cells-of sheet.columns sheet.rows formed.rows)
    (heads-show sheet.heads no_members [] formed.heads (record { same = refl; words = refl })))

sheet-text : (sheet : Sheet) → IsWellFormed sheet → compact_text (object (members_in sheet)) ≡ json_of sheet
unfolding json_of
sheet-text sheet formed =
    let shows = sheet-shows sheet formed in
    object-text (members_in sheet) shows.words ∙ ap (λ (rows : List Member). codes "{" ++ join_with_byte 44 (map json_member rows) ++ codes "}") shows.same

-- the tokens of a sheet's data are written as its text
pub written-text : (sheet : Sheet) (d : Data) (before items : List ℕ) (tokens : List Token) → IsWellFormed sheet
    → items ≡ before ++ print tokens → before ≡ [] → tokens ≡ tokens_of d → d ≡ object (members_in sheet) → items ≡ json_of sheet
written-text sheet d before items tokens formed written none all same =
    written ∙ ap (λ (start : List ℕ). start ++ print tokens) none
    ∙ ap print (all ∙ ap tokens_of same) ∙ print-outline (object (members_in sheet)) ∙ sheet-text sheet formed
