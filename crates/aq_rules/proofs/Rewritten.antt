-- Rows that are an office's are the rows of that office; so rows are an office's exactly if none is damaged.
use Rattle.std.proofs.Common.{◌≡◌, ℕ, ◌+◌, ◌≤◌, Bool, true, false, ◌&&◌, cond, List, [], ◌∷◌, ◌++◌, map, refl, sym, ap, subst, ◌∙◌, arith}
use Rattle.std.specs.Prelude.{ℤ, Option, Some, None, is_some, nat_le, bytes_eq, sum_by, length}
use Rattle.std.specs.Option.{option_eq}
use Rattle.std.specs.Ordering.{int_eq}
use Rattle.std.specs.List.{list_all, filter_map, cons_option}
use Rattle.std.proofs.lemmas.Slice.Eq.{bytes_eq-Decides}
use Rattle.std.proofs.lemmas.Bool.{false≢true, and_parts, leb-true}
use Rattle.aq_base.specs.declared.observation.ObsKey.{ObsKey}
use Rattle.aq_base.specs.declared.observation.Observation.{Observation}
use Rattle.aq_base.specs.declared.office.OfficeRecord.{OfficeRecord}
use Rattle.aq_base.specs.declared.reply.RestRule.{RestRule}
use Rattle.aq_rules.specs.Lines.Reading.{line_value}
use Rattle.aq_rules.specs.Lines.Spellings.{◌>>=◌, qualifier_in}
use Rattle.aq_rules.specs.Office.Office.{StoredLoad, IsOffice}
use Rattle.aq_rules.specs.Kept.Rows.{whole, hour_of_stored, record_in, site_with, pollutant_with, words, each, null_of, method_of, listed_in, rest_in, Row, OfficeRow, ObsRow2, LoadRow, OfOfficeRow, OfObsRow, OfLoadRow, OfSecondRow, office_row, obs_row, load_row, rows_of, only_if, is_office_row, is_obs_row, is_load_row, record_of_row, observation_of_row, load_of_row, record_in_row, observation_in_row, load_in_row, says_something, office_in, table_of, tables_follow, is_valid, are_office_rows, damage}
use Rattle.aq_rules.proofs.Tests.{int_is}
use Rattle.aq_rules.proofs.Elements.{Every}
use Rattle.aq_rules.proofs.OfficeBack.{R, O, L}
use Rattle.aq_rules.proofs.ValidOffice.{valid-is_office}
use Rattle.aq_rules.proofs.Undamaged.{undamaged}

-- ---- a row is the row of what it says

-- the last test of a reading holds of what is read
last-test : {X : Type 0} (test : X → Bool) (x y : X) → only_if test x ≡ Some y → test y ≡ true
last-test {X = X} test x y h = by_test (test x) refl h
  where
    by_test : (b : Bool) → test x ≡ b → cond b (Some x) None ≡ Some y → test y ≡ true
    by_test true e k =
        let same : x ≡ y = cc in
        let P : X → Type 0 = λ z. test z ≡ true in
        subst P same e
    by_test false e k = cc

through : {A B : Type 0} (o : Option A) (next : A → Option B) (b : B) (P : Type 0) → (o >>= next) ≡ Some b → ((a : A) → next a ≡ Some b → P) → P
through None next b P h go = absurd (no_value h)
  where
    no_value : None ≡ Some b → ⊥
    no_value e = cc
through (Some a) next b P h go = go a h

text-is : (a b : List ℕ) → bytes_eq a b ≡ true → a ≡ b
text-is a b h = (bytes_eq-Decides a b).0 h

value-is : (a b : Option ℤ) → option_eq int_eq a b ≡ true → a ≡ b
value-is None None h = refl
value-is None (Some y) h = cc
value-is (Some x) None h = cc
value-is (Some x) (Some y) h = ap (λ (z : ℤ). Some z) (int_is x y h)

office_row-is : (a b : OfficeRow) → is_office_row a b ≡ true → a ≡ b
office_row-is a b h =
    let y = and_parts _ (bytes_eq a.line b.line) h in
    let x = and_parts (int_eq a.kind b.kind) (bytes_eq a.key b.key) y.0 in
    λ i. record { kind = int_is a.kind b.kind x.0 i; key = text-is a.key b.key x.1 i; line = text-is a.line b.line y.1 i }

obs_row-is : (a b : ObsRow2) → is_obs_row a b ≡ true → a ≡ b
obs_row-is a b h =
    let t = and_parts _ (bytes_eq a.quals b.quals) h in
    let s = and_parts _ (bytes_eq a.null b.null) t.0 in
    let m = and_parts _ (option_eq int_eq a.method b.method) s.0 in
    let r = and_parts _ (option_eq int_eq a.value b.value) m.0 in
    let q = and_parts _ (int_eq a.hour b.hour) r.0 in
    let p = and_parts _ (int_eq a.poc b.poc) q.0 in
    let o = and_parts (int_eq a.site b.site) (int_eq a.pollutant b.pollutant) p.0 in
    λ i. record {
      site = int_is a.site b.site o.0 i;
      pollutant = int_is a.pollutant b.pollutant o.1 i;
      poc = int_is a.poc b.poc p.1 i;
      hour = int_is a.hour b.hour q.1 i;
      value = value-is a.value b.value r.1 i;
      method = value-is a.method b.method m.1 i;
      null = text-is a.null b.null s.1 i;
      quals = text-is a.quals b.quals t.1 i;
    }

load_row-is : (a b : LoadRow) → is_load_row a b ≡ true → a ≡ b
load_row-is a b h =
    let t = and_parts _ (bytes_eq a.rest b.rest) h in
    let s = and_parts _ (bytes_eq a.listed b.listed) t.0 in
    let r = and_parts _ (int_eq a.accepted b.accepted) s.0 in
    let q = and_parts _ (int_eq a.lines b.lines) r.0 in
    let p = and_parts (int_eq a.number b.number) (bytes_eq a.digest b.digest) q.0 in
    λ i. record {
      number = int_is a.number b.number p.0 i;
      digest = text-is a.digest b.digest p.1 i;
      lines = int_is a.lines b.lines q.1 i;
      accepted = int_is a.accepted b.accepted r.1 i;
      listed = text-is a.listed b.listed s.1 i;
      rest = text-is a.rest b.rest t.1 i;
    }

record-row : (row : OfficeRow) (r : OfficeRecord) → record_of_row row ≡ Some r → office_row r ≡ row
unfolding record_of_row
record-row row r h =
    through (line_value row.line >>= record_in) (only_if (λ q. is_office_row (office_row q) row)) r (office_row r ≡ row) h
    (λ s k. office_row-is (office_row r) row (last-test (λ q. is_office_row (office_row q) row) s r k))

observation-row : (row : ObsRow2) (o : ObsKey × Observation) → observation_of_row row ≡ Some o → obs_row o ≡ row
unfolding observation_of_row
observation-row row o h =
    through (whole row.site) _ o (obs_row o ≡ row) h (λ a ha.
    through (whole row.pollutant) _ o (obs_row o ≡ row) ha (λ b hb.
    through (pollutant_with b) _ o (obs_row o ≡ row) hb (λ c hc.
    through (whole row.poc) _ o (obs_row o ≡ row) hc (λ d hd.
    through (hour_of_stored row.hour) _ o (obs_row o ≡ row) hd (λ e he.
    through (method_of row.method) _ o (obs_row o ≡ row) he (λ m hm.
    through (null_of row.null) _ o (obs_row o ≡ row) hm (λ f hf.
    through (each qualifier_in (words row.quals)) _ o (obs_row o ≡ row) hf (λ g hg.
    let x : ObsKey × Observation = (record { monitor = record { site = site_with a; pollutant = c; poc = d }; hour = e }, record { value = row.value; null = f; quals = g; method = m }) in
    obs_row-is (obs_row o) row (last-test (λ q. is_obs_row (obs_row q) row) x o hg)))))))))

load-row : (row : LoadRow) (l : StoredLoad) → load_of_row row ≡ Some l → load_row l ≡ row
unfolding load_of_row
load-row row l h =
    through (whole row.number) _ l (load_row l ≡ row) h (λ a ha.
    through (whole row.lines) _ l (load_row l ≡ row) ha (λ b hb.
    through (whole row.accepted) _ l (load_row l ≡ row) hb (λ c hc.
    through (each listed_in (words row.listed)) _ l (load_row l ≡ row) hc (λ d hd.
    through (each rest_in (words row.rest)) _ l (load_row l ≡ row) hd (λ e he.
    let x : StoredLoad = record { number = a; digest = row.digest; reply = record { number = a; lines = b; accepted = c; refused = length d + sum_by (λ (r : RestRule). r.count) e; listed = d; rest = e } } in
    load_row-is (load_row l) row (last-test (λ q. is_load_row (load_row q) row) x l he))))))

-- ---- all rows

abbrev From : ℕ → List Row → Type 0
From t rows = Every (λ row. t ≤ table_of row) rows

from-more : (t n : ℕ) (rows : List Row) → t ≤ n → From n rows → From t rows
from-more t n [] low from = tt
from-more t n (row ∷ rows) low from = (omega (arith, low, from.0), from-more t n rows low from.1)

rest-follow : (row : Row) (rows : List Row) → tables_follow (row ∷ rows) ≡ true → tables_follow rows ≡ true
rest-follow row [] h = refl
rest-follow row (next ∷ rows) h = (and_parts (nat_le (table_of row) (table_of next)) (tables_follow (next ∷ rows)) h).1

from-follow : (row : Row) (rows : List Row) → tables_follow (row ∷ rows) ≡ true → From (table_of row) rows
from-follow row [] h = tt
from-follow row (next ∷ rows) h =
    let parts = and_parts (nat_le (table_of row) (table_of next)) (tables_follow (next ∷ rows)) h in
    let low = leb-true (table_of row) (table_of next) parts.0 in
    (low, from-more (table_of row) (table_of next) rows low (from-follow next rows parts.1))

no_records : (rows : List Row) → From 1 rows → filter_map record_in_row rows ≡ []
no_records [] from = refl
no_records (OfOfficeRow row ∷ rows) from = absurd (omega (arith, from.0))
no_records (OfObsRow row ∷ rows) from = no_records rows from.1
no_records (OfLoadRow row ∷ rows) from = no_records rows from.1
no_records (OfSecondRow row ∷ rows) from = no_records rows from.1

no_loads : (rows : List Row) → From 3 rows → filter_map load_in_row rows ≡ []
no_loads [] from = refl
no_loads (OfOfficeRow row ∷ rows) from = absurd (omega (arith, from.0))
no_loads (OfObsRow row ∷ rows) from = absurd (omega (arith, from.0))
no_loads (OfLoadRow row ∷ rows) from = absurd (omega (arith, from.0))
no_loads (OfSecondRow row ∷ rows) from = no_loads rows from.1

abbrev three : List OfficeRecord → List StoredLoad → List (ObsKey × Observation) → List Row
three rs ls os = map R rs ++ map L ls ++ map O os

first-record : (row : OfficeRow) (o : Option OfficeRecord) (rs : List OfficeRecord) (ls : List StoredLoad) (os : List (ObsKey × Observation)) (rows : List Row)
    → record_of_row row ≡ o → is_some o ≡ true → three rs ls os ≡ rows → three (cons_option o rs) ls os ≡ OfOfficeRow row ∷ rows
first-record row None rs ls os rows e some is = cc
first-record row (Some r) rs ls os rows e some is = λ i. OfOfficeRow (record-row row r e i) ∷ is i

first-load : (row : LoadRow) (o : Option StoredLoad) (ls : List StoredLoad) (os : List (ObsKey × Observation)) (rows : List Row)
    → load_of_row row ≡ o → is_some o ≡ true → three [] ls os ≡ rows → three [] (cons_option o ls) os ≡ OfLoadRow row ∷ rows
first-load row None ls os rows e some is = cc
first-load row (Some r) ls os rows e some is = λ i. OfLoadRow (load-row row r e i) ∷ is i

first-observation : (row : ObsRow2) (o : Option (ObsKey × Observation)) (os : List (ObsKey × Observation)) (rows : List Row)
    → observation_of_row row ≡ o → is_some o ≡ true → three [] [] os ≡ rows → three [] [] (cons_option o os) ≡ OfSecondRow row ∷ rows
first-observation row None os rows e some is = cc
first-observation row (Some r) os rows e some is = λ i. OfSecondRow (observation-row row r e i) ∷ is i

rewritten : (rows : List Row) → list_all says_something rows ≡ true → tables_follow rows ≡ true
    → three (filter_map record_in_row rows) (filter_map load_in_row rows) (filter_map observation_in_row rows) ≡ rows
rewritten [] said follow = refl
rewritten (OfOfficeRow row ∷ rows) said follow =
    let parts = and_parts (is_some (record_of_row row)) (list_all says_something rows) said in
    let rest = rewritten rows parts.1 (rest-follow (OfOfficeRow row) rows follow) in
    first-record row (record_of_row row) (filter_map record_in_row rows) (filter_map load_in_row rows) (filter_map observation_in_row rows) rows refl parts.0 rest
rewritten (OfObsRow row ∷ rows) said follow = absurd (false≢true said)
rewritten (OfLoadRow row ∷ rows) said follow =
    let parts = and_parts (is_some (load_of_row row)) (list_all says_something rows) said in
    let rest = rewritten rows parts.1 (rest-follow (OfLoadRow row) rows follow) in
    let none = no_records rows (from-more 1 2 rows (omega arith) (from-follow (OfLoadRow row) rows follow)) in
    let P : List OfficeRecord → Type 0 = λ rs. three rs (filter_map load_in_row rows) (filter_map observation_in_row rows) ≡ rows in
    let Q : List OfficeRecord → Type 0 = λ rs. three rs (cons_option (load_of_row row) (filter_map load_in_row rows)) (filter_map observation_in_row rows) ≡ OfLoadRow row ∷ rows in
    subst Q (sym none) (first-load row (load_of_row row) (filter_map load_in_row rows) (filter_map observation_in_row rows) rows refl parts.0 (subst P none rest))
rewritten (OfSecondRow row ∷ rows) said follow =
    let parts = and_parts (is_some (observation_of_row row)) (list_all says_something rows) said in
    let rest = rewritten rows parts.1 (rest-follow (OfSecondRow row) rows follow) in
    let from = from-follow (OfSecondRow row) rows follow in
    let none = no_records rows (from-more 1 3 rows (omega arith) from) in
    let none_loaded = no_loads rows from in
    let os = filter_map observation_in_row rows in
    let start : three [] [] os ≡ rows = (λ i. three (sym none i) (sym none_loaded i) os) ∙ rest in
    (λ i. three (none i) (none_loaded i) (cons_option (observation_of_row row) os)) ∙ first-observation row (observation_of_row row) os rows refl parts.0 start

pub rows-rewritten : (rows : List Row) → are_office_rows rows ≡ true → rows_of (office_in rows) ≡ rows
unfolding are_office_rows rows_of
rows-rewritten rows h =
    let b = and_parts (list_all says_something rows && tables_follow rows) (is_valid (office_in rows)) h in
    let a = and_parts (list_all says_something rows) (tables_follow rows) b.0 in
    rewritten rows a.0 a.1

pub rows-valid : (rows : List Row) → are_office_rows rows ≡ true → IsOffice (office_in rows)
unfolding are_office_rows
rows-valid rows h =
    valid-is_office (office_in rows) (and_parts (list_all says_something rows && tables_follow rows) (is_valid (office_in rows)) h).1

pub no-damage : (rows : List Row) → are_office_rows rows ≡ true → damage rows ≡ None
no-damage rows h = ap damage (sym (rows-rewritten rows h)) ∙ undamaged (office_in rows) (rows-valid rows h)
