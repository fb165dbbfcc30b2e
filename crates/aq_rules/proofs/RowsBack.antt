-- The rows of a valid office give the office back.
use Rattle.std.proofs.Common.{◌≡◌, ℕ, ◌+◌, ◌^◌, ◌<◌, ◌≤◌, true, ◌&&◌, ◌||◌, cond, List, [], ◌∷◌, length, map, refl, sym, ap, ◌∙◌, arith}
use Rattle.std.specs.Prelude.{Option, Some, None, ◌==◌, nat_le, nat_lt, sum_by, bytes_eq}
use Rattle.std.specs.List.{list_all}
use Rattle.std.specs.Ordering.{int_eq}
use Rattle.std.proofs.lemmas.List.Sums.{sum_by-cons}
use Rattle.std.proofs.lemmas.Slice.Eq.{bytes_eq-Decides}
use Rattle.std.proofs.lemmas.Bool.{and_from, and_parts, eqb-true, leb-true}
use Rattle.aq_base.specs.Rule.{rule_number}
use Rattle.aq_base.specs.declared.office.OfficeRecord.{OfficeRecord}
use Rattle.aq_base.specs.declared.office.OfficeRecord.TheVariants.{Monitor}
use Rattle.aq_base.specs.declared.reply.ListedLine.{ListedLine}
use Rattle.aq_base.specs.declared.reply.RestRule.{RestRule}
use Rattle.aq_rules.specs.Limits.{MOST_LINES, MOST_LISTED}
use Rattle.aq_rules.specs.Lines.Spellings.{◌>>=◌}
use Rattle.aq_rules.specs.Lines.Reading.{LineValue, OfOffice}
use Rattle.aq_rules.specs.Lines.Canonical.{record_line, is_office_line}
use Rattle.aq_rules.specs.Office.Office.{StoredLoad, is_record, is_reply, is_load, is_listed, is_rest, listed_rank, rest_rank, rises}
use Rattle.aq_rules.specs.Kept.Rows.{OfficeRow, LoadRow, office_row, load_row, listed_text, rest_text, record_in, only_if, is_office_row, is_load_row, record_of_row, load_of_row, words, each, listed_in, rest_in}
use Rattle.aq_rules.proofs.Tests.{int_itself}
use Rattle.aq_rules.proofs.Elements.{Every, every-to}
use Rattle.aq_rules.proofs.RoundTrip.{round-office}
use Rattle.aq_rules.proofs.RowTexts.{IsWord, words-joined, each-read, every-map, listed_write, rest_write, listed-read, rest-read, listed-word, rest-word}

bytes-itself : (text : List ℕ) → bytes_eq text text ≡ true
bytes-itself text = (bytes_eq-Decides text text).1 refl

-- ---- records

line-of : (r : OfficeRecord) → is_record r ≡ true → is_office_line (record_line r) ≡ true
line-of (Monitor id duration eligible) h = h
line-of r h = h

record-of_line : (r : OfficeRecord) → record_in (OfOffice (record_line r)) ≡ Some r
record-of_line (Monitor id duration eligible) = refl
record-of_line r = refl

office_row-itself : (row : OfficeRow) → is_office_row row row ≡ true
office_row-itself row =
    and_from (int_eq row.kind row.kind && bytes_eq row.key row.key) (bytes_eq row.line row.line)
    (and_from (int_eq row.kind row.kind) (bytes_eq row.key row.key) (int_itself row.kind) (bytes-itself row.key)) (bytes-itself row.line)

pub record-back : (r : OfficeRecord) → is_record r ≡ true → record_of_row (office_row r) ≡ Some r
unfolding record_of_row
record-back r h =
    let line = round-office (record_line r) (line-of r h) in
    ap (λ (o : Option LineValue). (o >>= record_in) >>= only_if (λ s. is_office_row (office_row s) (office_row r))) line
    ∙ ap (λ (o : Option OfficeRecord). o >>= only_if (λ s. is_office_row (office_row s) (office_row r))) (record-of_line r)
    ∙ ap (λ b. cond b (Some r) None) (office_row-itself (office_row r))

-- ---- loads

load_row-itself : (row : LoadRow) → is_load_row row row ≡ true
load_row-itself row =
    and_from _ (bytes_eq row.rest row.rest)
    (and_from _ (bytes_eq row.listed row.listed)
    (and_from _ (int_eq row.accepted row.accepted)
    (and_from _ (int_eq row.lines row.lines) (and_from (int_eq row.number row.number) (bytes_eq row.digest row.digest) (int_itself row.number) (bytes-itself row.digest)) (int_itself row.lines))
    (int_itself row.accepted))
    (bytes-itself row.listed))
    (bytes-itself row.rest)

-- a listed line, and a rule of the rest, that have a text
abbrev KnownLine : ListedLine → Type 0
KnownLine l = (l.line < 2 ^ 64) × (nat_le (rule_number l.rule) 36 ≡ true)

abbrev KnownRest : RestRule → Type 0
KnownRest r = (r.count < 2 ^ 64) × (nat_le (rule_number r.rule) 36 ≡ true)

listed-known : (lines : ℕ) (listed : List ListedLine) → lines ≤ 120000 → list_all (is_listed lines) listed ≡ true → Every KnownLine listed
listed-known lines [] few all = tt
listed-known lines (l ∷ listed) few all =
    let parts = and_parts (is_listed lines l) (list_all (is_listed lines) listed) all in
    let c = and_parts (nat_le 1 l.line && nat_le l.line lines) (nat_le (rule_number l.rule) 36) parts.0 in
    let b = and_parts (nat_le 1 l.line) (nat_le l.line lines) c.0 in
    let low = leb-true l.line lines b.1 in
    ((omega arith, c.1), listed-known lines listed few parts.1)

rest-known : (rest : List RestRule) → sum_by (λ (r : RestRule). r.count) rest ≤ 120000 → list_all is_rest rest ≡ true → Every KnownRest rest
rest-known [] few all = tt
rest-known (r ∷ rest) few all =
    let parts = and_parts (is_rest r) (list_all is_rest rest) all in
    let c = and_parts (nat_le (rule_number r.rule) 36) (nat_le 1 r.count) parts.0 in
    let sum = sum_by-cons (λ (o : RestRule). o.count) r rest in
    ((omega (arith, sum), c.0), rest-known rest (omega (arith, sum)) parts.1)

pub listed-back : (listed : List ListedLine) → Every KnownLine listed → each listed_in (words (listed_text listed)) ≡ Some listed
listed-back listed every =
    ap (each listed_in) (words-joined (map listed_write listed) (every-map IsWord listed_write listed (every-to KnownLine (λ l. IsWord (listed_write l)) (λ l k. listed-word l k.0 k.1) listed every)))
    ∙ each-read listed_write listed_in listed (every-to KnownLine (λ l. listed_in (listed_write l) ≡ Some l) (λ l k. listed-read l k.0 k.1) listed every)

pub rest-back : (rest : List RestRule) → Every KnownRest rest → each rest_in (words (rest_text rest)) ≡ Some rest
rest-back rest every =
    ap (each rest_in) (words-joined (map rest_write rest) (every-map IsWord rest_write rest (every-to KnownRest (λ r. IsWord (rest_write r)) (λ r k. rest-word r k.0 k.1) rest every)))
    ∙ each-read rest_write rest_in rest (every-to KnownRest (λ r. rest_in (rest_write r) ≡ Some r) (λ r k. rest-read r k.0 k.1) rest every)

-- the load that a row with these parts says
abbrev load_with : ℕ → List ℕ → ℕ → ℕ → List ListedLine → List RestRule → StoredLoad
load_with number digest lines accepted listed rest = record {
  number = number;
  digest = digest;
  reply =
      record { number = number; lines = lines; accepted = accepted; refused = length listed + sum_by (λ (r : RestRule). r.count) rest; listed = listed; rest = rest };
}

pub load-back : (load : StoredLoad) → is_load load ≡ true → load_of_row (load_row load) ≡ Some load
unfolding load_of_row
load-back load h =
    let reply = load.reply in
    let p = and_parts _ (is_reply reply) h in
    let q = and_parts _ (list_all (λ byte. nat_lt byte 256) load.digest) p.0 in
    let r = and_parts _ (length load.digest == 32) q.0 in
    let number : reply.number ≡ load.number = eqb-true reply.number load.number (and_parts _ (reply.number == load.number) r.0).1 in
    let i = and_parts _ (nat_le (reply.accepted + reply.refused) reply.lines) p.1 in
    let g = and_parts _ (reply.refused == length reply.listed + sum_by (λ (o : RestRule). o.count) reply.rest) i.0 in
    let refused : reply.refused ≡ length reply.listed + sum_by (λ (o : RestRule). o.count) reply.rest = eqb-true reply.refused _ g.1 in
    let e = and_parts _ (list_all is_rest reply.rest) g.0 in
    let d = and_parts _ (rises rest_rank reply.rest) e.0 in
    let c = and_parts _ ((length reply.rest == 0) || (length reply.listed == MOST_LISTED)) d.0 in
    let b = and_parts _ (nat_le (length reply.listed) MOST_LISTED) c.0 in
    let a = and_parts _ (list_all (is_listed reply.lines) reply.listed) b.0 in
    let lines = leb-true reply.lines MOST_LINES (and_parts (nat_le reply.lines MOST_LINES) (rises listed_rank reply.listed) a.0).0 in
    let most = leb-true (reply.accepted + reply.refused) reply.lines i.1 in
    let listed = listed-back reply.listed (listed-known reply.lines reply.listed lines a.1) in
    let rest = rest-back reply.rest (rest-known reply.rest (omega (arith, refused, most, lines)) e.1) in
    let whole : load_with load.number load.digest reply.lines reply.accepted reply.listed reply.rest ≡ load =
    λ j. record { number = load.number; digest = load.digest; reply = record { number = sym number j; lines = reply.lines; accepted = reply.accepted; refused = sym refused j; listed = reply.listed; rest = reply.rest } }
    in
    rw listed (rw rest (ap (only_if (λ l. is_load_row (load_row l) (load_row load))) whole ∙ ap (λ t. cond t (Some load) None) (load_row-itself (load_row load))))
