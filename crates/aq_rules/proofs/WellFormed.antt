-- Each sheet is well formed, from its cells up.
use Rattle.std.proofs.Common.{◌≡◌, ℕ, ◌+◌, ◌^◌, ◌<◌, ◌≤◌, Bool, true, false, cond, ◌&&◌, List, [], ◌∷◌, length, map, refl, arith, subst}
use Rattle.std.specs.Prelude.{Some, nat_le, nat_lt, ◌==◌, codes, sum_by, IsTrue, All, ◌||◌, find}
use Rattle.std.specs.List.{list_all}
use Rattle.std.proofs.lemmas.List.Elements.{All-from_recursion}
use Rattle.std.proofs.lemmas.List.Sums.{sum_by-cons}
use Rattle.std.proofs.lemmas.Bool.{and_parts, eqb-true, leb-true}
use Rattle.aq_base.specs.Rule.{rule_number}
use Rattle.aq_base.specs.declared.reply.ListedLine.{ListedLine}
use Rattle.aq_base.specs.declared.reply.RestRule.{RestRule}
use Rattle.aq_base.specs.declared.reply.LoadReply.{LoadReply}
use Rattle.aq_rules.specs.Limits.{LAST_LOAD_NUMBER, MOST_LINES, MOST_LISTED}
use Rattle.aq_rules.specs.Office.Office.{Office, StoredLoad, IsOffice, is_same, load_rank, load_at, is_load, rises, listed_rank, rest_rank, is_listed, is_rest, is_reply}
use Rattle.aq_rules.specs.Shown.Sheets.{listed_row, rest_row, load_sheet}
use Rattle.aq_rules.specs.Shown.OtherSheets.{conflict_sheet, error_names, error_sheet, summary_sheet}
use Rattle.aq_rules.specs.Shown.WellFormed.{is_word, is_row, IsWellFormed}
use Rattle.aq_rules.proofs.Elements.{Every, all-append}
use Rattle.aq_rules.proofs.SheetCells.{count, digest-word, rule-word, row-of, heads-of, rows-of}

-- ---- sheets without columns

pub conflict-well_formed : (number : ℕ) (kept sent : List ℕ) → number ≤ LAST_LOAD_NUMBER
    → length kept ≡ 32 → list_all (λ byte. nat_lt byte 256) kept ≡ true
    → length sent ≡ 32 → list_all (λ byte. nat_lt byte 256) sent ≡ true → IsWellFormed (conflict_sheet number kept sent)
unfolding conflict_sheet
conflict-well_formed number kept sent few k ks s ss = record {
  heads = heads-of (conflict_sheet number kept sent).heads (count number (omega arith), (digest-word kept k ks, (digest-word sent s ss, tt)));
  names_differ = refl;
  columns = refl;
  rows = refl;
}

error : (name : List ℕ) → IsTrue (list_all is_word (name ∷ [])) → IsWellFormed (error_sheet name)
unfolding error_sheet
error name word = record { heads = word; names_differ = refl; columns = refl; rows = refl }

pub errors-well_formed : All (λ name. IsWellFormed (error_sheet name)) error_names
errors-well_formed =
    All-from_recursion (λ name. IsWellFormed (error_sheet name)) error_names
    (error _ refl, (error _ refl, (error _ refl, (error _ refl, (error _ refl, (error _ refl, (error _ refl, (error _ refl, (error _ refl, (error _ refl, tt))))))))))

pub summary-well_formed : (loads lines observations : ℕ) → loads < 2 ^ 63 → lines < 2 ^ 63 → observations < 2 ^ 63 → IsWellFormed (summary_sheet loads lines observations)
unfolding summary_sheet
summary-well_formed loads lines observations a b c = record {
  heads = heads-of (summary_sheet loads lines observations).heads (count loads a, (count lines b, (count observations c, tt)));
  names_differ = refl;
  columns = refl;
  rows = refl;
}

-- ---- the reply to a load

load_columns : List (List ℕ)
load_columns = codes "line" ∷ codes "rule" ∷ codes "name" ∷ codes "count" ∷ []

abbrev Listed : ℕ → ListedLine → Type 0
Listed lines listed = is_listed lines listed ≡ true

listed-row : (lines : ℕ) → lines ≤ 120000 → (listed : ListedLine) → Listed lines listed → is_row load_columns (listed_row listed) ≡ true
unfolding load_columns
listed-row lines few listed h =
    let a = and_parts (nat_le 1 listed.line && nat_le listed.line lines) (nat_le (rule_number listed.rule) 36) h in
    let b = and_parts (nat_le 1 listed.line) (nat_le listed.line lines) a.0 in
    let line = leb-true listed.line lines b.1 in
    let rule = leb-true (rule_number listed.rule) 36 a.1 in
    row-of load_columns (listed_row listed) refl
    (count listed.line (omega arith), (count (rule_number listed.rule) (omega arith), (rule-word listed.rule, (count 1 (omega arith), tt))))

rest-row : (rest : RestRule) → (nat_le (rule_number rest.rule) 36 ≡ true) × (rest.count ≤ 120000) → is_row load_columns (rest_row rest) ≡ true
unfolding load_columns
rest-row rest h =
    let rule = leb-true (rule_number rest.rule) 36 h.0 in
    row-of load_columns (rest_row rest) refl
    (refl, (count (rule_number rest.rule) (omega arith), (rule-word rest.rule, (count rest.count (omega (arith, h.1)), tt))))

pub every-passes : {X : Type 0} (p : X → Bool) (xs : List X) → list_all p xs ≡ true → Every (λ x. p x ≡ true) xs
every-passes p [] h = tt
every-passes p (x ∷ xs) h = let parts = and_parts (p x) (list_all p xs) h in (parts.0, every-passes p xs parts.1)

rest-each : (most : ℕ) (rest : List RestRule) → list_all is_rest rest ≡ true → sum_by (λ (r : RestRule). r.count) rest ≤ most
    → Every (λ (r : RestRule). (nat_le (rule_number r.rule) 36 ≡ true) × (r.count ≤ most)) rest
rest-each most [] h few = tt
rest-each most (r ∷ rest) h few =
    let parts = and_parts (is_rest r) (list_all is_rest rest) h in
    let sum = sum_by-cons (λ (o : RestRule). o.count) r rest in
    (((and_parts (nat_le (rule_number r.rule) 36) (nat_le 1 r.count) parts.0).0, omega (arith, sum, few)), rest-each most rest parts.1 (omega (arith, sum, few)))

pub load-well_formed : (reply : LoadReply) → is_reply reply ≡ true → reply.number ≤ LAST_LOAD_NUMBER → IsWellFormed (load_sheet reply)
unfolding load_sheet load_columns
load-well_formed reply valid few =
    let a = and_parts _ (nat_le (reply.accepted + reply.refused) reply.lines) valid in
    let b = and_parts _ (reply.refused == length reply.listed + sum_by (λ (rest : RestRule). rest.count) reply.rest) a.0 in
    let c = and_parts _ (list_all is_rest reply.rest) b.0 in
    let d = and_parts _ (rises rest_rank reply.rest) c.0 in
    let e = and_parts _ ((length reply.rest == 0) || (length reply.listed == MOST_LISTED)) d.0 in
    let f = and_parts _ (nat_le (length reply.listed) MOST_LISTED) e.0 in
    let g = and_parts (nat_le reply.lines MOST_LINES && rises listed_rank reply.listed) (list_all (is_listed reply.lines) reply.listed) f.0 in
    let lines : reply.lines ≤ 120000 = leb-true reply.lines MOST_LINES (and_parts (nat_le reply.lines MOST_LINES) (rises listed_rank reply.listed) g.0).0 in
    let taken = leb-true (reply.accepted + reply.refused) reply.lines a.1 in
    let sum : reply.refused ≡ length reply.listed + sum_by (λ (rest : RestRule). rest.count) reply.rest = eqb-true reply.refused (length reply.listed + sum_by (λ (rest : RestRule). rest.count) reply.rest) b.1 in
    record {
      heads =
          heads-of (load_sheet reply).heads
          (count reply.number (omega arith), (count reply.lines (omega arith), (count reply.accepted (omega arith), (count reply.refused (omega arith), tt))));
      names_differ = refl;
      columns = refl;
      rows =
          all-append (is_row load_columns) (map listed_row reply.listed) (map rest_row reply.rest)
          (rows-of load_columns (Listed reply.lines) listed_row (listed-row reply.lines lines) reply.listed (every-passes (is_listed reply.lines) reply.listed g.1))
          (rows-of load_columns (λ (r : RestRule). (nat_le (rule_number r.rule) 36 ≡ true) × (r.count ≤ 120000)) rest_row rest-row reply.rest
          (rest-each 120000 reply.rest c.1 (omega (arith, sum, taken, lines))));
    }

-- the load that stands under a number
found-passes : (p q : StoredLoad → Bool) (loads : List StoredLoad) (load : StoredLoad) → list_all p loads ≡ true → find q loads ≡ Some load → p load ≡ true
found-passes p q [] load h at = cc
found-passes p q (l ∷ loads) load h at =
    let parts = and_parts (p l) (list_all p loads) h in
    by_test (q l) parts.0 (found-passes p q loads load parts.1) at
  where
    by_test : (b : Bool) → p l ≡ true → (find q loads ≡ Some load → p load ≡ true) → cond b (Some l) (find q loads) ≡ Some load → p load ≡ true
    by_test true here rest at = let same : l ≡ load = cc in let P : StoredLoad → Type 0 = λ x. p x ≡ true in subst P same here
    by_test false here rest at = rest at

pub reply-well_formed : (office : Office) (number : ℕ) (load : StoredLoad) → IsOffice office → load_at office number ≡ Some load → IsWellFormed (load_sheet load.reply)
reply-well_formed office number load valid at =
    let is : is_load load ≡ true = found-passes is_load (λ row. is_same (load_rank row) (number ∷ [])) office.loads load valid.loads_fit at in
    let a = and_parts _ (is_reply load.reply) is in
    let b = and_parts _ (list_all (λ byte. nat_lt byte 256) load.digest) a.0 in
    let c = and_parts _ (length load.digest == 32) b.0 in
    let d = and_parts (nat_le 1 load.number && nat_le load.number LAST_LOAD_NUMBER) (load.reply.number == load.number) c.0 in
    let few = leb-true load.number LAST_LOAD_NUMBER (and_parts (nat_le 1 load.number) (nat_le load.number LAST_LOAD_NUMBER) d.0).1 in
    let same = eqb-true load.reply.number load.number d.1 in
    load-well_formed load.reply a.1 (omega (arith, few, same))
