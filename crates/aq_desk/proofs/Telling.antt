-- The messages on the errors stream, piece by piece.
use Rattle.std.proofs.Common.{◌≡◌, ℕ, ◌/◌, ◌%◌, ◌<◌, ◌≤◌, ◌^◌, ◌+◌, List, [], ◌∷◌, ◌++◌, refl, sym, ap, subst, ◌∙◌, append_assoc, inl, inr, codes, arith}
use Rattle.std.specs.Prelude.{Result, Ok, Err, IsErr, decimal}
use Rattle.std.specs.Option.{option_map}
use Rattle.std.specs.Fmt.{digits}
use Rattle.std.proofs.lemmas.Fmt.{decimal_digit, decimal_step}
use Rattle.aq_base.specs.Rule.{rule_name, rule_number}
use Rattle.aq_base.specs.Site.{Site}
use Rattle.aq_base.specs.declared.rule.Rule.{Rule}
use Rattle.aq_rules.specs.Shown.Sheet.{site_text}
use Rattle.aq_desk.proofs.Outcomes.{bytes_behind, front_behind, front_of_more, join, more_bytes}
use Rattle.aq_desk.specs.Command.{Tells}
use Rattle.aq_rules.specs.Kept.RowChanges.{table_name}
use Rattle.aq_rules.specs.Questions.Table.{usage_of}
use Rattle.aq_rules.specs.Shown.OtherSheets.{digest_text}
use Rattle.aq_desk.specs.Ending.{conflict, damaged, door_failed, input_failed, keeper_failed, line_refused, loads_full, no_combination, no_site_in_area, no_command, no_event, no_load, no_memory, no_site, output_failed, too_many_bytes, too_many_lines}
use Rattle.aq_base.specs.Faults.{HasRisen}
use Rattle.aq_desk.specs.Stop.{ending_at}
use Rattle.aq_desk.specs.declared.stop.Stop.{Stop}
use Rattle.aq_desk.specs.Writing.{Writes}
use Rattle.aq_outside.specs.Outside.{SinkView}

module _ {A E : Type 0} where
  -- the first part of a text was cut short, and so the text was
  pub writes_cut : (first second : List ℕ) (before after : SinkView) (fault : E) (answer : Result A E) → IsErr answer → Writes {A = A} {E = E} first before after (Err fault) → Writes (first ++ second) before after answer
  writes_cut first second before after fault (Ok went) failed writes = absurd (cc)
  writes_cut first second before after fault (Err other) failed writes = record {
    whole = tt;
    front = front_of_more before.written after.written first second writes.front;
    some = more_bytes first second writes.some;
    cause = writes.cause;
  }

  -- the first part was written whole, and then the second
  pub writes_then : (first second : List ℕ) (before between after : SinkView) (done : A) (answer : Result A E) → Writes {A = A} {E = E} first before between (Ok done) → Writes second between after answer → Writes (first ++ second) before after answer
  writes_then first second before between after done (Ok went) one two = record {
    whole = two.whole ∙ ap (option_map (λ bytes. bytes ++ second)) one.whole ∙ join before.written first second;
    front = front_behind before.written between.written after.written first second one.whole two.front;
    some = tt;
    cause = two.cause ∙ one.cause;
  }
  writes_then first second before between after done (Err fault) one two = record {
    whole = tt;
    front = front_behind before.written between.written after.written first second one.whole two.front;
    some = bytes_behind first second two.some;
    cause = subst (λ (k : ℕ). HasRisen k after.faults) one.cause two.cause;
  }

  -- whatever a text's writing answered, it was told
  pub tells : (text : List ℕ) (before after : SinkView) (answer : Result A E) → Writes text before after answer → Tells text before after
  tells text before after (Ok went) writes = record { front = writes.front; whole = inr writes.whole }
  tells text before after (Err fault) writes = record { front = writes.front; whole = inl writes.cause }

  -- the same text in other words
  pub writes_same : (text other : List ℕ) (before after : SinkView) (answer : Result A E) → text ≡ other → Writes text before after answer → Writes other before after answer
  writes_same text other before after answer same writes = let P = λ (t : List ℕ). Writes t before after answer in subst P same writes

  -- the message of what stopped a command
  pub writes_at : (text : List ℕ) (stop kind : Stop) (before after : SinkView) (answer : Result A E) → stop ≡ kind → text ≡ (ending_at kind).message → Writes text before after answer → Writes (ending_at stop).message before after answer
  writes_at text stop kind before after answer is same writes =
      let P = λ (s : Stop). Writes (ending_at s).message before after answer in
      subst P (sym is) (writes_same text (ending_at kind).message before after answer same writes)

-- the numbers of the statuses
three : decimal 3 ≡ codes "3"
unfolding digits
three = refl

four : decimal 4 ≡ codes "4"
unfolding digits
four = refl

five : decimal 5 ≡ codes "5"
unfolding digits
five = refl

six : decimal 6 ≡ codes "6"
unfolding digits
six = refl

eight : decimal 8 ≡ codes "8"
unfolding digits
eight = refl

nine : decimal 9 ≡ codes "9"
unfolding digits
nine = refl

eleven : decimal 11 ≡ codes "11"
unfolding digits
eleven = refl

seven : decimal 7 ≡ codes "7"
unfolding digits
seven = refl

ten : decimal 10 ≡ codes "10"
unfolding digits
ten = refl

twelve : decimal 12 ≡ codes "12"
unfolding digits
twelve = refl

thirteen : decimal 13 ≡ codes "13"
unfolding digits
thirteen = refl

fourteen : decimal 14 ≡ codes "14"
unfolding digits
fourteen = refl

fifteen : decimal 15 ≡ codes "15"
unfolding digits
fifteen = refl

sixteen : decimal 16 ≡ codes "16"
unfolding digits
sixteen = refl

seventeen : decimal 17 ≡ codes "17"
unfolding digits
seventeen = refl

two : decimal 2 ≡ codes "2"
unfolding digits
two = refl

most_bytes : decimal 8388608 ≡ codes "8388608"
unfolding digits
most_bytes = refl

pub no_command_message : codes "airdv: 2 no command\nusage: airdv scan SITE DAY\nusage: airdv load NUMBER\nusage: airdv try\nusage: airdv changes FIRST LAST\nusage: airdv show STANDARD SITE YEAR\nusage: airdv report STANDARD YEAR\nusage: airdv export SITE PARAMETER YEAR\nusage: airdv whatif STANDARD SITE YEAR LIST\nusage: airdv decisive STANDARD SITE YEAR\nusage: airdv combined STANDARD SITE YEAR\nusage: airdv area STANDARD AREA YEAR\nusage: airdv reply NUMBER\nusage: airdv windows SITE DAY\nusage: airdv days SITE YEAR\nusage: airdv pm25 SITE YEAR\nusage: airdv pm10 SITE YEAR\nusage: airdv sites\nusage: airdv monitors SITE\nusage: airdv events SITE\nusage: airdv flags SITE PARAMETER YEAR\nusage: airdv loads\nusage: airdv daily SITE PARAMETER YEAR\nusage: airdv highest SITE PARAMETER YEAR\nusage: airdv completeness SITE PARAMETER YEAR\nusage: airdv reports YEAR\nusage: airdv records\nusage: airdv lines SITE PARAMETER YEAR\nusage: airdv serve --port P --connections N\nusage: airdv simulate START SITES YEARS\n" ≡ no_command.message
unfolding usage_of
no_command_message = rw two refl

pub input_message : codes "airdv: 3 input failed\n" ≡ input_failed.message
input_message = rw three refl

pub output_message : codes "airdv: 4 output failed\n" ≡ output_failed.message
output_message = rw four refl

pub keeper_message : codes "airdv: 5 keeper failed\n" ≡ keeper_failed.message
keeper_message = rw five refl

pub door_message : codes "airdv: 8 door failed\n" ≡ door_failed.message
door_message = rw eight refl

pub full_message : codes "airdv: 11 loads full\n" ≡ loads_full.message
full_message = rw eleven refl

pub area_message : codes "airdv: 15 no site in area\n" ≡ no_site_in_area.message
area_message = rw fifteen refl

pub damaged_message : (table index : ℕ) → (codes "airdv: 6 damaged " ++ table_name table) ++ ((codes " " ++ decimal index) ++ codes "\n") ≡ (damaged (record { table = table; index = index })).message
damaged_message table index =
    let name = table_name table in
    let front = codes "airdv: 6 damaged " in
    rw six
    (sym (append_assoc (front ++ name) (codes " " ++ decimal index) (codes "\n"))
    ∙ ap (λ text. text ++ codes "\n") (sym (append_assoc (front ++ name) (codes " ") (decimal index))))

pub conflict_message : (number : ℕ) (kept sent : List ℕ) → ((codes "airdv: 9 load " ++ decimal number) ++ codes " kept ") ++ (digest_text kept ++ (codes " sent " ++ (digest_text sent ++ codes "\n"))) ≡ (conflict number kept sent).message
conflict_message number kept sent =
    let front = (codes "airdv: 9 load " ++ decimal number) ++ codes " kept " in
    let one = digest_text kept in
    let two = digest_text sent in
    let between = codes " sent " in
    let end = codes "\n" in
    rw nine
    (sym (append_assoc front one (between ++ (two ++ end))) ∙ sym (append_assoc (front ++ one) between (two ++ end)) ∙ sym (append_assoc ((front ++ one) ++ between) two end))

-- a byte's two digits, and then those of the others
pub digest_split : (bytes rest pair : List ℕ) (first : ℕ) → bytes ≡ first ∷ rest → pair ≡ digest_text (first ∷ []) → pair ++ digest_text rest ≡ digest_text bytes
digest_split bytes rest pair first split is = ap (λ (l : List ℕ). l ++ digest_text rest) is ∙ ap digest_text (sym split)

pub memory_message : codes "airdv: 7 memory\n" ≡ no_memory.message
memory_message = rw seven refl

pub bytes_message : codes "airdv: 10 more than 8388608 bytes\n" ≡ too_many_bytes.message
bytes_message = rw (ten, most_bytes) refl

pub lines_message : (lines : ℕ) → (codes "airdv: 10 " ++ decimal lines) ++ codes " lines\n" ≡ (too_many_lines lines).message
lines_message lines = rw ten (ap (λ text. codes "airdv: 10 " ++ text) (sym (append_assoc (decimal lines) (codes " lines") (codes "\n"))))

pub site_message : (site : Site) → (codes "airdv: 12 no site " ++ site_text site) ++ codes "\n" ≡ (no_site site).message
site_message site = rw twelve refl

pub combination_message : (site : Site) → (codes "airdv: 14 no combination " ++ site_text site) ++ codes "\n" ≡ (no_combination site).message
combination_message site = rw fourteen refl

pub event_message : (number : ℕ) → (codes "airdv: 13 no event " ++ decimal number) ++ codes "\n" ≡ (no_event number).message
event_message number = rw thirteen refl

pub load_message : (number : ℕ) → (codes "airdv: 16 no load " ++ decimal number) ++ codes "\n" ≡ (no_load number).message
load_message number = rw sixteen refl

pub refused_message : (line : ℕ) (rule : Rule) → ((codes "airdv: 17 line " ++ decimal line) ++ codes " rule ") ++ (((decimal (rule_number rule) ++ codes " ") ++ rule_name rule) ++ codes "\n") ≡ (line_refused line rule).message
refused_message line rule =
    let front = (codes "airdv: 17 line " ++ decimal line) ++ codes " rule " in
    let number = decimal (rule_number rule) in
    let name = rule_name rule in
    let end = codes "\n" in
    rw seventeen
    (sym (append_assoc front ((number ++ codes " ") ++ name) end)
    ∙ ap (λ text. text ++ end) (sym (append_assoc front (number ++ codes " ") name))
    ∙ ap (λ text. (text ++ name) ++ end) (sym (append_assoc front number (codes " "))))

pub first_digit : (n : ℕ) → n < 10 → (48 + n % 10) ∷ [] ≡ decimal n
first_digit n small = let same : n % 10 ≡ n = omega arith in ap (λ k. (48 + k) ∷ []) same ∙ sym (decimal_digit n small)

pub last_digit : (n : ℕ) → 10 ≤ n → n < 2 ^ 64 → decimal (n / 10) ++ ((48 + n % 10) ∷ []) ≡ decimal n
last_digit n more fits = sym (decimal_step n more (omega arith))
