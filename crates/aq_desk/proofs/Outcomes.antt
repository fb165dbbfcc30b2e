-- What a run does of a command's outcome, step by step.
use Rattle.std.proofs.Common.{◌≡◌, ℕ, ◌+◌, ◌<◌, ◌≤◌, Bool, true, false, List, [], ◌++◌, length, take, Option, Some, None, refl, sym, ap, subst, ◌∙◌, inl, append_assoc, arith}
use Rattle.std.specs.Prelude.{Result, Ok, Err, if◌then◌else◌, nat_le}
use Rattle.std.specs.Option.{option_map}
use Rattle.std.proofs.lemmas.Bool.Decides.{nat_tests}
use Rattle.std.proofs.lemmas.List.{length-append, take-append-le}
use Rattle.std.proofs.Math.Seq.{take-append-add}
use Rattle.aq_base.specs.declared.question.Question.TheVariants.{Windows}
use Rattle.aq_base.specs.declared.reply.LoadReply.{LoadReply}
use Rattle.aq_base.specs.Site.{Site}
use Rattle.aq_rules.specs.Limits.{MOST_BYTES, MOST_LINES}
use Rattle.aq_rules.specs.Lines.Lines.{line_count}
use Rattle.aq_rules.specs.Office.Load.{load, reply}
use Rattle.aq_rules.specs.Office.Office.{Office, nothing}
use Rattle.aq_rules.specs.Shown.Sheet.{text_of}
use Rattle.aq_rules.specs.Shown.Sheets.{load_sheet}
use Rattle.aq_desk.proofs.Fronts.{behind_nothing}
use Rattle.aq_desk.specs.Ask.{ask_printout}
use Rattle.aq_desk.specs.Body.{excess, is_within}
use Rattle.aq_desk.specs.Command.{IsWhole, Printout, after_text, printed, unwritten}
use Rattle.aq_desk.specs.Ending.{Ending, too_many_bytes, too_many_lines}
use Rattle.aq_desk.specs.Scan.{scan_answer, scan_outcome}
use Rattle.aq_desk.specs.Stop.{IsCutShort, Obeys, ending_at, ending_of, status_of}
use Rattle.aq_desk.specs.Writing.{WritesFront}
use Rattle.aq_outside.specs.Outside.{SinkView}
use Rattle.aq_desk.specs.declared.stop.Stop.{Stop}
use Rattle.aq_desk.specs.declared.stop.Stop.TheVariants.{InputFailed, Memory}

-- ---- texts and their fronts

-- nothing is a front of any text
pub nothing_written : (written : Option (List ℕ)) (text : List ℕ) → WritesFront written written text
nothing_written written text = record { count = 0; within = omega arith; written = sym (behind_nothing written) }

-- a front of a text is a front of a longer one
pub front_of_more : (before after : Option (List ℕ)) (first second : List ℕ) → WritesFront before after first → WritesFront before after (first ++ second)
front_of_more before after first second front = record {
  count = front.count;
  within = omega (arith, front.within, length-append first second);
  written = front.written ∙ ap (λ part. option_map (λ bytes. bytes ++ part) before) (sym (take-append-le front.count first second front.within));
}

-- a front of a text behind another is a front of both
pub join : (before : Option (List ℕ)) (first part : List ℕ) → option_map (λ bytes. bytes ++ part) (option_map (λ bytes. bytes ++ first) before) ≡ option_map (λ bytes. bytes ++ (first ++ part)) before
join None first part = refl
join (Some start) first part = ap Some (append_assoc start first part)

pub front_behind : (before between after : Option (List ℕ)) (first second : List ℕ) → between ≡ option_map (λ bytes. bytes ++ first) before → WritesFront between after second → WritesFront before after (first ++ second)
front_behind before between after first second written front = record {
  count = length first + front.count;
  within = omega (arith, front.within, length-append first second);
  written =
      front.written ∙ ap (option_map (λ bytes. bytes ++ take front.count second)) written
      ∙ join before first (take front.count second)
      ∙ ap (λ part. option_map (λ bytes. bytes ++ part) before) (sym (take-append-add first second front.count));
}

-- ---- a command that was cut short, or that writes nothing

pub cut_short : (outcome : Printout) (stop : Stop) (before after : SinkView) → (IsWhole (ending_at stop).status → ⊥) → WritesFront before.written after.written outcome.output → ((ending_at stop).status ≡ 4 → 0 < length outcome.output) → Obeys outcome (Err stop) before after
cut_short outcome stop before after cut front written = record {
  ending = λ whole. absurd (cut whole);
  whole = λ whole. absurd (cut whole);
  front = front;
  written = written;
}

pub without_memory : (outcome : Printout) (stop : Stop) (output : SinkView) → stop ≡ Memory → Obeys outcome (Err stop) output output
without_memory outcome stop output is =
    let P = λ (s : Stop). Obeys outcome (Err s) output output in
    subst P (sym is) (cut_short outcome Memory output output (λ whole. omega arith) (nothing_written output.written outcome.output) (λ four. absurd (omega arith)))

pub without_input : (outcome : Printout) (output : SinkView) → Obeys outcome (Err InputFailed) output output
without_input outcome output = cut_short outcome InputFailed output output (λ whole. omega arith) (nothing_written output.written outcome.output) (λ four. absurd (omega arith))

pub writes_nothing : (ending : Ending) (answer : Result Unit Stop) (output : SinkView) → ending_of answer ≡ ending → (status_of answer ≡ 4 → ⊥) → Obeys (unwritten ending) answer output output
writes_nothing ending answer output is other = record {
  ending = λ _. is;
  whole = λ _. sym (behind_nothing output.written);
  front = nothing_written output.written [];
  written = λ four. absurd (other four);
}

-- ---- the limits of a body

pub is_within-few : (body : List ℕ) → length body ≤ MOST_BYTES → line_count body ≤ MOST_LINES → is_within body ≡ true
is_within-few body bytes lines = grind (arith, nat_tests)

pub is_within-bytes : (body : List ℕ) → MOST_BYTES < length body → is_within body ≡ false
is_within-bytes body many = grind (arith, nat_tests)

pub is_within-lines : (body : List ℕ) → MOST_LINES < line_count body → is_within body ≡ false
is_within-lines body many = grind (arith, nat_tests)

many_bytes : (body : List ℕ) → MOST_BYTES < length body → nat_le (length body) MOST_BYTES ≡ false
many_bytes body many = grind (arith, nat_tests)

few_bytes : (body : List ℕ) → length body ≤ MOST_BYTES → nat_le (length body) MOST_BYTES ≡ true
few_bytes body few = grind (arith, nat_tests)

pub excess-bytes : (body : List ℕ) → MOST_BYTES < length body → excess body ≡ too_many_bytes
excess-bytes body many = ap (λ (b : Bool). if b then too_many_lines (line_count body) else too_many_bytes) (many_bytes body many)

pub excess-lines : (body : List ℕ) → length body ≤ MOST_BYTES → excess body ≡ too_many_lines (line_count body)
excess-lines body few = ap (λ (b : Bool). if b then too_many_lines (line_count body) else too_many_bytes) (few_bytes body few)

-- a body within the limits is answered, and another is not taken
pub scan_within : (site : Site) (day : ℕ) (body : List ℕ) → is_within body ≡ true → scan_outcome site day body ≡ scan_answer site day body
scan_within site day body is = ap (λ (few : Bool). if few then scan_answer site day body else unwritten (excess body)) is

pub scan_beyond : (site : Site) (day : ℕ) (body : List ℕ) → is_within body ≡ false → scan_outcome site day body ≡ unwritten (excess body)
scan_beyond site day body is = ap (λ (few : Bool). if few then scan_answer site day body else unwritten (excess body)) is

-- ---- the answer to a body

pub more_bytes : (first second : List ℕ) → 0 < length first → 0 < length (first ++ second)
more_bytes first second some = omega (arith, some, length-append first second)

pub bytes_behind : (first second : List ℕ) → 0 < length second → 0 < length (first ++ second)
bytes_behind first second some = omega (arith, some, length-append first second)

-- a text that was printed whole, and then what follows it
obeys_behind : (text : List ℕ) (outcome : Printout) (answer : Result Unit Stop) (before between after : SinkView) → between.written ≡ option_map (λ bytes. bytes ++ text) before.written → Obeys outcome answer between after → Obeys (after_text text outcome) answer before after
obeys_behind text outcome answer before between after written obeys = record {
  ending = obeys.ending;
  whole = λ whole. obeys.whole whole ∙ ap (option_map (λ bytes. bytes ++ outcome.output)) written ∙ join before.written text outcome.output;
  front = front_behind before.written between.written after.written text outcome.output written obeys.front;
  written = λ four. bytes_behind text outcome.output (obeys.written four);
}

pub taken_behind : (text : List ℕ) (outcome : Printout) (first : Unit) (answer : Result Unit Stop) (before between after : SinkView)
    → Obeys (printed text) (Ok first) before between → Obeys outcome answer between after → Obeys (after_text text outcome) answer before after
taken_behind text outcome first answer before between after told obeys = obeys_behind text outcome answer before between after (told.whole (inl refl)) obeys

-- and a text of which a front was printed
pub cut_behind : (text : List ℕ) (outcome : Printout) (stop : Stop) (answer : Result Unit Stop) (before after : SinkView) → answer ≡ Err stop → IsCutShort stop → Obeys (printed text) (Err stop) before after → Obeys (after_text text outcome) answer before after
cut_behind text outcome stop answer before after is cut told =
    let P = λ (r : Result Unit Stop). Obeys (after_text text outcome) r before after in
    subst P (sym is) (cut_short (after_text text outcome) stop before after (λ whole. omega (arith, cut, whole)) (front_of_more before.written after.written text outcome.output told.front) (λ four. more_bytes text outcome.output (told.written four)))

-- the reply and the office are those of the body
scanned : (site : Site) (day : ℕ) (body : List ℕ) → after_text (text_of (load_sheet (reply nothing 0 body))) (ask_printout (Windows site day) (load nothing 0 [] body)) ≡ scan_answer site day body
unfolding scan_answer
scanned site day body = refl

pub answers : (site : Site) (day : ℕ) (body : List ℕ) (start : Office) (told : LoadReply) (office : Office) (answer : Result Unit Stop) (before after : SinkView) → start ≡ nothing → told ≡ reply start 0 body → office ≡ load start 0 [] body
    → Obeys (after_text (text_of (load_sheet told)) (ask_printout (Windows site day) office)) answer before after → Obeys (scan_answer site day body) answer before after
answers site day body start told office answer before after empty same_reply same_office obeys =
    let P = λ (r : LoadReply). Obeys (after_text (text_of (load_sheet r)) (ask_printout (Windows site day) office)) answer before after in
    let Q = λ (o : Office). Obeys (after_text (text_of (load_sheet (reply nothing 0 body))) (ask_printout (Windows site day) o)) answer before after in
    let R = λ (outcome : Printout). Obeys outcome answer before after in
    subst R (scanned site day body)
    (subst Q (same_office ∙ ap (λ (o : Office). load o 0 [] body) empty)
    (subst P (same_reply ∙ ap (λ (o : Office). reply o 0 body) empty) obeys))
