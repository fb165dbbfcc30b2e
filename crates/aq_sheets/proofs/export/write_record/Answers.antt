use Rattle.std.proofs.Common.{◌≢◌, ◌∙◌, ◌++◌, List, ℕ, Bor, map, ap}
use Rattle.csv.specs.Writing.{row_text, writer_setup}
use Rattle.csv.specs.declared.writer.QuoteStyle.TheVariants as style
use Rattle.csv.specs.declared.writer.WriterBuilder.{WriterBuilder}
use Rattle.aq_sheets.specs.Written.{written}
use Rattle.aq_sheets.proofs.Csv.{record-text}
use Rattle.aq_sheets.proofs.export.write_record.Goals as goal

pub returns-clause-text : goal.returns-clause-text
returns-clause-text c =
    let before = c.args.records.now in
    let fields = c.args.fields.now in
    let ready = c.requires.ready in
    let unread : (writer_setup before).style ≢ style.NonNumeric = rw ready.setup (λ e. cc e) in
    c.in-Ok.ensures.bytes ready.no_field ready.no_byte unread
    ∙ ap (λ (cfg : WriterBuilder). written before ++ row_text cfg (map (λ (field : Bor (List ℕ)). field.now) fields)) ready.setup
    ∙ ap (λ (text : List ℕ). written before ++ text) (record-text fields c.requires.some)
