use Rattle.std.proofs.Common.{[], false, sym, ◌∙◌, rules}
use Rattle.std.proofs.lemmas.Bool.{false≢true}
use Rattle.sqlite.specs.Kind.TheVariants.{Integer}
use Rattle.aq_tables.specs.declared.forms.ColumnForm.{ColumnForm}
use Rattle.aq_tables.specs.Forms.{column_in}
use Rattle.aq_tables.proofs.Fitting.{next_same, same_place}
use Rattle.aq_tables.proofs.forms.are_columns.Goals as goal

pub loop-place-preserved : goal.loop-place-preserved
loop-place-preserved c =
    let form : ColumnForm = record { name = record { ref_ptr = (0, 0); now = [] }; kind = Integer; not_null = false } in
    next_same column_in c.args.forms.now c.args.columns.now c.loop-place.place form c.index-columns-place.result (search rules) (search rules) c.loop-place.invariant
    (sym c.index-columns-place.is ∙ c.is_column.ensures.0 c.if-not-is_column.false)

pub returns-then-not-is_column : goal.returns-then-not-is_column
returns-then-not-is_column c =
    let form : ColumnForm = record { name = record { ref_ptr = (0, 0); now = [] }; kind = Integer; not_null = false } in (
      λ no. absurd (false≢true no),
      λ is.
          let here = same_place column_in c.args.forms.now c.args.columns.now c.loop-place.place form c.index-columns-place.result (search rules) is in
          let fits = c.is_column.ensures.1 (c.index-columns-place.is ∙ here) in
          let not_so = c.if-not-is_column.true in
          cc,
    )
