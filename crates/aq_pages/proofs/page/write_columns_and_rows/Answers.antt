use Rattle.std.specs.Prelude.{flat_map}
use Rattle.aq_pages.specs.Page.{cells, column_names, columns_and_rows, table_start, table_end}
use Rattle.aq_pages.proofs.Pieces.{pieces4}
use Rattle.aq_pages.proofs.page.write_columns_and_rows.Goals as goal

pub returns : goal.returns
unfolding columns_and_rows
returns c =
    pieces4 c.args.out.now.items
    table_start (column_names c.args.columns.now) (flat_map cells c.args.rows.now) table_end
    c.in_ok-write_table_start.ensures c.in_ok-write_column_names.ensures c.in_ok-write_lines.ensures c.in_ok-write_table_end.ensures
