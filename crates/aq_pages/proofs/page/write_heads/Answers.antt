use Rattle.std.specs.Prelude.{flat_map}
use Rattle.aq_pages.specs.Page.{cells, heads_table, table_start, table_end}
use Rattle.aq_pages.proofs.Pieces.{pieces3}
use Rattle.aq_pages.proofs.page.write_heads.Goals as goal

pub returns : goal.returns
unfolding heads_table
returns c =
    pieces3 c.args.out.now.items
    table_start (flat_map cells c.args.heads.now) table_end
    c.in_ok-write_table_start.ensures c.in_ok-write_lines.ensures c.in_ok-write_table_end.ensures
