use Rattle.std.specs.Prelude.{◌+◌, ◌*◌, codes}
use Rattle.aq_pages.specs.Html.{svg_start}
use Rattle.aq_pages.specs.Pictures.{bars_from, decisions_from, highest_at, level_across}
use Rattle.aq_pages.proofs.Pieces.{pieces5}
use Rattle.aq_pages.proofs.bars.write_highest_at.Goals as goal

pub returns : goal.returns
unfolding highest_at
returns c =
    pieces5 c.args.out.now.items
    (svg_start 720 (16 + c.args.layout.room + 64 * c.args.count)) (bars_from c.args.layout.value c.args.layout.verdict c.args.layout.top c.args.layout.room 0 c.args.lines.now) (decisions_from c.args.decides.now c.args.layout.room 0 c.args.lines.now) (level_across c.args.layout.top c.args.count c.args.level) (codes "</svg>\n")
    c.in_ok-write_svg_start.ensures c.in_ok-write_bars.ensures c.in_ok-write_decisions.ensures c.in_ok-write_level_across.ensures c.in_ok-extend_from_slice.ensures.items
