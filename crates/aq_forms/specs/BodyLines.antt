-- The lines of a body as the code hands them out.
use Rattle.std.specs.Prelude.{ℕ, ◌+◌, List, map, filter, not}
use Rattle.aq_rules.specs.Lines.Lines.{NumberedLine, cut_at_ends, without_return, is_skipped, numbered}
use Rattle.aq_forms.specs.declared.lines.BodyLine.{BodyLine}

abbrev pub line_of : BodyLine → NumberedLine
line_of line = record { number = line.number; text = line.text.now }

-- the lines of what is left of a body, skipped ones left out, if so many lines stand before it
abbrev pub lines_behind : ℕ → List ℕ → List NumberedLine
lines_behind before rest =
    filter (λ line. not (is_skipped line.text)) (numbered (before + 1) (map without_return (cut_at_ends rest)))
