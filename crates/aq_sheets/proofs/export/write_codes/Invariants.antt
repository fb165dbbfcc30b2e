use Rattle.std.proofs.Common.{◌≡◌, [], ◌++◌, map, drop}
use Rattle.aq_rules.specs.Lines.Canonical as line
use Rattle.aq_sheets.proofs.Lines.{words_behind}
use Rattle.aq_sheets.proofs.export.write_codes.Given as goal

abbrev pub invariant-loop-code : goal.invariant-loop-code
invariant-loop-code l =
    l.out.items ++ words_behind 32 l.space (map line.code_text (drop l.code-index l.codes)) ≡ l.fn.out.items ++ words_behind 32 [] (map line.code_text l.codes)
