use Rattle.aq_sheets.proofs.Words.{word-text}
use Rattle.aq_sheets.proofs.json_text.text_in.Goals as goal

pub unreachable-requires : goal.unreachable-requires
unreachable-requires c = c.in-Err.ensures.cases.0 (word-text c.args.word.now c.requires)
