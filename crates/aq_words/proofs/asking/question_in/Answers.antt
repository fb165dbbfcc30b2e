use Rattle.std.proofs.Common.{arith, map, string_bytes, Global}
use Rattle.std.proofs.lemmas.List.{length-map}
use Rattle.aq_words.proofs.Counted.{too_many_words}
use Rattle.aq_words.proofs.asking.question_in.Goals as goal

pub returns-in_default : goal.returns-in_default
returns-in_default c =
    too_many_words c.args.topic (map (string_bytes {Z = Global}) c.args.words.now)
    (omega (arith, c.in_default.len_at_least, length-map c.args.words.now (string_bytes {Z = Global})))
