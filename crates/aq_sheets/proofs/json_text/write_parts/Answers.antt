use Rattle.std.proofs.Common.{◌∙◌, ◌++◌, [], ◌∷◌, ap}
use Rattle.json.specs.Token.{Token}
use Rattle.aq_sheets.proofs.Sending.{next-part, part-more, parts-end}
use Rattle.aq_sheets.proofs.json_text.write_parts.Goals as goal

pub text_in-requires : goal.text_in-requires
text_in-requires c =
    (next-part (c.in-Some.name.now, c.in-Some.part.now) c.loop-name.name-iterator c.next.new.self c.in-Some.ensures.steps c.loop-name.invariant.left).0

pub write_part-requires : goal.write_part-requires
write_part-requires c =
    (next-part (c.in-Some.name.now, c.in-Some.part.now) c.loop-name.name-iterator c.next.new.self c.in-Some.ensures.steps c.loop-name.invariant.left).1.0

pub loop-name-preserved : goal.loop-name-preserved
loop-name-preserved c = record {
  before = c.in_ok-write_part.ensures.before ∙ c.in_ok-key.ensures.room.0 ∙ c.loop-name.invariant.before;
  tokens =
      part-more (c.in-Some.name.now, c.in-Some.part.now) c.loop-name.name-iterator c.next.new.self _ c.loop-name.out.tokens _ _ c.in-Some.ensures.steps
      c.loop-name.invariant.tokens (c.in_ok-key.ensures.ok ∙ ap (λ text. c.loop-name.out.tokens ++ Token.key text ∷ []) c.text_in.ensures)
      c.in_ok-write_part.ensures.tokens;
  left =
      (next-part (c.in-Some.name.now, c.in-Some.part.now) c.loop-name.name-iterator c.next.new.self c.in-Some.ensures.steps c.loop-name.invariant.left).1.1;
}

pub returns-clause-tokens : goal.returns-clause-tokens
returns-clause-tokens c =
    parts-end c.args.parts.now.entries c.loop-name.name-iterator _ _ _ c.in-None.ensures.steps.0 c.loop-name.invariant.tokens c.in_ok-end_object.ensures.ok
