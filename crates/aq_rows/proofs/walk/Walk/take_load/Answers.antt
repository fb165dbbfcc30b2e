use Rattle.std.proofs.Common.{◌∙◌, sym, ap, ◌++◌, ◌∷◌, []}
use Rattle.std.specs.Prelude.{option_map}
use Rattle.std.proofs.lemmas.Bool.{and_parts}
use Rattle.aq_rules.specs.Office.Office.{load_rank, rises}
use Rattle.aq_rows.specs.KeptLoads.{stored_entry}
use Rattle.aq_rows.specs.OneMoreRow.{has_none}
use Rattle.aq_rows.specs.Walking.{standing}
use Rattle.aq_rows.proofs.Following.{load-unsaid, load-not-next, load-follows}
use Rattle.aq_rows.proofs.walk.Walk.take_load.Goals as goal

pub returns-in_default-clause-refused : goal.returns-in_default-clause-refused
returns-in_default-clause-refused c =
    load-unsaid (standing c.args.self.now) c.args.row.now (ap (option_map stored_entry) (sym c.in_default.is) ∙ c.in_ok-number.ensures)

pub returns-then-not-is_next_load-clause-refused : goal.returns-then-not-is_next_load-clause-refused
returns-then-not-is_next_load-clause-refused c =
    load-not-next (standing c.args.self.now) c.args.row.now (stored_entry (c.in-Some.number, c.in-Some.kept)) (ap (option_map stored_entry) (sym c.in-Some.is) ∙ c.in_ok-number.ensures)
    (sym (c.is_next_load.ensures c.in-Some.kept) ∙ c.if-not-is_next_load.true)

pub put_load-requires : goal.put_load-requires
put_load-requires c =
    let kept = stored_entry (c.in-Some.number, c.in-Some.kept) in
    let next = sym (c.is_next_load.ensures c.in-Some.kept) ∙ c.if-not-is_next_load.false in
    record { rising = (and_parts (has_none c.args.self.now.shelf) (rises load_rank (c.args.self.now.loads ++ kept ∷ [])) next).1 }

pub returns-clause-taken : goal.returns-clause-taken
returns-clause-taken c =
    load-follows c.args.self.now c.args.row.now (stored_entry (c.in-Some.number, c.in-Some.kept)) c.put_load.new.loads c.requires (ap (option_map stored_entry) (sym c.in-Some.is) ∙ c.in_ok-number.ensures)
    (sym (c.is_next_load.ensures c.in-Some.kept) ∙ c.if-not-is_next_load.false) c.in_ok-put_load.ensures.room c.in_ok-put_load.ensures.ok
