use Rattle.std.proofs.Common.{◌++◌, ◌∙◌, codes, refl}
use Rattle.std.specs.Prelude.{Ok, Err, decimal}
use Rattle.aq_rules.specs.Kept.RowChanges.{table_name}
use Rattle.aq_desk.proofs.Telling.{damaged_message, writes_cut, writes_same, writes_then}
use Rattle.aq_desk.proofs.messages.write_damaged.Goals as goal

pub returns-in_err-write_all : goal.returns-in_err-write_all
returns-in_err-write_all g c =
    let first = codes "airdv: 6 damaged " in
    let name = table_name c.args.table in
    let last = (codes " " ++ decimal c.args.index) ++ codes "\n" in
    writes_same ((first ++ name) ++ last) _ _ _ c.from_residual.result (damaged_message c.args.table c.args.index)
    (writes_cut (first ++ name) last _ _ _ _ c.from_residual.ensures.0
    (writes_cut first name _ _ c.in_err-write_all.field-0.0 _ refl c.in_err-write_all.ensures))

pub returns-in_err-write_all-2 : goal.returns-in_err-write_all-2
returns-in_err-write_all-2 g c =
    let first = codes "airdv: 6 damaged " in
    let name = table_name c.args.table in
    let last = (codes " " ++ decimal c.args.index) ++ codes "\n" in
    writes_same ((first ++ name) ++ last) _ _ _ c.from_residual-in_err-write_all-2.result (damaged_message c.args.table c.args.index)
    (writes_cut (first ++ name) last _ _ c.in_err-write_all-2.field-0.0 _ c.from_residual-in_err-write_all-2.ensures.0
    (writes_then first name _ _ _ c.in_ok-write_all.field-0 _ c.in_ok-write_all.ensures (writes_same _ _ _ _ (Err c.in_err-write_all-2.field-0.0) (c.as_bytes.ensures.value ∙ c.table_name.ensures) c.in_err-write_all-2.ensures)))

pub returns : goal.returns
returns g c =
    let first = codes "airdv: 6 damaged " in
    let name = table_name c.args.table in
    let last = (codes " " ++ decimal c.args.index) ++ codes "\n" in
    writes_same ((first ++ name) ++ last) _ _ _ c.write_counted.result (damaged_message c.args.table c.args.index)
    (writes_then (first ++ name) last _ _ _ c.in_ok-write_all-2.field-0 _
    (writes_then first name _ _ _ c.in_ok-write_all.field-0 _ c.in_ok-write_all.ensures (writes_same _ _ _ _ (Ok c.in_ok-write_all-2.field-0) (c.as_bytes.ensures.value ∙ c.table_name.ensures) c.in_ok-write_all-2.ensures))
    c.write_counted.ensures)
