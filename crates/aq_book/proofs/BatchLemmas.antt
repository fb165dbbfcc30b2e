-- The batch of a staged load, from the changes that its lines make.
use Rattle.std.proofs.Common.{◌≡◌, ℕ, List, ◌++◌, map, ap, sym, ◌∙◌, arith}
use Rattle.std.proofs.lemmas.List.{map-append}
use Rattle.aq_base.specs.declared.reply.LoadReply.{LoadReply}
use Rattle.aq_rules.specs.Kept.RowChanges.{row_batch, row_change}
use Rattle.aq_rules.specs.Lines.Lines.{body_lines}
use Rattle.aq_rules.specs.Office.Load.{after_all, load_change, reply, stored}
use Rattle.aq_rules.specs.Office.Office.{Office}
use Rattle.aq_staging.specs.Identity.{identity_of}
use Rattle.aq_staging.specs.Staged.{StagedLoad, changes_between}
use Rattle.aq_rows.specs.KeptLoads.{stored_as}
use Rattle.aq_book.specs.Staged.{own_change, IsStageOf}

own-is : (number : ℕ) (digest : List ℕ) (reply : LoadReply) → own_change (identity_of number digest) reply ≡ load_change (stored_as number digest reply)
own-is number digest reply = grind arith

pub batch_is : (staged : StagedLoad) (office : Office) (number : ℕ) (digest body : List ℕ) → IsStageOf office number digest body staged
    → map row_change staged.office_changes ++ map row_change (own_change staged.identity staged.reply) ≡ row_batch office number digest body
unfolding row_batch changes_between
batch_is staged office number digest body stage =
    let lines : staged.office_changes ≡ changes_between office (after_all office (body_lines body)) =
    stage.on.changed office.loads ∙ ap (changes_between office) stage.lines_taken in
    let own : own_change staged.identity staged.reply ≡ load_change (stored office number digest body) =
    (λ i. own_change (stage.identity_is i) (stage.reply_is i)) ∙ own-is number digest (reply office number body) in
    sym (map-append row_change staged.office_changes (own_change staged.identity staged.reply))
    ∙ (λ i. map row_change (lines i ++ own i))
