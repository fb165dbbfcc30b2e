use Rattle.std.proofs.Common.{Bor, refl, ap, ◌∙◌}
use Rattle.std.specs.Prelude.{option_map}
use Rattle.aq_base.specs.declared.reply.LoadReply.{LoadReply}
use Rattle.aq_rows.specs.KeptLoads.{reply_in}
use Rattle.aq_rows.proofs.LoadMap.{kept_of}
use Rattle.aq_rows.proofs.kept_loads.Loads.reply_of.Goals as goal

pub returns-in_err-kept : goal.returns-in_err-kept
returns-in_err-kept c =
    ap (option_map (λ (reply : Bor LoadReply). reply.now)) c.from_residual.ensures
    ∙ kept_of (λ kept. kept.reply) reply_in (λ _. refl) c.args.number _ _ _ c.self.view_is c.in_err-kept.ensures.value

pub returns : goal.returns
returns c = kept_of (λ kept. kept.reply) reply_in (λ _. refl) c.args.number _ _ _ c.self.view_is c.in_ok-kept.ensures.value
