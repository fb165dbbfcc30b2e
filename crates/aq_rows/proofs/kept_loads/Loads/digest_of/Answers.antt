use Rattle.std.proofs.Common.{refl, ◌∙◌}
use Rattle.aq_rows.specs.KeptLoads.{digest_in}
use Rattle.aq_rows.proofs.LoadMap.{kept_of}
use Rattle.aq_rows.proofs.kept_loads.Loads.digest_of.Goals as goal

pub returns-in_err-kept : goal.returns-in_err-kept
returns-in_err-kept c =
    c.from_residual.ensures ∙ kept_of (λ kept. kept.digest) digest_in (λ _. refl) c.args.number _ _ _ c.self.view_is c.in_err-kept.ensures.value

pub returns : goal.returns
returns c = kept_of (λ kept. kept.digest) digest_in (λ _. refl) c.args.number _ _ _ c.self.view_is c.in_ok-kept.ensures.value
