use Rattle.std.proofs.Common.{◌∙◌, sym}
use Rattle.aq_staging.proofs.OverlayLemmas.{IsOverlay-drop, IsOverlay-same, overlaid-same}
use Rattle.aq_staging.proofs.overlay.Overlay.remove.Goals as goal

pub invariant_of-self-in_default : goal.invariant_of-self-in_default
invariant_of-self-in_default c =
    IsOverlay-same c.args.key c.self.inside.shelf.now c.self.inside.changes c.self.inside.count c.self.invariant c.remove.new.self c.in_ok-before.ensures.changes c.in_ok-before.ensures.ok (sym c.in_ok-before.ensures.before ∙ c.in_default.is)

pub returns-in_default-clause-unchanged : goal.returns-in_default-clause-unchanged
returns-in_default-clause-unchanged c =
    overlaid-same c.args.key c.self.inside.shelf.now c.self.inside.changes c.self.inside.count c.self.invariant c.remove.new.self c.in_ok-before.ensures.changes c.in_ok-before.ensures.ok (sym c.in_ok-before.ensures.before ∙ c.in_default.is)
    ∙ c.self.view_is

pub invariant_of-self-2 : goal.invariant_of-self-2
invariant_of-self-2 c =
    IsOverlay-drop c.args.key c.self.inside.shelf.now c.self.inside.changes c.self.inside.count c.self.invariant c.remove.new.self c.in_ok-before.ensures.changes c.in_ok-before.ensures.ok c.in-Some.before (sym c.in_ok-before.ensures.before ∙ c.in-Some.is)
