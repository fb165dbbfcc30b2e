use Rattle.std.proofs.Common.{◌≡◌, false, subst}
use Rattle.aq_pages.specs.Kinds.{SheetKind, has_names, names_of}
use Rattle.aq_pages.proofs.Names.{others_by_columns, others_by_heads}
use Rattle.aq_pages.proofs.kind.are_as_many.Goals as goal

pub returns-then-kind-heads : goal.returns-then-kind-heads
unfolding has_names
returns-then-kind-heads c same =
    subst (λ (kind : SheetKind). has_names (names_of c.args.heads.now) c.args.columns.now kind ≡ false) c.kind.view_is
    (others_by_heads (λ name. name.now) c.kind.inside.heads.now c.args.heads.now _ c.if-kind-heads.true)

pub returns-then-kind-columns : goal.returns-then-kind-columns
unfolding has_names
returns-then-kind-columns c same =
    subst (λ (kind : SheetKind). has_names (names_of c.args.heads.now) c.args.columns.now kind ≡ false) c.kind.view_is
    (others_by_columns (λ name. name.now) c.kind.inside.columns.now c.args.columns.now _ c.if-kind-columns.true)
