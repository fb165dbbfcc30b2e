use Rattle.std.proofs.Common.{◌∙◌, arith, Option, List, unwrap_or, refl, ap}
use Rattle.aq_base.specs.declared.office.OfficeRecord.{OfficeRecord}
use Rattle.aq_rules.specs.Office.Office.{Office}
use Rattle.aq_rules.specs.Ozone.OzoneDay.{windows}
use Rattle.aq_rules.specs.Questions.Answer.{is_registered}
use Rattle.aq_book.specs.Staged.{kept_under}
use Rattle.aq_book.proofs.LoadlessAnswers.{windows_are}
use Rattle.aq_book.proofs.StageLemmas.{room-after, taken-office}
use Rattle.aq_book.proofs.book.Book.windows_after.Goals as goal

pub onto-requires : goal.onto-requires
onto-requires g c =
    room-after c.args.staged c.args.self c.self.inside.registry c.self.inside.shelf c.self.inside.loads c.self.view_is c.requires

pub returns-then-not-has_site-clause-registered : goal.returns-then-not-has_site-clause-registered
returns-then-not-has_site-clause-registered g c =
    let records_are = c.registry_after-registry.ensures ∙ ap (λ (o : Option (List OfficeRecord)). unwrap_or o c.self.inside.registry) c.in_ok-taken.ensures.records in
    let after =
    taken-office c.args.staged c.args.self c.self.inside.registry c.self.inside.shelf c.self.inside.loads c.self.view_is
    c.registry_after-registry.result.now records_are c.in_ok-taken.taken.shelf c.in_ok-taken.ensures.observations c.in_ok-taken.taken.identity c.in_ok-taken.ensures.identity
    c.in_ok-taken.taken.reply c.in_ok-taken.ensures.reply (kept_under c.in_ok-taken.taken.identity c.in_ok-taken.taken.reply c.self.inside.loads) refl
    in
    let same = ap (λ (office : Office). is_registered office c.args.site) after in
    let found = c.has_site.ensures in
    let missing = c.if-not-has_site.true in
    grind arith

pub returns-clause-windows : goal.returns-clause-windows
returns-clause-windows g c =
    let records_are = c.registry_after-registry.ensures ∙ ap (λ (o : Option (List OfficeRecord)). unwrap_or o c.self.inside.registry) c.in_ok-taken.ensures.records in
    let loads = kept_under c.in_ok-taken.taken.identity c.in_ok-taken.taken.reply c.self.inside.loads in
    c.day_windows.ensures.windows
    ∙ windows_are c.registry_after-registry.result.now c.in_ok-taken.taken.shelf loads c.args.site c.args.day
    ∙ ap (λ (office : Office). windows office c.args.site c.args.day)
    (taken-office c.args.staged c.args.self c.self.inside.registry c.self.inside.shelf c.self.inside.loads c.self.view_is
    c.registry_after-registry.result.now records_are c.in_ok-taken.taken.shelf c.in_ok-taken.ensures.observations c.in_ok-taken.taken.identity c.in_ok-taken.ensures.identity
    c.in_ok-taken.taken.reply c.in_ok-taken.ensures.reply loads refl)

pub returns-clause-registered : goal.returns-clause-registered
returns-clause-registered g c =
    let records_are = c.registry_after-registry.ensures ∙ ap (λ (o : Option (List OfficeRecord)). unwrap_or o c.self.inside.registry) c.in_ok-taken.ensures.records in
    let after =
    taken-office c.args.staged c.args.self c.self.inside.registry c.self.inside.shelf c.self.inside.loads c.self.view_is
    c.registry_after-registry.result.now records_are c.in_ok-taken.taken.shelf c.in_ok-taken.ensures.observations c.in_ok-taken.taken.identity c.in_ok-taken.ensures.identity
    c.in_ok-taken.taken.reply c.in_ok-taken.ensures.reply (kept_under c.in_ok-taken.taken.identity c.in_ok-taken.taken.reply c.self.inside.loads) refl
    in
    let same = ap (λ (office : Office). is_registered office c.args.site) after in
    let found = c.has_site.ensures in
    let there = c.if-not-has_site in
    grind arith
