use Rattle.std.proofs.Common.{arith, refl}
use Rattle.aq_desk.proofs.Causes.{keeper_kind, keeper_rises, printing, serving, simulate_over, without_keeper, without_reading}
use Rattle.aq_desk.proofs.Printing.{cut_status}
use Rattle.aq_desk.proofs.Serving.{serve_door, serve_keeper, serve_status}
use Rattle.aq_desk.proofs.Unread.{stays_at}
use Rattle.aq_desk.specs.Ask.{ask_outcome, ask_printout}
use Rattle.std.specs.Prelude.{true}
use Rattle.aq_desk.specs.Scan.{scan_outcome}
use Rattle.aq_words.specs.declared.words.Command.TheVariants.{Scan, Load, Serve, Simulate}
use Rattle.aq_desk.proofs.command.perform.Goals as goal

pub returns-in-Scan-clause-acts : goal.returns-in-Scan-clause-acts
returns-in-Scan-clause-acts g c =
    printing c.args.command.now (Scan c.in-Scan.site c.in-Scan.day) c.in-Scan.is refl c.scan.result _ _ _ _ _
    (without_keeper (scan_outcome c.in-Scan.site c.in-Scan.day) true _ c.scan.result _ _ _ c.scan.ensures.told)

pub returns-in-Load-clause-acts : goal.returns-in-Load-clause-acts
returns-in-Load-clause-acts g c = printing c.args.command.now (Load c.in-Load.number) c.in-Load.is refl c.load.result _ _ _ _ _ c.load.ensures.told

pub returns-in-Draft-clause-acts : goal.returns-in-Draft-clause-acts
returns-in-Draft-clause-acts g c = printing c.args.command.now _ c.in-Draft.is refl c.draft.result _ _ _ _ _ c.draft.ensures.told

pub returns-in-Ask-clause-acts : goal.returns-in-Ask-clause-acts
returns-in-Ask-clause-acts g c =
    printing c.args.command.now _ c.in-Ask.is refl c.ask.result _ _ _ _ _
    (without_reading (ask_outcome (ask_printout _)) _ c.ask.result _ _ _ _ c.ask.ensures.no_input.1 c.ask.ensures.told)

pub returns-in-Serve-clause-acts : goal.returns-in-Serve-clause-acts
returns-in-Serve-clause-acts g c = serving c.args.command.now c.in-Serve.port c.in-Serve.connections c.in-Serve.is c.serve.result _ _ _ _ _ c.serve.ensures.served

pub returns-in-Simulate-clause-acts : goal.returns-in-Simulate-clause-acts
returns-in-Simulate-clause-acts g c =
    printing c.args.command.now (Simulate c.in-Simulate.start c.in-Simulate.sites c.in-Simulate.years) c.in-Simulate.is refl c.simulate.result _ _ _ _ _
    (simulate_over c.in-Simulate.start c.in-Simulate.sites c.in-Simulate.years _ _ c.simulate.result _ _ (λ ten. omega (arith, ten, cut_status c.simulate.result c.simulate.ensures.cut)) c.simulate.ensures.told)

pub returns-in-Scan-clause-keeper_failed : goal.returns-in-Scan-clause-keeper_failed
returns-in-Scan-clause-keeper_failed g c = keeper_rises _ _ _ _ (stays_at 5 _ _ c.scan.ensures.no_keeper)

pub returns-in-Scan-clause-door_failed : goal.returns-in-Scan-clause-door_failed
returns-in-Scan-clause-door_failed g c = stays_at 8 _ _ c.scan.ensures.no_door

pub returns-in-Load-clause-keeper_failed : goal.returns-in-Load-clause-keeper_failed
returns-in-Load-clause-keeper_failed g c = keeper_rises _ _ _ _ c.load.ensures.keeper_failed

pub returns-in-Load-clause-door_failed : goal.returns-in-Load-clause-door_failed
returns-in-Load-clause-door_failed g c = stays_at 8 _ _ c.load.ensures.no_door

pub returns-in-Draft-clause-keeper_failed : goal.returns-in-Draft-clause-keeper_failed
returns-in-Draft-clause-keeper_failed g c = keeper_rises _ _ _ _ c.draft.ensures.keeper_failed

pub returns-in-Draft-clause-door_failed : goal.returns-in-Draft-clause-door_failed
returns-in-Draft-clause-door_failed g c = stays_at 8 _ _ c.draft.ensures.no_door

pub returns-in-Ask-clause-keeper_failed : goal.returns-in-Ask-clause-keeper_failed
returns-in-Ask-clause-keeper_failed g c = keeper_rises _ _ _ _ c.ask.ensures.keeper_failed

pub returns-in-Ask-clause-door_failed : goal.returns-in-Ask-clause-door_failed
returns-in-Ask-clause-door_failed g c = stays_at 8 _ _ c.ask.ensures.no_door

pub returns-in-Serve-clause-input_failed : goal.returns-in-Serve-clause-input_failed
returns-in-Serve-clause-input_failed g c =
    let over = c.serve.ensures.served in
    stays_at 3 _ _ (λ three. omega (arith, three, serve_status _ _ _ _ _ over.says.0))

pub returns-in-Serve-clause-output_failed : goal.returns-in-Serve-clause-output_failed
returns-in-Serve-clause-output_failed g c =
    let over = c.serve.ensures.served in
    stays_at 4 _ _ (λ four. omega (arith, four, serve_status _ _ _ _ _ over.says.0))

pub returns-in-Serve-clause-keeper_failed : goal.returns-in-Serve-clause-keeper_failed
returns-in-Serve-clause-keeper_failed g c =
    let over = c.serve.ensures.served in
    keeper_kind c.args.command.now (Serve c.in-Serve.port c.in-Serve.connections) c.in-Serve.is _ _ _ (serve_keeper _ _ _ _ _ over.says.0)

pub returns-in-Serve-clause-door_failed : goal.returns-in-Serve-clause-door_failed
returns-in-Serve-clause-door_failed g c =
    let over = c.serve.ensures.served in serve_door _ _ _ _ _ over.says.0

pub returns-in-Simulate-clause-input_failed : goal.returns-in-Simulate-clause-input_failed
returns-in-Simulate-clause-input_failed g c = stays_at 3 _ _ (λ three. omega (arith, three, cut_status c.simulate.result c.simulate.ensures.cut))

pub returns-in-Simulate-clause-keeper_failed : goal.returns-in-Simulate-clause-keeper_failed
returns-in-Simulate-clause-keeper_failed g c = keeper_rises _ _ _ _ (stays_at 5 _ _ (λ five. omega (arith, five, cut_status c.simulate.result c.simulate.ensures.cut)))

pub returns-in-Simulate-clause-door_failed : goal.returns-in-Simulate-clause-door_failed
returns-in-Simulate-clause-door_failed g c = stays_at 8 _ _ (λ eight. omega (arith, eight, cut_status c.simulate.result c.simulate.ensures.cut))

pub returns-in-Simulate-clause-silent : goal.returns-in-Simulate-clause-silent
returns-in-Simulate-clause-silent g c = λ nothing. absurd (omega (arith, nothing, cut_status c.simulate.result c.simulate.ensures.cut))
