use Rattle.std.proofs.Common.{arith, sym}
use Rattle.sqlite_wal.specs.Files.{image_at}
use Rattle.sqlite.specs.State.{HasCleanDisk}
use Rattle.sqlite.specs.Files.{file_state}
use Rattle.aq_sqlite.proofs.FromStart.{found_rows}
use Rattle.aq_sqlite.proofs.from_start.keeper_from.Goals as goal

pub returns : goal.returns
returns g c clean =
    let was = c.in-Ok.connection in
    let early : HasCleanDisk (file_state c.adopt-keeper.result.connection) = omega (arith, c.prepare.ensures.crash.clean, clean) in
    let first : HasCleanDisk (file_state was) = rw (sym c.adopt-keeper.ensures.connection) early in
    let opened = c.in-Ok.ensures.opened first in
    found_rows c.prepare.new.self.prepared (file_state was) (file_state c.prepare.new.self.connection) (image_at g.S.Start) opened.0 opened.1 (c.in-Ok.ensures.found first) (rw (sym c.adopt-keeper.ensures.connection) c.prepare.ensures.rows)
