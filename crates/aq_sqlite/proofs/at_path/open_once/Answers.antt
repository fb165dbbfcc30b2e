use Rattle.sqlite_wal.specs.Files.{image_at}
use Rattle.sqlite_store.specs.Laws.{shut_if_dirty_at}
use Rattle.sqlite.specs.Files.{file_state}
use Rattle.aq_sqlite.proofs.FromStart.{found_is}
use Rattle.aq_sqlite.proofs.LateLemmas.{each}
use Rattle.aq_sqlite.proofs.at_path.open_once.Goals as goal

pub returns : goal.returns
returns g c = each _ _ (λ keeper h. found_is g.S.Holds.rows keeper.prepared (file_state keeper.connection) (image_at g.S.Start) (shut_if_dirty_at keeper.connection.store) g.met.S.Holds.holds h) c.keeper_from.result c.keeper_from.ensures
