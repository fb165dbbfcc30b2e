-- What a writer of records has written, and when it stands between two records.
use Rattle.std.specs.Prelude.{◌≡◌, ℕ, false, List, ◌++◌}
use Rattle.std.specs.declared.alloc.Global.{Global}
use Rattle.std.specs.declared.vec.Vec.{Vec}
use Rattle.csv.specs.Writing.{default_writer, with_style, writer_setup, fields_written, has_written, writer_under, writer_pending}
use Rattle.csv.specs.declared.writer.QuoteStyle.TheVariants.{Never}
use Rattle.csv.specs.declared.writer.Writer.{Writer}
use Rattle.csv.specs.declared.writer.WriterBuilder.{WriterBuilder}

-- fields as they are, with commas between them, and LF
abbrev pub plain : WriterBuilder
plain = with_style default_writer Never

abbrev pub written : Writer (Vec ℕ Global) → List ℕ
written w = (writer_under w).items ++ writer_pending w

pub record IsReady (w : Writer (Vec ℕ Global)) : Type 0 where
  pub setup : writer_setup w ≡ plain
  pub no_field : fields_written w ≡ 0
  pub no_byte : has_written w ≡ false
