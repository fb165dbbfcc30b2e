use Rattle.std.proofs.Common.{◌≡◌, codes, map, take}
use Rattle.httparse.specs.Spans.{header_bytes}
use Rattle.http1.specs.Fields.{values_named}
use Rattle.aq_http.specs.Length.{Absent, OnDigits, stated_of, stated_onto}
use Rattle.aq_http.proofs.length.stated_length.Given as goal

abbrev pub invariant-loop-header : goal.invariant-loop-header
invariant-loop-header l = record {
  value : stated_of l.stated ≡ stated_onto Absent (values_named (codes "content-length") (map (header_bytes l.input) (take l.header-index l.headers)));
  digits : OnDigits (stated_of l.stated);
}
