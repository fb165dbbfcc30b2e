use Rattle.std.proofs.Common.{◌≡◌, false, map, take}
use Rattle.httparse.specs.Spans.{header_bytes}
use Rattle.aq_http.specs.Head.{has_origin}
use Rattle.aq_http.proofs.length.has_origin.Given as goal

abbrev pub invariant-loop-header : goal.invariant-loop-header
invariant-loop-header l = has_origin (map (header_bytes l.input) (take l.header-index l.headers)) ≡ false
