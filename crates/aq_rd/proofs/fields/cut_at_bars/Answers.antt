use Rattle.std.proofs.Common.{arith}
use Rattle.aq_rd.proofs.Scans.{scanned-start, scanned-same, scanned-bar, scanned-bar_beyond, scanned-text, scanned-end}
use Rattle.aq_rd.proofs.fields.cut_at_bars.Goals as goal
use Rattle.aq_rd.proofs.fields.cut_at_bars.Goals.{then-byte-eq124, then-count-lt-MOST_STARTS, else-count-lt-MOST_STARTS, else-byte-eq124}

pub loop-place-init : goal.loop-place-init
loop-place-init c = scanned-start c.args.line.now

pub loop-place-preserved : goal.loop-place-preserved
loop-place-preserved c =
    let s = c.loop-place.invariant in
    elim c.if-byte-eq124.branch [
      | then-byte-eq124 w ↦
          elim w.if-count-lt-MOST_STARTS.branch [
            | then-count-lt-MOST_STARTS v ↦ scanned-same (cc) (cc) (scanned-bar _ _ _ _ s c.loop-place-test.true w.if-byte-eq124.true v.if-count-lt-MOST_STARTS.true)
            | else-count-lt-MOST_STARTS v ↦ scanned-same (cc) (cc) (scanned-bar_beyond _ _ _ _ s c.loop-place-test.true w.if-byte-eq124.true v.if-count-lt-MOST_STARTS.false)
          ]
      | else-byte-eq124 w ↦ scanned-same (cc) (cc) (scanned-text _ _ _ _ s c.loop-place-test.true w.if-byte-eq124.false)
    ]

pub returns : goal.returns
returns c = scanned-end _ _ _ _ c.loop-place.invariant (omega (arith, c.loop-place-test.false))
