use Rattle.std.specs.Prelude.{codes, false, []}
use Rattle.aq_pages.specs.Subject.{page_title, subject_from}
use Rattle.aq_pages.proofs.Pieces.{pieces3}
use Rattle.aq_pages.proofs.subject.write_page_title.Goals as goal

pub returns : goal.returns
unfolding page_title
returns c =
    pieces3 c.args.out.now.items
    (codes "<title>airdv") (subject_from false (codes " &#183; ") [] c.args.lines.now) (codes "</title>\n</head>\n<body>\n")
    c.in_ok-extend_from_slice.ensures.items c.in_ok-write_subject.ensures c.in_ok-extend_from_slice-2.ensures.items
