use Rattle.std.specs.Prelude.{codes}
use Rattle.aq_browser.specs.Pages.{page_name}
use Rattle.aq_pages.proofs.Pieces.{pieces3}
use Rattle.aq_browser.proofs.pages.write_page_name.Goals as goal

pub returns : goal.returns
unfolding page_name
returns c =
    pieces3 c.args.out.now.items
    (codes "<title>airdv &#183; ") c.args.words.now (codes "</title>\n</head>\n<body>\n")
    c.in_ok-extend_from_slice.ensures.items c.in_ok-extend_from_slice-2.ensures.items c.in_ok-extend_from_slice-3.ensures.items
