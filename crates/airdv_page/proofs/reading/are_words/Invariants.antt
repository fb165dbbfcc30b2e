use Rattle.std.proofs.Common.{◌≡◌, drop}
use Rattle.std.specs.List.{list_all}
use Rattle.aq_pages.specs.Sheets.{is_word}
use Rattle.airdv_page.proofs.reading.are_words.Given as goal

abbrev pub invariant-loop-word : goal.invariant-loop-word
invariant-loop-word l = list_all is_word (drop l.word-index l.words) ≡ list_all is_word l.words
