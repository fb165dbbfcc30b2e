use Rattle.std.proofs.Common.{◌++◌, ◌∷◌, ◌∙◌, List, ℕ, ap, sym}
use Rattle.aq_rules.specs.Lines.Canonical.{rd_texts, canonical_rd, texts_behind, monitor_texts, start_texts}
use Rattle.aq_rd.specs.RdReading.{value_of}
use Rattle.aq_rd.proofs.Printed.{put-written, delete-written}
use Rattle.aq_rd.proofs.print.write_line.Goals as goal

pub returns-in_ok-write_codes-in-Put : goal.returns-in_ok-write_codes-in-Put
unfolding rd_texts
returns-in_ok-write_codes-in-Put c =
    let at = λ (before : List ℕ) (text : List ℕ). before ++ 124 ∷ text in
    put-written c.args.out.now.items c.extend_from_slice.new.self.items c.write_field.new.out.items c.write_monitor.new.out.items c.write_field-in-Put.new.out.items
    c.write_field-in-Put-2.new.out.items c.write_method.new.out.items c.write_start.new.out.items c.write_value.new.out.items c.write_codes.new.out.items
    _ _ _ _ _ _ (monitor_texts c.in-Put.monitor) (start_texts c.in-Put.hour) (texts_behind c.in-Put.content.null c.in-Put.content.quals)
    c.in_ok-extend_from_slice-in-Put.ensures.items
    (c.in_ok-write_field-in-Put.ensures.written ∙ ap (at c.extend_from_slice.new.self.items) c.action_name.ensures)
    c.in_ok-write_monitor-in-Put.ensures
    (c.in_ok-write_field-in-Put-2.ensures.written ∙ ap (at c.write_monitor.new.out.items) c.duration_name.ensures)
    (c.in_ok-write_field-in-Put-3.ensures.written ∙ ap (at c.write_field-in-Put.new.out.items) c.unit_name.ensures)
    c.in_ok-write_method-in-Put.ensures
    c.in_ok-write_start-in-Put.ensures.written c.in_ok-write_value-in-Put.ensures c.in_ok-write_codes-in-Put.ensures
    ∙ sym (ap (λ line. c.args.out.now.items ++ canonical_rd (value_of line)) c.in-Put.is)

pub returns-in_ok-write_start-in-Delete : goal.returns-in_ok-write_start-in-Delete
unfolding rd_texts
returns-in_ok-write_start-in-Delete c =
    delete-written c.args.out.now.items c.extend_from_slice-in-Delete.new.self.items c.write_field-in-Delete.new.out.items c.write_monitor-in-Delete.new.out.items
    c.extend_from_slice-in-Delete-2.new.self.items c.write_start-in-Delete.new.out.items _ _ (monitor_texts c.in-Delete.monitor) (start_texts c.in-Delete.hour)
    c.in_ok-extend_from_slice-in-Delete.ensures.items c.in_ok-write_field-in-Delete.ensures.written c.in_ok-write_monitor-in-Delete.ensures
    c.in_ok-extend_from_slice-in-Delete-2.ensures.items c.in_ok-write_start-in-Delete.ensures.written
    ∙ sym (ap (λ line. c.args.out.now.items ++ canonical_rd (value_of line)) c.in-Delete.is)
