use Rattle.std.proofs.Common.{refl, sym, ◌∙◌}
use Rattle.aq_desk.proofs.Causes.{is_run, is_status, names_command, no_run, runs}
use Rattle.aq_desk.proofs.Telling.{no_command_message, tells, writes_same}
use Rattle.aq_desk.proofs.command.run.Goals as goal

pub returns-in_default : goal.returns-in_default
returns-in_default g c = record {
  run = no_run _ _ _ _ _ _ _ _ _ _ _ (sym c.in_default.is ∙ c.read_words.ensures.command)
      (tells _ _ _ c.write_all.result (writes_same _ _ _ _ c.write_all.result no_command_message c.write_all.ensures));
}

pub returns : goal.returns
returns g c =
    let command = c.in-Some.command in
    let answer = c.perform-answer.result in
    let is = c.perform-answer.ensures in
    record {
      run = is_run command _ answer c.finish.result c.in-Some.ensures.command c.finish.ensures.status _ _ _ _ _ _ _ _ _ _ (record {
        headline = runs command _ answer _ refl refl _ _ is.acts c.finish.ensures.message;
        reasons = record {
          statuses = is_status answer;
          no_command = names_command command answer;
          input_failed = is.input_failed;
          output_failed = is.output_failed;
          keeper_failed = is.keeper_failed;
          door_failed = is.door_failed;
          only_serve = is.only_serve;
          read = is.read;
          only_migrates = is.only_migrates;
        };
        silent = is.silent;
        gone = is.gone;
        unused_input = is.unused_input;
        unused_keeper = is.unused_keeper;
        unused_output = is.unused_output;
        unused_door = is.unused_door;
      });
    }
