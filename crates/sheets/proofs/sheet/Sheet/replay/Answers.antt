use Rattle.std.proofs.Common.{ap, ◌∙◌, arith}
use Rattle.std.proofs.lemmas.List.{take_all}
use Rattle.sheets.specs.History.{book_after}
use Rattle.sheets.proofs.Histories.{book_sound, task_numbers_are_never_reused, tasks_keep_their_stages, struck_tasks_stay_as_they_are, other_tasks_stay_as_they_are, refused_calls_can_be_left_out}
use Rattle.sheets.proofs.Calls.{every_sheet_has_known_some_calls}
use Rattle.sheets.proofs.Applies.{the_smallest_refusal_is_told}
use Rattle.sheets.proofs.sheet.Sheet.replay.Goals as goal

pub returns : goal.returns
returns c = record {
  known = c.loop-call.invariant ∙ ap book_after (take_all c.loop-call.call-index c.args.calls.now (omega arith));
  every_sheet_known = every_sheet_has_known_some_calls;
  smallest_refusal_told = the_smallest_refusal_is_told;
  books_sound = book_sound;
  numbers_never_reused = task_numbers_are_never_reused;
  stages_kept = tasks_keep_their_stages;
  struck_tasks_kept = struck_tasks_stay_as_they_are;
  other_tasks_kept = other_tasks_stay_as_they_are;
  refused_left_out = refused_calls_can_be_left_out;
}
