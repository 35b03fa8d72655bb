use Rattle.std.proofs.Common.{◌-◌, ◌*◌, ◌≤◌, length}
use Rattle.std.specs.List.{range_with_len, flat_map}
use Rattle.tariffs.specs.Card.{lines_of}
use Rattle.texts.proofs.Pieces.{Begun}
use Rattle.hire.specs.Answer.{quote_line, quote_lines}
use Rattle.hire.proofs.answer.write_quotes.Given as goal

abbrev pub invariant-loop-machine : goal.invariant-loop-machine
invariant-loop-machine l =
    let lines = lines_of l.hire.card in
    record {
      begun : Begun l.initial.text 0 (quote_lines lines l.hire.work) l.text l.end (flat_map (quote_line lines l.hire.work) (range_with_len l.machine (length lines - l.machine)));
      within : l.end ≤ 63 * l.machine;
    }
