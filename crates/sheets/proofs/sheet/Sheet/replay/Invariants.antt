use Rattle.std.proofs.Common.{take}
use Rattle.sheets.specs.History.{Known}
use Rattle.sheets.proofs.sheet.Sheet.replay.Given as goal

abbrev pub invariant-loop-call : goal.invariant-loop-call
invariant-loop-call l = Known l.sheet (take l.call-index l.calls)
