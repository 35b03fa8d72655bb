use Rattle.std.proofs.Common.{◌≡◌, ◌-◌, ◌<◌, ◌≤◌, length, take, drop, Ok, ◌∙◌, ap, sym, arith}
use Rattle.std.proofs.lemmas.List.{append-nil}
use Rattle.tariffs.specs.Card.{lines_of}
use Rattle.refusals.specs.Answer.{answer_of}
use Rattle.tariffs.specs.Card.{card_meaning}
use Rattle.tariffs.specs.Ranges.{length_lines, card_ranged}
use Rattle.texts.specs.TooShort.{too_short_told}
use Rattle.texts.proofs.Puts.{put_same}
use Rattle.texts.proofs.Pieces.{begun_none, begun_same, begun_more, written_puts}
use Rattle.hire.specs.Answer.{quote_line}
use Rattle.hire.proofs.Quotes.{quote_length, part_put_in, all_of_range, next_of_range, none_of_range}
use Rattle.hire.proofs.answer.write_quotes.Goals as goal

pub loop-machine-init : goal.loop-machine-init
loop-machine-init c = record {
  begun = begun_same _ _ _ _ _ _ (begun_none _ _ _) _ (all_of_range (quote_line (lines_of c.args.hire.now.card) c.args.hire.now.work) (length (lines_of c.args.hire.now.card)));
  within = omega arith;
}

pub slice_bounds-write_quote-count : goal.slice_bounds-write_quote-count
slice_bounds-write_quote-count c =
    let few = length_lines c.args.hire.now.card in
    omega (arith, c.loop-machine.invariant.within, c.loop-machine-test.true, c.machines-machine-end.ensures)

pub loop-machine-preserved : goal.loop-machine-preserved
loop-machine-preserved c =
    let card = c.args.hire.now.card in
    let work = c.args.hire.now.work in
    let machine = c.loop-machine.machine in
    let end = c.loop-machine.end in
    let text = c.loop-machine.text in
    let last = length (lines_of card) in
    let line = quote_line (lines_of card) work machine in
    let few = length_lines card in
    let here : machine < last = omega (arith, c.loop-machine-test.true, c.machines-machine-end.ensures) in
    let long : length line ≤ 63 = quote_length (card_meaning card) (card_ranged card) machine work (omega (arith, here, few)) in
    let all : length text ≡ 2016 = c.loop-machine.invariant.begun.put.long ∙ c.told-text in
    let inside : end ≤ 2016 = omega (arith, c.loop-machine.invariant.within, here, few) in
    let written = written_puts line (take (2016 - end) (drop end text)) c.write_quote.new.memory (Ok c.unwrap-end.result) (ap (answer_of too_short_told) (sym c.unwrap-end.ensures) ∙ c.write_quote.ensures.text.answer) c.write_quote.ensures.text.after in
    record {
      begun = begun_more _ _ _ _ _ _ c.loop-machine.invariant.begun line _ _ _ (next_of_range (quote_line (lines_of card) work) machine last here) (part_put_in text line c.write_quote.new.memory 2016 end c.unwrap-end.result all inside written);
      within = omega (arith, c.loop-machine.invariant.within, written.ends, long);
    }

pub returns : goal.returns
returns c =
    let card = c.args.hire.now.card in
    let last = length (lines_of card) in
    let none = none_of_range (quote_line (lines_of card) c.args.hire.now.work) c.loop-machine.machine last (omega (arith, c.loop-machine-test.false, c.machines-machine-end.ensures)) in
    let begun = begun_same _ _ _ _ _ _ c.loop-machine.invariant.begun _ none in
    put_same _ _ _ _ _ _ (sym (append-nil begun.front) ∙ begun.parted) begun.put
