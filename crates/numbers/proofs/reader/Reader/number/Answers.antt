use Rattle.std.proofs.Common.{◌≡◌, ℕ, Err, sym, ap, rules}
use Rattle.numbers.specs.Input.{Reading, value_of, left_by}
use Rattle.numbers.specs.Reader.{input_of}
use Rattle.numbers.specs.declared.groups.Fault.{Fault}
use Rattle.numbers.specs.Fault.{Taken, Faulty, refusal_at}
use Rattle.numbers.proofs.OnSpellings.{number_read, number_refused, one_spelling, spellings_are_read, only_spellings_are_read}
use Rattle.numbers.proofs.reader.Reader.number.Goals as goal

-- the fault that the groups were refused for
fault : (c : goal.After-from_residual) → let before = input_of c.args.self.now in (fault : Fault) × Faulty fault 4 before.bytes × (c.from_residual.result ≡ Err (refusal_at fault before.place))
fault c = search rules

pub returns-in_err-n : goal.returns-in_err-n
returns-in_err-n c =
    let before = input_of c.args.self.now in
    let faulty = fault c in
    let refused = number_refused before faulty.0 faulty.1 in
    record {
      answer = rw faulty.2 (sym (ap value_of refused));
      after = sym (ap (λ (r : Reading ℕ). left_by r before) refused);
      was_spelled = rw faulty.2 tt;
      one_spelling = one_spelling;
      spellings_read = spellings_are_read;
      only_spellings_read = only_spellings_are_read;
    }

pub returns : goal.returns
returns c =
    let before = input_of c.args.self.now in
    let left = input_of c.in_ok-n.behind in
    let taken : Taken 4 before c.in_ok-n.n left = search rules in
    let read = number_read before c.in_ok-n.n left taken in
    record {
      answer = sym (ap value_of read.0);
      after = sym (ap (λ (r : Reading ℕ). left_by r before) read.0);
      was_spelled = read.1;
      one_spelling = one_spelling;
      spellings_read = spellings_are_read;
      only_spellings_read = only_spellings_are_read;
    }
