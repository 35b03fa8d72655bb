-- The verdict on two sheets, whatever calls they have known
use Rattle.std.proofs.Common.{◌≡◌, Bool, true, false, ◌↔◌, List, Ok, Err, Result, sym, ◌∙◌}
use Rattle.std.specs.Result.{IfOk}
use Rattle.refusals.specs.Answer.{answer_of, refused_if}
use Rattle.costs.specs.Kind.{Kind, Laws}
use Rattle.tariffs.specs.Meaning.{Meaning, Ranged}
use Rattle.sheets.specs.declared.call.Call.{Call}
use Rattle.sheets.specs.declared.sheet.Sheet.{Sheet}
use Rattle.sheets.specs.Book.{Book, book}
use Rattle.sheets.specs.History.{book_after}
use Rattle.sheets.proofs.Calls.{of_every_sheet}
use Rattle.sheets.proofs.Histories.{book_sound}
use Rattle.model.specs.declared.cell.Cell.{Cell}
use Rattle.model.specs.declared.point.Point.{Point}
use Rattle.model.specs.Front.{front}
use Rattle.model.specs.Bargain.{Matched, Verdict}
use Rattle.model.proofs.Bargains.{fronts_by_assignments, same_bargains}
use Rattle.planner.specs.declared.refusal.QuestionRefusal.{QuestionRefusal}
use Rattle.planner.specs.Refusal.{question_told}
use Rattle.planner.specs.Bargain.{same_points, bargains_answer}
use Rattle.planner.proofs.SamePoints.{same_from_test, test_from_same}

-- an answer that was not refused
ok_through : (few short : Bool) (same equal : Bool) → Ok equal ≡ refused_if few 7 (refused_if short 8 (Ok same)) → equal ≡ same
ok_through true short same equal e = cc
ok_through false true same equal e = cc
ok_through false false same equal e = cc

module _ {C : Type 0} {K : Kind C} (laws : Laws K) (T U : Meaning C) (F : Ranged T) (G : Ranged U) where
  -- what the test of two fronts says is a verdict
  abbrev TestIsVerdict : Bool → Book → Book → Type 0
  TestIsVerdict equal first second = equal ≡ same_points K (front K T first) (front K U second) → Verdict K T first U second equal

  verdict : (first_calls second_calls : List Call) (equal : Bool) → TestIsVerdict equal (book_after first_calls) (book_after second_calls)
  verdict first_calls second_calls equal e = record {
    by_assignments = ((λ h. matched.0 (told.0 h)), λ m. told.1 (matched.1 m));
    in_all_memory = λ first_memory second_memory. same_bargains laws T U F G first_calls second_calls first_memory second_memory (equal ≡ true) told;
  }
    where
      told : (equal ≡ true) ↔ (front K T (book_after first_calls) ≡ front K U (book_after second_calls))
      told = ((λ h. same_from_test laws _ _ (sym e ∙ h)), λ same. e ∙ test_from_same laws _ _ same)

      matched : (front K T (book_after first_calls) ≡ front K U (book_after second_calls)) ↔ (Matched K T (book_after first_calls) U (book_after second_calls) × Matched K U (book_after second_calls) T (book_after first_calls))
      matched = fronts_by_assignments laws T U F G (book_after first_calls) (book_after second_calls) (book_sound first_calls) (book_sound second_calls)

  -- what the call answered gives the verdict
  pub verdict_holds : (first second : Sheet) (cells : List (Cell C)) (first_points second_points : List (Point C)) (r : Result Bool QuestionRefusal)
      → answer_of question_told r ≡ bargains_answer K T (book first) U (book second) cells first_points second_points → IfOk r (Verdict K T (book first) U (book second))
  verdict_holds first second cells first_points second_points (Err refusal) e = tt
  verdict_holds first second cells first_points second_points (Ok equal) e =
      of_every_sheet (λ b. TestIsVerdict equal b (book second))
      (λ first_calls. of_every_sheet (TestIsVerdict equal (book_after first_calls)) (λ second_calls. verdict first_calls second_calls equal) second)
      first (ok_through _ _ _ equal e)
