-- The better bargain of two sheets: what is told of it, and that there is none exactly where the fronts are the same
use Rattle.std.proofs.Common.{◌≡◌, Bool, true, false, not, ◌||◌, List, Some, None, Ok, Err, is_some, is_none, Option, Result, sym, refl, ap, ◌∙◌}
use Rattle.std.proofs.lemmas.Bool.{both_ways}
use Rattle.refusals.specs.Answer.{answer_of, refused_if}
use Rattle.costs.specs.Kind.{Kind, Laws}
use Rattle.tariffs.specs.Meaning.{Meaning, Ranged}
use Rattle.sheets.specs.Book.{Book}
use Rattle.model.specs.declared.cell.Cell.{Cell}
use Rattle.model.specs.declared.point.Point.{Point}
use Rattle.model.specs.declared.better.Better.{Better}
use Rattle.model.specs.declared.better.Better.TheVariants.{First, Second}
use Rattle.model.specs.Front.{front}
use Rattle.model.specs.Better.{better, BetterInWords}
use Rattle.model.proofs.BetterBargains.{better_bargains_are_shown}
use Rattle.planner.specs.declared.refusal.QuestionRefusal.{QuestionRefusal}
use Rattle.planner.specs.Refusal.{question_told}
use Rattle.planner.specs.Bargain.{same_points, few_for_either, first_too_short, second_too_short, bargains_answer}
use Rattle.planner.specs.Better.{better_answer, BetterTells}
use Rattle.planner.proofs.SamePoints.{same_from_test, test_from_same}
use Rattle.planner.proofs.Compared.{told_behind}

-- an answer that was not refused
given_behind : {A : Type 0} (few short : Bool) (given found : A) → Ok given ≡ refused_if few 7 (refused_if short 8 (Ok found)) → given ≡ found
given_behind true short given found e = cc
given_behind false true given found e = cc
given_behind false false given found e = cc

none_told : {A : Type 0} (o : Option A) (none : Bool) → is_some o ≡ not none → none ≡ is_none o
none_told None true e = refl
none_told None false e = cc
none_told (Some x) true e = cc
none_told (Some x) false e = refl

module _ {C : Type 0} {K : Kind C} (laws : Laws K) (T U : Meaning C) (F : Ranged T) (G : Ranged U) (first second : Book) where
  words : BetterInWords K T first U second
  words = better_bargains_are_shown laws T U F G first second

  tells : (found : Option (Better C)) → found ≡ better K T first U second → BetterTells K T first U second (Ok found)
  tells None e = record {
    equal_fronts = words.equal_fronts.1 (sym e);
    first_matched = (words.matched.1 (sym e)).0;
    second_matched = (words.matched.1 (sym e)).1;
  }
  tells (Some (First p)) e = (words.first_has p).1 (sym e)
  tells (Some (Second p)) e = (words.second_has p).1 (sym e)

  -- what was answered tells it
  pub better_tells : (cells : List (Cell C)) (first_points second_points : List (Point C)) (r : Result (Option (Better C)) QuestionRefusal)
      → answer_of question_told r ≡ better_answer K T first U second cells first_points second_points → BetterTells K T first U second r
  better_tells cells first_points second_points (Ok found) e = tells found (given_behind _ _ found _ e)
  better_tells cells first_points second_points (Err refusal) e = tt

  -- neither sheet has a better bargain exactly where the fronts are the same
  pub none_where_same : is_none (better K T first U second) ≡ same_points K (front K T first) (front K U second)
  none_where_same = go (better K T first U second) refl (same_points K (front K T first) (front K U second)) refl
    where
      go : (o : Option (Better C)) → better K T first U second ≡ o → (b : Bool) → same_points K (front K T first) (front K U second) ≡ b → is_none o ≡ b
      go None e true f = refl
      go None e false f = absurd (both_ways _ f (test_from_same laws _ _ (words.equal_fronts.1 e)))
      go (Some x) e true f = let none = words.equal_fronts.0 (same_from_test laws _ _ f) in cc
      go (Some x) e false f = refl

  -- so whether the fronts are the same is answered behind the same refusals
  module _ (cells : List (Cell C)) (first_points second_points : List (Point C)) where
    pub same_told : (found : Option (Better C)) (same : Bool) → is_some found ≡ not same → Ok found ≡ better_answer K T first U second cells first_points second_points → Ok same ≡ bargains_answer K T first U second cells first_points second_points
    same_told found same none e =
        ap Ok (none_told found same none)
        ∙ told_behind (few_for_either K T first U second cells first_points second_points) _ found (better K T first U second) is_none e
        ∙ ap (λ (b : Bool). refused_if (few_for_either K T first U second cells first_points second_points) 7 (refused_if (first_too_short K T first U second cells first_points second_points || second_too_short K T first U second cells first_points second_points) 8 (Ok b))) none_where_same
