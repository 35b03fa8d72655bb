-- Two sheets with equal fronts offer the same bargains
use Rattle.std.proofs.Common.{◌≡◌, ℕ, ◌≤◌, Bool, true, false, ltb, leb, ◌↔◌, ◌⊎◌, List, [], ◌∷◌, ◌++◌, map, length, take, drop, is_some, Some, None, Ok, Err, filter, Option, sym, refl, ap, ◌∙◌, subst, le_trans, le_refl, inl, inr, arith}
use Rattle.std.proofs.lemmas.List.{length-map, take_at}
use Rattle.std.proofs.lemmas.Bool.{both_ways, le-leb, leb-true, le-ltb}
use Rattle.refusals.specs.Answer.{Answer, Refused, refused_if}
use Rattle.costs.specs.Kind.{Kind, Laws}
use Rattle.tariffs.specs.Meaning.{Meaning, Ranged}
use Rattle.sheets.specs.Book.{Book}
use Rattle.sheets.specs.History.{Sound, book_after}
use Rattle.sheets.specs.declared.call.Call.{Call}
use Rattle.sheets.proofs.Histories.{book_sound}
use Rattle.model.specs.declared.point.Point.{Point}
use Rattle.model.specs.Lists.{In, here, is_empty, least}
use Rattle.model.specs.Assignment.{standing, pair_of, pairs}
use Rattle.model.specs.Front.{no_worse, front}
use Rattle.model.specs.Cell.{cells_needed, table}
use Rattle.model.specs.Limit.{shorter_then_cheaper, lowest_unquoted, or_none_within, unless_unquoted, within_budget, within_deadline, budget_result, deadline_result, IsBudget, IsDeadline, LimitsInWords, TooDear, TooLong}
use Rattle.model.specs.Question.{few_cells, limit_answer}
use Rattle.model.specs.Bargain.{Agree, LimitMemory, Memory, SomeMemorySuffices, front_given, LimitGivenInWords, GivenInWords, Matched, EqualFronts, SameBargains, DecidedByBook, EnoughMemoryIsAnswered, EqualFrontsMeanSameBargains}
use Rattle.model.proofs.Lists.{in_kept_by, of_kept_by, not_empty}
use Rattle.model.proofs.Leasts.{Least, least_is}
use Rattle.model.proofs.Assignments.{in_pairs, of_pairs}
use Rattle.model.proofs.Fronts.{Covers, no_worse_from, no_longer, no_dearer, covers_of_front, front_of_covers}
use Rattle.model.proofs.Limits.{least_of_covers, kept_by_covers, shorter_first, shorter_long, cheaper_first}
use Rattle.model.proofs.LeastCosts.{at_most_refl}
use Rattle.model.proofs.Unquoted.{none_unquoted}
use Rattle.model.proofs.Tables.{laid_out}
use Rattle.model.proofs.FrontsInWords.{front_in_words}
use Rattle.model.proofs.LimitsInWords.{none_of, limits_give_best_pairs}

-- memory that holds what is asked of it suffices
module _ {C : Type 0} (K : Kind C) (T : Meaning C) (book : Book) where
  cells_there : cells_needed T book ≤ length (table K T book)
  cells_there = omega (arith, (laid_out K T book).size)

  limit_memory : LimitMemory K T book
  limit_memory = record {
    cells = table K T book;
    bytes = map (λ _. 0) book.tasks;
    cells_suffice = cells_there;
    bytes_suffice = omega (arith, length-map {B = ℕ} book.tasks (λ _. 0));
  }

  memory_there : Memory K T book
  memory_there = record {
    for_front = record {
      cells = table K T book;
      points = front K T book;
      cells_suffice = cells_there;
      points_suffice = le_refl (length (front K T book));
    };
    for_budget = λ _. limit_memory;
    for_deadline = λ _. limit_memory;
  }

pub some_memory_suffices : {C : Type 0} (K : Kind C) → SomeMemorySuffices K
some_memory_suffices K T book = memory_there K T book

-- in memory that suffices, what the questions give is what book, tariff and limit decide
module _ {C : Type 0} (K : Kind C) (T : Meaning C) (book : Book) where
  front_given_is : (memory : Memory K T book) → front_given K T book memory ≡ Ok (length (front K T book), front K T book)
  front_given_is memory =
      go (few_cells T book memory.for_front.cells) (ltb (length memory.for_front.points) (length (front K T book)))
      (le-ltb _ _ memory.for_front.cells_suffice) (le-ltb _ _ memory.for_front.points_suffice)
    where
      answer : Bool → Bool → Answer ℕ
      answer x y = refused_if x 7 (refused_if y 8 (Ok (length (front K T book))))

      left : Answer ℕ → Answer (ℕ × List (Point C))
      left o = elim o as (λ _. Answer (ℕ × List (Point C))) [ Ok n ↦ Ok (n, take n (elim o as (λ _. List (Point C)) [ Ok m ↦ front K T book ++ drop m memory.for_front.points | Err refused ↦ memory.for_front.points ])) | Err refused ↦ Err refused ]

      go : (x y : Bool) → x ≡ false → y ≡ false → left (answer x y) ≡ Ok (length (front K T book), front K T book)
      go true y e f = absurd (both_ways true e refl)
      go false true e f = absurd (both_ways true f refl)
      go false false e f = ap (λ (ps : List (Point C)). Ok (length (front K T book), ps)) (take_at (front K T book) (drop (length (front K T book)) memory.for_front.points) (length (front K T book)) refl)

  limit_answer_is : (lent : LimitMemory K T book) (result : Answer (Point C)) → limit_answer T book lent.cells lent.bytes result ≡ result
  limit_answer_is lent result = rw (le-ltb (length lent.cells) (cells_needed T book) lent.cells_suffice, le-ltb (length lent.bytes) (length book.tasks) lent.bytes_suffice) refl

  decided : (memory : Memory K T book) → DecidedByBook K T book memory
  decided memory = record {
    front_decided = front_given_is memory;
    budget_decided = λ limit. limit_answer_is (memory.for_budget limit) (budget_result K T book limit);
    deadline_decided = λ limit. limit_answer_is (memory.for_deadline limit) (deadline_result K T book limit);
  }

pub enough_memory_is_answered : {C : Type 0} (K : Kind C) → EnoughMemoryIsAnswered K
enough_memory_is_answered K T book memory = decided K T book memory

-- no limit is refused but by 9 or 10
only_9_or_10 : {C : Type 0} (x : Option ℕ) (o : Option (Point C)) (refused : Refused) → unless_unquoted x (or_none_within o) ≡ Err refused → (refused.number ≡ 9) ⊎ (refused.number ≡ 10)
only_9_or_10 (Some task) o refused e = let n : refused.number ≡ 9 = cc in inl n
only_9_or_10 None None refused e = let n : refused.number ≡ 10 = cc in inr n
only_9_or_10 None (Some p) refused e = cc

given_same : {C : Type 0} {first second : ℕ × List (Point C)} → ◌≡◌ {A = Answer (ℕ × List (Point C))} (Ok first) (Ok second) → first ≡ second
given_same e = cc

points_same : {C : Type 0} {m n : ℕ} {ps qs : List (Point C)} → ◌≡◌ {A = Answer (ℕ × List (Point C))} (Ok (m, ps)) (Ok (n, qs)) → ps ≡ qs
points_same {C} e = ap (λ (given : ℕ × List (Point C)). given.1) (given_same e)

given_in_words : {C : Type 0} {K : Kind C} → Laws K → (T : Meaning C) → Ranged T → (calls : List Call) (memory : Memory K T (book_after calls)) → GivenInWords K T (book_after calls) memory
given_in_words {C} {K} L T F calls memory = record {
  front_is = λ points. let w = front_in_words L T F (standing b) points in (
    (λ h. is.front_decided ∙ ap (λ (ps : List (Point C)). Ok (length ps, ps)) (sym (w.0 h))),
    (λ e. w.1 (sym (points_same (sym is.front_decided ∙ e)))),
  );
  front_never_refused = λ refused e. ok_no_err (sym is.front_decided ∙ e);
  budgets = λ limit. subst (LimitGivenInWords K T b (IsBudget K T (standing b) limit) (TooDear K limit)) (sym (is.budget_decided limit)) (record {
    best = words.budgets limit;
    unquoted = words.budget_unquoted limit;
    none_within = words.none_affordable limit;
    only_9_or_10 = only_9_or_10 (lowest_unquoted T b) (within_budget K T (standing b) limit);
  });
  deadlines = λ limit. subst (LimitGivenInWords K T b (IsDeadline K T (standing b) limit) (TooLong limit)) (sym (is.deadline_decided limit)) (record {
    best = words.deadlines limit;
    unquoted = words.deadline_unquoted limit;
    none_within = words.none_in_time limit;
    only_9_or_10 = only_9_or_10 (lowest_unquoted T b) (within_deadline K T (standing b) limit);
  });
}
  where
    b : Book
    b = book_after calls

    is : DecidedByBook K T (book_after calls) memory
    is = decided K T (book_after calls) memory

    words : LimitsInWords K T (book_after calls)
    words = limits_give_best_pairs L T F calls

    ok_no_err : {given : ℕ × List (Point C)} {refused : Refused} → ◌≡◌ {A = Answer (ℕ × List (Point C))} (Ok given) (Err refused) → ⊥
    ok_no_err e = cc

module _ {C : Type 0} {K : Kind C} (L : Laws K) where
  pub covers_of_matched : (T U : Meaning C) → Ranged U → (b c : Book) → Matched K T b U c → Covers K (pairs K U (standing c)) (pairs K T (standing b))
  covers_of_matched T U F b c m p i =
      let x = of_pairs K T (standing b) p i in
      let y = m x.0 x.1 in
      let q : Point C = pair_of K U (standing c) y.0 in
      (q, in_pairs K U (standing c) F q (y.0, y.1, refl), subst (λ (z : Point C). no_worse K q z ≡ true) (sym x.2) (no_worse_from L _ _ y.2 y.3))

  pub matched_of_covers : (T U : Meaning C) → Ranged T → (b c : Book) → Covers K (pairs K U (standing c)) (pairs K T (standing b)) → Matched K T b U c
  matched_of_covers T U F b c h x a =
      let p : Point C = pair_of K T (standing b) x in
      let q = h p (in_pairs K T (standing b) F p (x, a, refl)) in
      let y = of_pairs K U (standing c) q.0 q.1 in
      let n : no_worse K (pair_of K U (standing c) y.0) p ≡ true = subst (λ (z : Point C). no_worse K z p ≡ true) y.2 q.2 in
      (y.0, y.1, no_longer L _ p n, no_dearer L _ p n)

  same_empty : (ps qs : List (Point C)) → Covers K qs ps → Covers K ps qs → is_empty ps ≡ is_empty qs
  same_empty [] [] f g = refl
  same_empty [] (q ∷ qs) f g = elim (g q (here refl)).1 [ ]
  same_empty (p ∷ ps) [] f g = elim (f p (here refl)).1 [ ]
  same_empty (p ∷ ps) (q ∷ qs) f g = refl

  -- results from the same least pair, refused by 9 together, agree
  agree : (x y : Option ℕ) (o u : Option (Point C)) → is_some x ≡ is_some y → o ≡ u → Agree (unless_unquoted x (or_none_within o)) (unless_unquoted y (or_none_within u))
  agree None None None None e f = refl
  agree None None None (Some q) e f = cc
  agree None None (Some p) None e f = cc
  agree None None (Some p) (Some q) e f = cc
  agree None (Some n) o u e f = absurd (both_ways false refl e)
  agree (Some m) None o u e f = absurd (both_ways false refl (sym e))
  agree (Some m) (Some n) o u e f = refl

  -- every budget and every deadline decides the same
  abbrev SameResults : Meaning C → Book → Meaning C → Book → Type 0
  SameResults T b U c =
      ((limit : C) → Agree (budget_result K T b limit) (budget_result K U c limit))
      × ((limit : ℕ) → Agree (deadline_result K T b limit) (deadline_result K U c limit))

  results_of_covers : (T U : Meaning C) (b c : Book) → Sound b → Sound c → Covers K (pairs K U (standing c)) (pairs K T (standing b)) → Covers K (pairs K T (standing b)) (pairs K U (standing c)) → SameResults T b U c
  results_of_covers T U b c hb hc f g = (
    (λ l. agree _ _ _ _ quoted (least_of_covers (shorter_first L) _ _ (kept_by_covers K _ (cheap l) _ _ f) (kept_by_covers K _ (cheap l) _ _ g))),
    (λ d. agree _ _ _ _ quoted (least_of_covers (cheaper_first L) _ _ (kept_by_covers K _ (short d) _ _ f) (kept_by_covers K _ (short d) _ _ g))),
  )
    where
      quoted : is_some (lowest_unquoted T b) ≡ is_some (lowest_unquoted U c)
      quoted = sym (none_unquoted T K b hb) ∙ same_empty _ _ f g ∙ none_unquoted U K c hc

      cheap : (l : C) (p q : Point C) → no_worse K q p ≡ true → K.at_most p.cost l ≡ true → K.at_most q.cost l ≡ true
      cheap l p q n h = L.transitive _ _ _ (no_dearer L q p n) h

      short : (d : ℕ) (p q : Point C) → no_worse K q p ≡ true → leb p.length d ≡ true → leb q.length d ≡ true
      short d p q n h = le-leb _ _ (le_trans (no_longer L q p n) (leb-true _ _ h))

  -- what agrees with something found was found
  found_too : (x y : Option ℕ) (o u : Option (Point C)) (m : Point C) → x ≡ None → o ≡ Some m → Agree (unless_unquoted x (or_none_within o)) (unless_unquoted y (or_none_within u)) → u ≡ Some m
  found_too (Some n) y o u m e f a = cc
  found_too None (Some n) None u m e f a = cc
  found_too None (Some n) (Some p) u m e f a = absurd a
  found_too None None None u m e f a = cc
  found_too None None (Some p) None m e f a = absurd a
  found_too None None (Some p) (Some q) m e f a = cc

  -- budgets alone show the covers
  covers_of_results : (T U : Meaning C) (b c : Book) → Sound b → ((l : C) → Agree (budget_result K T b l) (budget_result K U c l)) → Covers K (pairs K U (standing c)) (pairs K T (standing b))
  covers_of_results T U b c hb h p i = go (least (shorter_then_cheaper K) first_kept) refl (least_is (shorter_first L).order first_kept)
    where
      test : Point C → Bool
      test q = K.at_most q.cost p.cost

      first_kept : List (Point C)
      first_kept = filter test (pairs K T (standing b))

      second_kept : List (Point C)
      second_kept = filter test (pairs K U (standing c))

      inside : In p first_kept
      inside = in_kept_by test i (at_most_refl L p.cost)

      quoted : lowest_unquoted T b ≡ None
      quoted = none_of _ (sym (none_unquoted T K b hb) ∙ not_empty i)

      go : (o : Option (Point C)) → least (shorter_then_cheaper K) first_kept ≡ o → Least (shorter_first L).order first_kept o → (q : Point C) × In q (pairs K U (standing c)) × (no_worse K q p ≡ true)
      go None e l = absurd (l p inside)
      go (Some m) e l =
          let s : least (shorter_then_cheaper K) second_kept ≡ Some m = found_too _ _ _ _ m quoted e (h p.cost) in
          let t : Least (shorter_first L).order second_kept (Some m) = subst (Least (shorter_first L).order second_kept) s (least_is (shorter_first L).order second_kept) in
          let k = of_kept_by test (pairs K U (standing c)) t.0 in
          (m, k.0, no_worse_from L m p (shorter_long L m p (l.1 p inside)) k.1)

  agree_sym : (x y : Answer (Point C)) → Agree x y → Agree y x
  agree_sym (Ok p) (Ok q) e = sym e
  agree_sym (Ok p) (Err r) e = e
  agree_sym (Err r) (Ok q) e = e
  agree_sym (Err r) (Err q) e = sym e

  module _ (T U : Meaning C) (F : Ranged T) (G : Ranged U) (b c : Book) (hb : Sound b) (hc : Sound c) where
    pub fronts_by_assignments : (front K T b ≡ front K U c) ↔ (Matched K T b U c × Matched K U c T b)
    fronts_by_assignments = (
      (λ e. (matched_of_covers T U F b c (covers_of_front L _ _ e), matched_of_covers U T G c b (covers_of_front L _ _ (sym e)))),
      (λ m. front_of_covers L _ _ (covers_of_matched T U G b c m.0) (covers_of_matched U T F c b m.1)),
    )

    pub results_of_fronts : front K T b ≡ front K U c → SameResults T b U c
    results_of_fronts e = results_of_covers T U b c hb hc (covers_of_front L _ _ e) (covers_of_front L _ _ (sym e))

    pub fronts_of_budgets : ((limit : C) → Agree (budget_result K T b limit) (budget_result K U c limit)) → front K T b ≡ front K U c
    fronts_of_budgets a = front_of_covers L _ _ (covers_of_results T U b c hb a) (covers_of_results U T c b hc (λ l. agree_sym (budget_result K T b l) (budget_result K U c l) (a l)))

-- what comes to the fronts being equal makes the statement true
module _ {C : Type 0} {K : Kind C} (L : Laws K) (T U : Meaning C) (F : Ranged T) (G : Ranged U) (first_calls second_calls : List Call) where
  module _ (first_memory : Memory K T (book_after first_calls)) (second_memory : Memory K U (book_after second_calls)) where
    pub same_bargains : (Equal : Type 0) → Equal ↔ (front K T (book_after first_calls) ≡ front K U (book_after second_calls)) → SameBargains K T (book_after first_calls) first_memory U (book_after second_calls) second_memory Equal
    same_bargains Equal same = record {
      first_in_words = given_in_words L T F first_calls first_memory;
      second_in_words = given_in_words L U G second_calls second_memory;
      by_assignments = ((λ e. by_pairs.0 (same.0 e)), λ m. same.1 (by_pairs.1 m));
      by_limits = (
        (λ e. let r = results_of_fronts L T U F G b c hb hc (same.0 e) in (
          (λ limit. to_answers (first_memory.for_budget limit) (second_memory.for_budget limit) (budget_result K T b limit) (budget_result K U c limit) (r.0 limit)),
          (λ limit _. to_answers (first_memory.for_deadline limit) (second_memory.for_deadline limit) (deadline_result K T b limit) (deadline_result K U c limit) (r.1 limit)),
        )),
        (λ a. same.1 (fronts_of_budgets L T U F G b c hb hc (λ limit. of_answers (first_memory.for_budget limit) (second_memory.for_budget limit) (budget_result K T b limit) (budget_result K U c limit) (a.0 limit)))),
      );
    }
      where
        b : Book
        b = book_after first_calls

        c : Book
        c = book_after second_calls

        hb : Sound b
        hb = book_sound first_calls

        hc : Sound c
        hc = book_sound second_calls

        by_pairs : (front K T b ≡ front K U c) ↔ (Matched K T b U c × Matched K U c T b)
        by_pairs = fronts_by_assignments L T U F G b c hb hc

        to_answers : (m : LimitMemory K T b) (n : LimitMemory K U c) (x y : Answer (Point C)) → Agree x y → Agree (limit_answer T b m.cells m.bytes x) (limit_answer U c n.cells n.bytes y)
        to_answers m n x y a = rw (limit_answer_is K T b m x, limit_answer_is K U c n y) a

        of_answers : (m : LimitMemory K T b) (n : LimitMemory K U c) (x y : Answer (Point C)) → Agree (limit_answer T b m.cells m.bytes x) (limit_answer U c n.cells n.bytes y) → Agree x y
        of_answers m n x y a = rw (limit_answer_is K T b m x, limit_answer_is K U c n y) at a

    equal_fronts : EqualFronts K T (book_after first_calls) first_memory U (book_after second_calls) second_memory ↔ (front K T (book_after first_calls) ≡ front K U (book_after second_calls))
    equal_fronts = (
      (λ e. points_same (sym first_is ∙ e ∙ second_is)),
      (λ e. first_is ∙ ap (λ (ps : List (Point C)). Ok (length ps, ps)) e ∙ sym second_is),
    )
      where
        first_is : front_given K T (book_after first_calls) first_memory ≡ Ok (length (front K T (book_after first_calls)), front K T (book_after first_calls))
        first_is = front_given_is K T (book_after first_calls) first_memory

        second_is : front_given K U (book_after second_calls) second_memory ≡ Ok (length (front K U (book_after second_calls)), front K U (book_after second_calls))
        second_is = front_given_is K U (book_after second_calls) second_memory

pub equal_fronts_mean_same_bargains : {C : Type 0} {K : Kind C} → Laws K → EqualFrontsMeanSameBargains K
equal_fronts_mean_same_bargains {C} {K} L T U F G first_calls second_calls first_memory second_memory =
    same_bargains L T U F G first_calls second_calls first_memory second_memory
    (EqualFronts K T (book_after first_calls) first_memory U (book_after second_calls) second_memory)
    (equal_fronts L T U F G first_calls second_calls first_memory second_memory)
