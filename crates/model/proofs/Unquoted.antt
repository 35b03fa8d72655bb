-- Standing tasks without any quote
use Rattle.std.proofs.Common.{◌≡◌, ℕ, zero, suc, ◌<◌, Bool, true, false, cond, not, ◌||◌, ◌↔◌, List, [], ◌∷◌, is_some, Some, None, Option, sym, refl, ap, ◌∙◌, subst, inl, inr, zero-le, arith}
use Rattle.std.specs.List.{range_with_len, AllByRecursion, slice_get}
use Rattle.std.specs.Option.{option_map}
use Rattle.std.proofs.lemmas.Bool.{both_ways, and_parts, and_from, not-true, not_from_false, cases_order}
use Rattle.costs.specs.Kind.{Kind}
use Rattle.tariffs.specs.First.{position}
use Rattle.tariffs.specs.Meaning.{Meaning, Ranged}
use Rattle.sheets.specs.Book.{Book}
use Rattle.sheets.specs.History.{Sound}
use Rattle.sheets.specs.Tasks.{SoundTask}
use Rattle.sheets.specs.declared.task.Task.{Task}
use Rattle.model.specs.Lists.{In, here, later, any, is_empty}
use Rattle.model.specs.Assignment.{stage_tasks, standing, quoting, assignments, pair_of, pairs, Unquoted}
use Rattle.model.specs.Limit.{unquoted, lowest_unquoted, IsLowestUnquoted}
use Rattle.model.proofs.Lists.{not_empty, is_empty_map, in_map, of_map, in_counting, any_of, of_any}
use Rattle.model.proofs.Assignments.{in_quoting, of_quoting, none_assigned, in_stage, of_stage}

-- the first place that passes a test
module _ {A : Type 0} (test : A → Bool) where
  abbrev Passes : List A → ℕ → Type 0
  Passes xs n = (x : A) × (slice_get xs n ≡ Some x) × (test x ≡ true)

  abbrev Positioned : List A → Option ℕ → Type 0
  Positioned xs None = (n : ℕ) → Passes xs n → ⊥
  Positioned xs (Some k) = Passes xs k × ((m : ℕ) → m < k → Passes xs m → ⊥)

  positioned : (xs : List A) → Positioned xs (position test xs)
  positioned [] = λ n p. let e = p.1 in cc
  positioned (x ∷ xs) = go (test x) refl (position test xs) (positioned xs)
    where
      fails : test x ≡ false → Passes (x ∷ xs) 0 → ⊥
      fails t p = let e : x ≡ p.0 = cc p.1 in both_ways _ t (ap test e ∙ p.2)

      go : (b : Bool) → test x ≡ b → (o : Option ℕ) → Positioned xs o → Positioned (x ∷ xs) (cond b (Some 0) (option_map suc o))
      go true t o h = ((x, refl, t), λ m l. absurd (omega arith))
      go false t None h = elim [ zero ↦ fails t | suc n ↦ h n ]
      go false t (Some k) h = (h.0, elim [ zero ↦ λ l. fails t | suc m ↦ λ l. h.1 m (omega arith) ])

  pub some_any : (xs : List A) → is_some (position test xs) ≡ any test xs
  some_any [] = refl
  some_any (x ∷ xs) = go (test x) (position test xs) (some_any xs)
    where
      go : (b : Bool) (o : Option ℕ) → is_some o ≡ any test xs → is_some (cond b (Some 0) (option_map suc o)) ≡ (b || any test xs)
      go true o h = refl
      go false None h = h
      go false (Some k) h = h

same_bool : (x y : Bool) → (x ≡ true → y ≡ true) → (y ≡ true → x ≡ true) → x ≡ y
same_bool true y f g = sym (f refl)
same_bool false true f g = g refl
same_bool false false f g = refl

pub all_in : {A : Type 0} (P : A → Type 0) {x : A} (xs : List A) → AllByRecursion P xs → In x xs → P x
all_in P [] a i = elim i [ ]
all_in P (y ∷ ys) a (here e) = subst P (sym e) a.0
all_in P (y ∷ ys) a (later i) = all_in P ys a.1 i

module _ {C : Type 0} (T : Meaning C) where
  lacking : Task → Bool
  lacking task = is_empty (quoting T task)

  -- in the list of tasks, or in the stages
  unquoted_stages : (book : Book) → Sound book → any (unquoted T) book.tasks ≡ any (λ tasks. any lacking tasks) (standing book)
  unfolding lacking
  unquoted_stages book sound = same_bool _ _ to from
    where
      to : any (unquoted T) book.tasks ≡ true → any (λ tasks. any lacking tasks) (standing book) ≡ true
      to e =
          let r = of_any (unquoted T) book.tasks e in
          let task : Task = r.0 in
          let a = and_parts (not task.struck) (lacking task) r.2 in
          let s = all_in (SoundTask book.stages) book.tasks sound.tasks_sound r.1 in
          any_of (λ tasks. any lacking tasks) (in_map (stage_tasks book.tasks) (in_counting 0 book.stages task.stage zero-le (omega (arith, s.0))))
          (any_of lacking (in_stage r.1 (not-true _ a.0)) a.1)

      from : any (λ tasks. any lacking tasks) (standing book) ≡ true → any (unquoted T) book.tasks ≡ true
      from e =
          let r = of_any (λ tasks. any lacking tasks) (standing book) e in
          let k = of_map (stage_tasks book.tasks) (range_with_len 0 book.stages) r.1 in
          let w = of_any lacking r.0 r.2 in
          let t = of_stage book.tasks k.0 (subst (λ (tasks : List Task). In w.0 tasks) k.2 w.1) in
          any_of (unquoted T) t.0 (and_from _ _ (not_from_false _ t.1) w.2)

  -- no assignment exactly when some standing task has no quote
  pub none_unquoted : (K : Kind C) (book : Book) → Sound book → is_empty (pairs K T (standing book)) ≡ is_some (lowest_unquoted T book)
  unfolding lacking
  none_unquoted K book sound = is_empty_map (pair_of K T (standing book)) (assignments T (standing book)) ∙ none_assigned T (standing book) ∙ sym (unquoted_stages book sound) ∙ sym (some_any (unquoted T) book.tasks)

  module _ (F : Ranged T) (book : Book) where
    to_unquoted : (n : ℕ) → Passes (unquoted T) book.tasks n → Unquoted T book n
    to_unquoted n p =
        let a = and_parts (not p.0.struck) (is_empty (quoting T p.0)) p.2 in
        (p.0, p.1, not-true _ a.0, λ m q e. both_ways _ (not_empty (in_quoting T F p.0 m (q, e))) a.1)

    of_unquoted : (n : ℕ) → Unquoted T book n → Passes (unquoted T) book.tasks n
    of_unquoted n u = (u.0, u.1, and_from _ _ (not_from_false _ u.2) (go (quoting T u.0) (λ m i. let q = of_quoting T u.0 m i in u.3 m q.0 q.1)))
      where
        go : (ms : List ℕ) → ((m : ℕ) → In m ms → ⊥) → is_empty ms ≡ true
        go [] k = refl
        go (m ∷ ms) k = absurd (k m (here refl))

    pub lowest_is : (n : ℕ) → IsLowestUnquoted T book n ↔ (lowest_unquoted T book ≡ Some n)
    lowest_is n = go (lowest_unquoted T book) (positioned (unquoted T) book.tasks)
      where
        go : (o : Option ℕ) → Positioned (unquoted T) book.tasks o → IsLowestUnquoted T book n ↔ (o ≡ Some n)
        go None h = ((λ l. absurd (h n (of_unquoted n l.0))), λ e. cc)
        go (Some k) h = (
          (λ l. elim (cases_order k n) [
            | inl e ↦ ap Some e
            | inr o ↦ elim o [ inl g ↦ absurd (l.1 k g (to_unquoted k h.0)) | inr g ↦ absurd (h.1 n g (of_unquoted n l.0)) ]
          ]),
          (λ e. let f : k ≡ n = cc in subst (IsLowestUnquoted T book) f (to_unquoted k h.0, λ m g u. h.1 m g (of_unquoted m u))),
        )

    pub all_quoted : ((n : ℕ) → Unquoted T book n → ⊥) ↔ (lowest_unquoted T book ≡ None)
    all_quoted = go (lowest_unquoted T book) (positioned (unquoted T) book.tasks)
      where
        go : (o : Option ℕ) → Positioned (unquoted T) book.tasks o → ((n : ℕ) → Unquoted T book n → ⊥) ↔ (o ≡ None)
        go None h = ((λ _. refl), λ _ n u. h n (of_unquoted n u))
        go (Some k) h = ((λ a. absurd (a k (to_unquoted k h.0))), λ e. cc)
