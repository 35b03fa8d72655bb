-- Times that are quoted, and the greatest of them
use Rattle.std.proofs.Common.{◌≡◌, ℕ, zero, suc, ◌+◌, ◌<◌, ◌≤◌, max, Bool, true, false, eqb, ◌⊎◌, List, [], ◌∷◌, ◌++◌, Some, None, Option, sym, refl, ap, ◌∙◌, subst, inl, inr, zero-le, le_refl, arith}
use Rattle.std.specs.List.{range_with_len}
use Rattle.std.proofs.lemmas.Bool.{both_ways, cases_lt, eqb-true, eq-eqb, or_left, or_right}
use Rattle.tariffs.specs.Meaning.{Meaning, Ranged}
use Rattle.tariffs.specs.declared.quote.Quote.{Quote}
use Rattle.sheets.specs.declared.task.Task.{Task}
use Rattle.model.specs.Lists.{In, here, later, Paired, any, is_empty}
use Rattle.model.specs.Assignment.{quote_of, Quoted, minutes_of, stage_time, length_of}
use Rattle.model.specs.Allowance.{greatest_time_below, greatest_time, takes, is_time, GreatestTimesAreQuoted}
use Rattle.model.specs.Cell.{span}
use Rattle.model.proofs.Lists.{in_counting, any_of, of_any}
use Rattle.model.proofs.Assignments.{quote_listed, below_count}

module _ {C : Type 0} (T : Meaning C) where
  -- no time is greater than the greatest-time
  below_at_most : (w : Task) (m n : ℕ) → m < n → minutes_of (quote_of T w m) ≤ greatest_time_below T w n
  below_at_most w m zero l = absurd (omega arith)
  below_at_most w m (suc n) l = elim (cases_lt m n) [
    | inl k ↦ let h = below_at_most w m n k in omega arith
    | inr k ↦ let e : m ≡ n = omega arith in subst (λ (x : ℕ). minutes_of (quote_of T w x) ≤ max (greatest_time_below T w n) (minutes_of (quote_of T w n))) (sym e) (omega arith)
  ]

  module _ (F : Ranged T) where
    pub minutes_at_most : (w : Task) (m : ℕ) → minutes_of (quote_of T w m) ≤ greatest_time_below T w T.count
    minutes_at_most w m = elim (cases_lt m T.count) [ inl l ↦ below_at_most w m T.count l | inr g ↦ rw (quote_listed T F w m g) zero-le ]

    pub stage_time_at_most : (tasks : List Task) (machines : List ℕ) → stage_time T tasks machines ≤ greatest_time T tasks
    stage_time_at_most [] ms = zero-le
    stage_time_at_most (w ∷ ws) [] = zero-le
    stage_time_at_most (w ∷ ws) (m ∷ ms) = omega (arith, minutes_at_most w m, stage_time_at_most ws ms)

    pub length_span : (stages : List (List Task)) (plan : List (List ℕ)) → length_of T stages plan ≤ span T stages
    length_span [] plan = zero-le
    length_span (tasks ∷ stages) [] = zero-le
    length_span (tasks ∷ stages) (ms ∷ plan) = omega (arith, stage_time_at_most tasks ms, length_span stages plan)

    -- a stage's time is one that is quoted there
    timed_nonempty : (ws : List Task) (ms : List ℕ) → 1 ≤ stage_time T ws ms → is_empty ws ≡ false
    timed_nonempty [] ms l = absurd (omega arith)
    timed_nonempty (w ∷ ws) ms l = refl

    quoted_time : (ws : List Task) (ms : List ℕ) → Paired (Quoted T) ws ms → is_empty ws ≡ false → any (λ task. any (takes T task (stage_time T ws ms)) (range_with_len 0 T.count)) ws ≡ true
    quoted_time [] ms p h = absurd (both_ways true h refl)
    quoted_time (w ∷ ws) [] p h = absurd p
    quoted_time (w ∷ ws) (m ∷ ms) p h = go (λ k. quoted_time ws ms p.1 k) (cases_lt (stage_time T ws ms) (suc q.minutes))
      where
        q : Quote C
        q = p.0.0

        s : quote_of T w m ≡ Some q
        s = p.0.1

        time : ℕ
        time = stage_time T (w ∷ ws) (m ∷ ms)

        whole : time ≡ max q.minutes (stage_time T ws ms)
        whole = ap (λ (o : Option (Quote C)). max (minutes_of o) (stage_time T ws ms)) s

        mine : time ≡ q.minutes → any (takes T w time) (range_with_len 0 T.count) ≡ true
        mine e = any_of (takes T w time) (in_counting 0 T.count m zero-le (omega (arith, below_count T F w m q s)))
            (ap (λ (o : Option (Quote C)). elim o as (λ _. Bool) [ None ↦ false | Some r ↦ eqb r.minutes time ]) s ∙ eq-eqb _ _ (sym e))

        go : (is_empty ws ≡ false → any (λ task. any (takes T task (stage_time T ws ms)) (range_with_len 0 T.count)) ws ≡ true) → (stage_time T ws ms < suc q.minutes) ⊎ (suc q.minutes ≤ stage_time T ws ms) → any (λ task. any (takes T task time) (range_with_len 0 T.count)) (w ∷ ws) ≡ true
        go ih (inl l) = or_left _ _ (mine (omega (arith, whole)))
        go ih (inr l) = or_right (any (takes T w time) (range_with_len 0 T.count)) _
            (let e : stage_time T ws ms ≡ time = omega (arith, whole) in
            subst (λ (n : ℕ). any (λ task. any (takes T task n) (range_with_len 0 T.count)) ws ≡ true) e (ih (timed_nonempty ws ms (omega arith))))

    pub stage_time_is_time : (tasks : List Task) (machines : List ℕ) → Paired (Quoted T) tasks machines → is_time T tasks (stage_time T tasks machines) ≡ true
    stage_time_is_time [] ms p = refl
    stage_time_is_time (w ∷ ws) ms p = quoted_time (w ∷ ws) ms p refl

  takes_minutes : (w : Task) (a m : ℕ) → takes T w a m ≡ true → minutes_of (quote_of T w m) ≡ a
  takes_minutes w a m h = go (quote_of T w m) h
    where
      go : (o : Option (Quote C)) → elim o as (λ _. Bool) [ None ↦ false | Some q ↦ eqb q.minutes a ] ≡ true → minutes_of o ≡ a
      go None k = absurd (both_ways false refl k)
      go (Some q) k = eqb-true _ _ k

  minutes_takes : (w : Task) (m : ℕ) → (minutes_of (quote_of T w m) ≡ 0) ⊎ (takes T w (minutes_of (quote_of T w m)) m ≡ true)
  minutes_takes w m = go (quote_of T w m)
    where
      go : (o : Option (Quote C)) → (minutes_of o ≡ 0) ⊎ (elim o as (λ _. Bool) [ None ↦ false | Some q ↦ eqb q.minutes (minutes_of o) ] ≡ true)
      go None = inl refl
      go (Some q) = inr (eq-eqb _ _ refl)

  -- the greatest-time is 0 or taken
  greatest_below_taken : (w : Task) (n : ℕ) → (greatest_time_below T w n ≡ 0) ⊎ ((m : ℕ) × (m < n) × (takes T w (greatest_time_below T w n) m ≡ true))
  greatest_below_taken w zero = inl refl
  greatest_below_taken w (suc n) = go (greatest_below_taken w n) (minutes_takes w n) (cases_lt (greatest_time_below T w n) (minutes_of (quote_of T w n)))
    where
      whole : ℕ
      whole = greatest_time_below T w (suc n)

      newest : minutes_of (quote_of T w n) ≡ whole → takes T w (minutes_of (quote_of T w n)) n ≡ true → (whole ≡ 0) ⊎ ((m : ℕ) × (m < suc n) × (takes T w whole m ≡ true))
      newest e h = inr (n, le_refl (suc n), subst (λ (a : ℕ). takes T w a n ≡ true) e h)

      go : (greatest_time_below T w n ≡ 0) ⊎ ((m : ℕ) × (m < n) × (takes T w (greatest_time_below T w n) m ≡ true)) → (minutes_of (quote_of T w n) ≡ 0) ⊎ (takes T w (minutes_of (quote_of T w n)) n ≡ true)
          → (greatest_time_below T w n < minutes_of (quote_of T w n)) ⊎ (minutes_of (quote_of T w n) ≤ greatest_time_below T w n) → (whole ≡ 0) ⊎ ((m : ℕ) × (m < suc n) × (takes T w whole m ≡ true))
      go r (inl z) (inl l) = absurd (omega arith)
      go r (inr h) (inl l) = newest (omega arith) h
      go (inl z) s (inr l) = inl (omega arith)
      go (inr r) s (inr l) = inr (r.0, omega (arith, r.1), subst (λ (a : ℕ). takes T w a r.0 ≡ true) (let e : greatest_time_below T w n ≡ whole = omega arith in e) r.2)

  greatest_taken : (tasks : List Task) → (greatest_time T tasks ≡ 0) ⊎ (any (λ task. any (takes T task (greatest_time T tasks)) (range_with_len 0 T.count)) tasks ≡ true)
  greatest_taken [] = inl refl
  greatest_taken (w ∷ ws) = go (greatest_below_taken w T.count) (greatest_taken ws) (cases_lt (greatest_time T ws) (greatest_time_below T w T.count))
    where
      mine : ℕ
      mine = greatest_time_below T w T.count

      whole : ℕ
      whole = greatest_time T (w ∷ ws)

      Goal : Type 0
      Goal = (whole ≡ 0) ⊎ (any (λ task. any (takes T task whole) (range_with_len 0 T.count)) (w ∷ ws) ≡ true)

      go : (mine ≡ 0) ⊎ ((m : ℕ) × (m < T.count) × (takes T w mine m ≡ true)) → (greatest_time T ws ≡ 0) ⊎ (any (λ task. any (takes T task (greatest_time T ws)) (range_with_len 0 T.count)) ws ≡ true)
          → (greatest_time T ws < mine) ⊎ (mine ≤ greatest_time T ws) → Goal
      go (inl z) r (inl l) = absurd (omega arith)
      go (inr s) r (inl l) = inr (or_left _ _ (any_of (takes T w whole) (in_counting 0 T.count s.0 zero-le (omega (arith, s.1)))
          (subst (λ (a : ℕ). takes T w a s.0 ≡ true) (let e : mine ≡ whole = omega arith in e) s.2)))
      go s (inl z) (inr l) = inl (omega arith)
      go s (inr h) (inr l) = inr (or_right (any (takes T w whole) (range_with_len 0 T.count)) _
          (subst (λ (a : ℕ). any (λ task. any (takes T task a) (range_with_len 0 T.count)) ws ≡ true) (let e : greatest_time T ws ≡ whole = omega arith in e) h))

  greatest_of_member : {w : Task} {ws : List Task} → In w ws → greatest_time_below T w T.count ≤ greatest_time T ws
  greatest_of_member (here {y} {ys} e) = rw e (omega arith)
  greatest_of_member (later {y} {ys} i) = omega (arith, greatest_of_member i)

  none_greater : Ranged T → (tasks : List Task) (a : ℕ) → is_time T tasks a ≡ true → a ≤ greatest_time T tasks
  none_greater F [] a h = let e = eqb-true _ _ h in omega arith
  none_greater F (w ∷ ws) a h =
      let r = of_any (λ task. any (takes T task a) (range_with_len 0 T.count)) (w ∷ ws) h in
      let m = of_any (takes T r.0 a) (range_with_len 0 T.count) r.2 in
      omega (arith, takes_minutes r.0 a m.0 m.2, minutes_at_most F r.0 m.0, greatest_of_member r.1)

  greatest_is_time : Ranged T → (tasks : List Task) (a : ℕ) → is_time T tasks a ≡ true → is_time T tasks (greatest_time T tasks) ≡ true
  greatest_is_time F [] a h = refl
  greatest_is_time F (w ∷ ws) a h = elim (greatest_taken (w ∷ ws)) [
    | inl z ↦ let l = none_greater F (w ∷ ws) a h in let e : a ≡ greatest_time T (w ∷ ws) = omega arith in subst (λ (n : ℕ). is_time T (w ∷ ws) n ≡ true) e h
    | inr t ↦ t
  ]

  -- one more at the end
  pub greatest_time_append : (tasks others : List Task) → greatest_time T (tasks ++ others) ≡ max (greatest_time T tasks) (greatest_time T others)
  greatest_time_append [] others = omega arith
  greatest_time_append (task ∷ tasks) others = omega (arith, greatest_time_append tasks others)

  pub greatest_time_push : (tasks : List Task) (task : Task) → greatest_time T (tasks ++ (task ∷ [])) ≡ max (greatest_time T tasks) (greatest_time_below T task T.count)
  greatest_time_push tasks task = omega (arith, greatest_time_append tasks (task ∷ []))

  pub span_append : (stages others : List (List Task)) → span T (stages ++ others) ≡ span T stages + span T others
  span_append [] others = omega arith
  span_append (tasks ∷ stages) others = omega (arith, span_append stages others)

pub greatest_times_are_quoted : {C : Type 0} → GreatestTimesAreQuoted C
greatest_times_are_quoted T F = record { none_greater = none_greater T F; is_one = greatest_is_time T F }
