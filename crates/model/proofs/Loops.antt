-- What the loops over stages, tasks, minutes and cells add to
use Rattle.std.proofs.Common.{◌≡◌, ℕ, zero, suc, ◌+◌, ◌-◌, ◌*◌, ◌/◌, ◌%◌, ◌<◌, ◌≤◌, min, max, Bool, true, false, cond, ◌||◌, ◌⊎◌, List, [], ◌∷◌, ◌++◌, length, get_or, take, drop, Some, None, filter, Option, sym, refl, ap, ◌∙◌, subst, ap₂, inl, inr, zero-le, le_trans, le_refl, mul_comm, add-one, arith}
use Rattle.std.proofs.lemmas.Nat.{mul-le, mul-add-lt, div-mul-add, mod-mul-add}
use Rattle.std.proofs.lemmas.List.FromFn.{length-map-range_with_len, get_or-map-range_with_len}
use Rattle.std.proofs.lemmas.List.Elements.{filter_more}
use Rattle.std.proofs.lemmas.List.{append-nil, get_or_append_left, length-append, drop_more, drop_all, take_more}
use Rattle.std.proofs.lemmas.Bool.{both_ways, cases_lt, le-leb, lt-leb}
use Rattle.costs.specs.Kind.{Kind, Laws}
use Rattle.tariffs.specs.Meaning.{Meaning, Ranged}
use Rattle.tariffs.specs.declared.quote.Quote.{Quote}
use Rattle.sheets.specs.Book.{Book}
use Rattle.sheets.specs.History.{Sound}
use Rattle.sheets.specs.declared.task.Task.{Task}
use Rattle.model.specs.declared.cell.Cell.{Cell}
use Rattle.model.specs.declared.point.Point.{Point}
use Rattle.model.specs.Lists.{In, here, later, any, least}
use Rattle.sheets.specs.Tasks.{stands_in}
use Rattle.model.specs.Assignment.{stage_tasks, standing, quote_of, minutes_of, pairs}
use Rattle.model.specs.Allowance.{cheaper, cheapest_of, cost_within, greatest_time_below, greatest_time}
use Rattle.model.specs.Cell.{span, width, place, cells_needed, cell_of, cost_in, least_cost, cell, table, offer}
use Rattle.model.specs.Limit.{cheaper_then_shorter, within_budget, within_deadline}
use Rattle.model.specs.Plan.{first_from, first_allowance, first_list, or_neutral}
use Rattle.model.specs.Scan.{point, drops, point_at, drops_below, first_below}
use Rattle.model.proofs.Assignments.{of_pairs, quote_timed}
use Rattle.model.proofs.LeastCosts.{by_times, none_left}
use Rattle.model.proofs.Rows.{deadline_row_none}
use Rattle.model.proofs.Scans.{budget_scan, deadline_scan}
use Rattle.model.proofs.Spans.{greatest_time_push, span_append, length_span}
use Rattle.model.proofs.Tables.{laid_out}

-- the stages from j on
module _ (book : Book) where
  pub stage_count : length (standing book) ≡ book.stages
  stage_count = length-map-range_with_len (stage_tasks book.tasks) 0 book.stages

  pub stage_at : (j : ℕ) → j < book.stages → get_or (standing book) j [] ≡ stage_tasks book.tasks j
  stage_at j l = get_or-map-range_with_len (stage_tasks book.tasks) 0 book.stages j j [] l (omega arith)

  pub stages_step : (j : ℕ) → j < book.stages → drop j (standing book) ≡ stage_tasks book.tasks j ∷ drop (j + 1) (standing book)
  stages_step j l = drop_more (standing book) j [] (omega (arith, stage_count)) ∙ ap (λ (tasks : List Task). tasks ∷ drop (j + 1) (standing book)) (stage_at j l)

  pub stages_end : drop book.stages (standing book) ≡ []
  stages_end = drop_all book.stages (standing book) (omega (arith, stage_count))

kept_by_same : {A : Type 0} (f g : A → Bool) (xs : List A) → ((x : A) → In x xs → f x ≡ g x) → filter f xs ≡ filter g xs
kept_by_same f g [] h = refl
kept_by_same f g (x ∷ xs) h = ap₂ (λ b ys. cond b (x ∷ ys) ys) (h x (here refl)) (kept_by_same f g xs (λ y i. h y (later i)))

-- a task more
pub stage_tasks_more : (tasks : List Task) (stage i : ℕ) (d : Task) → i < length tasks → stage_tasks (take (i + 1) tasks) stage ≡ stage_tasks (take i tasks) stage ++ cond (stands_in stage (get_or tasks i d)) (get_or tasks i d ∷ []) []
stage_tasks_more tasks stage i d l = filter_more (stands_in stage) tasks i d l

pub any_append : {A : Type 0} (test : A → Bool) (xs ys : List A) → any test (xs ++ ys) ≡ (any test xs || any test ys)
any_append test [] ys = refl
any_append test (x ∷ xs) ys = elim (test x) as (λ b. (b || any test (xs ++ ys)) ≡ ((b || any test xs) || any test ys)) [ true ↦ refl | false ↦ any_append test xs ys ]

-- times
module _ {C : Type 0} (T : Meaning C) where
  pub greatest_time_more : (tasks : List Task) (stage i : ℕ) (d : Task) → i < length tasks →
      greatest_time T (stage_tasks (take (i + 1) tasks) stage) ≡ cond (stands_in stage (get_or tasks i d)) (max (greatest_time T (stage_tasks (take i tasks) stage)) (greatest_time_below T (get_or tasks i d) T.count)) (greatest_time T (stage_tasks (take i tasks) stage))
  greatest_time_more tasks stage i d l = ap (greatest_time T) (stage_tasks_more tasks stage i d l) ∙ go (stands_in stage (get_or tasks i d))
    where
      before : List Task
      before = stage_tasks (take i tasks) stage

      go : (b : Bool) → greatest_time T (before ++ cond b (get_or tasks i d ∷ []) []) ≡ cond b (max (greatest_time T before) (greatest_time_below T (get_or tasks i d) T.count)) (greatest_time T before)
      go true = greatest_time_push T before (get_or tasks i d)
      go false = ap (greatest_time T) (append-nil before)

  pub span_more : (book : Book) (j : ℕ) → j < book.stages → span T (take (j + 1) (standing book)) ≡ span T (take j (standing book)) + greatest_time T (stage_tasks book.tasks j)
  span_more book j l =
      ap (span T) (take_more (standing book) j [] (omega (arith, stage_count book)))
      ∙ span_append T (take j (standing book)) (get_or (standing book) j [] ∷ [])
      ∙ (let e : greatest_time T (get_or (standing book) j []) ≡ greatest_time T (stage_tasks book.tasks j) = ap (greatest_time T) (stage_at book j l) in omega arith)

  module _ (F : Ranged T) where
    pub minutes_bound : (task : Task) (machine : ℕ) → minutes_of (quote_of T task machine) ≤ 1440
    minutes_bound task machine = go (quote_of T task machine) refl
      where
        go : (o : Option (Quote C)) → quote_of T task machine ≡ o → minutes_of o ≤ 1440
        go None e = zero-le
        go (Some q) e = (quote_timed T F task machine q e).1

    pub greatest_time_below_bound : (task : Task) (n : ℕ) → greatest_time_below T task n ≤ 1440
    greatest_time_below_bound task zero = zero-le
    greatest_time_below_bound task (suc n) = omega (arith, greatest_time_below_bound task n, minutes_bound task n)

    pub greatest_time_bound : (tasks : List Task) → greatest_time T tasks ≤ 1440
    greatest_time_bound [] = zero-le
    greatest_time_bound (task ∷ tasks) = omega (arith, greatest_time_below_bound task T.count, greatest_time_bound tasks)

    pub span_bound : (stages : List (List Task)) → span T stages ≤ length stages * 1440
    span_bound [] = zero-le
    span_bound (tasks ∷ stages) = omega (arith, greatest_time_bound tasks, span_bound stages)

    -- what a sheet's limits make of S and of the cells
    pub width_bound : (book : Book) → Sound book → width T book ≤ 23041
    width_bound book sound = let f = sound.few_stages in omega (arith, span_bound (standing book), stage_count book)

    pub cells_needed_bound : (book : Book) → Sound book → cells_needed T book ≤ 391697
    cells_needed_bound book sound = let f = sound.few_stages in mul-le (book.stages + 1) (width T book) 17 23041 (omega arith) (width_bound book sound)

-- places
module _ {C : Type 0} (T : Meaning C) (book : Book) where
  pub place_inside : (j t : ℕ) → j ≤ book.stages → t < width T book → place T book j t < cells_needed T book
  place_inside j t l m = le_trans (mul-add-lt j (width T book) t (book.stages + 1) (omega arith) m) (omega (arith, mul_comm (width T book) (book.stages + 1)))

  -- no two cells at one place
  pub place_row : (j t : ℕ) → t < width T book → place T book j t / width T book ≡ j
  place_row j t l = div-mul-add j (width T book) t l

  pub place_column : (j t : ℕ) → t < width T book → place T book j t % width T book ≡ t
  place_column j t l = mod-mul-add j (width T book) t l

  pub place_apart : (j t i u : ℕ) → t < width T book → u < width T book → place T book j t ≡ place T book i u → (j ≡ i) × (t ≡ u)
  place_apart j t i u l m e = (
    sym (place_row j t l) ∙ ap (λ (n : ℕ). n / width T book) e ∙ place_row i u m,
    sym (place_column j t l) ∙ ap (λ (n : ℕ). n % width T book) e ∙ place_column i u m,
  )

module _ {C : Type 0} (K : Kind C) (T : Meaning C) where
  pub cheaper_none : (o : Option C) → cheaper K o None ≡ o
  cheaper_none None = refl
  cheaper_none (Some c) = refl

  pub cheapest_of_same : (f : ℕ → Option C) (n : ℕ) → f n ≡ None → cheapest_of K f (suc n) ≡ cheapest_of K f n
  cheapest_of_same f n e = ap (cheaper K (cheapest_of K f n)) e ∙ cheaper_none (cheapest_of K f n)

-- cells
module _ {C : Type 0} {K : Kind C} (L : Laws K) (T : Meaning C) (F : Ranged T) (book : Book) where
  pub last_cell : (t : ℕ) → cell K T book book.stages t ≡ cell_of K (Some K.neutral)
  last_cell t = ap (λ (stages : List (List Task)). cell_of K (least_cost K T stages t)) (stages_end book) ∙ ap (cell_of K) (none_left L T F t)

  pub cell_by_times : (j t n : ℕ) → j < book.stages → greatest_time T (stage_tasks book.tasks j) < n →
      cell K T book j t ≡ cell_of K (cheapest_of K (offer K T (stage_tasks book.tasks j) (drop (j + 1) (standing book)) t) n)
  cell_by_times j t n l h =
      ap (λ (stages : List (List Task)). cell_of K (least_cost K T stages t)) (stages_step book j l)
      ∙ ap (cell_of K) (by_times L T F (stage_tasks book.tasks j) (drop (j + 1) (standing book)) t n h)

-- what is read off cells in memory
pub cost_in_cell : {C : Type 0} (K : Kind C) (o : Option C) → cost_in (cell_of K o) ≡ o
cost_in_cell K None = refl
cost_in_cell K (Some c) = refl

module _ {C : Type 0} (K : Kind C) (T : Meaning C) (book : Book) where
  pub cell_in_table : (rest : List (Cell C)) (j t : ℕ) (d : Cell C) → j ≤ book.stages → t < width T book → get_or (table K T book ++ rest) (place T book j t) d ≡ cell K T book j t
  cell_in_table rest j t d l m =
      let laid = laid_out K T book in
      get_or_append_left (table K T book) rest d (place T book j t) (omega (arith, place_inside T book j t l m, laid.size)) ∙ laid.at_place j t d l m

  pub cost_in_table : (rest : List (Cell C)) (j t : ℕ) (d : Cell C) → j ≤ book.stages → t < width T book → cost_in (get_or (table K T book ++ rest) (place T book j t) d) ≡ least_cost K T (drop j (standing book)) t
  cost_in_table rest j t d l m = ap cost_in (cell_in_table rest j t d l m) ∙ cost_in_cell K (least_cost K T (drop j (standing book)) t)

  -- the first allowance list, stage by stage
  pub first_list_step : (j t : ℕ) (spent cost : C) → j < book.stages →
      let tasks = stage_tasks book.tasks j in
      let a = first_allowance K T tasks (drop (j + 1) (standing book)) t spent cost in
      first_list K T (drop j (standing book)) t spent cost ≡ a ∷ first_list K T (drop (j + 1) (standing book)) (t - a) (K.join spent (or_neutral K (cost_within K T tasks a))) cost
  first_list_step j t spent cost l = ap (λ (stages : List (List Task)). first_list K T stages t spent cost) (stages_step book j l)

  pub first_list_end : (t : ℕ) (spent cost : C) → first_list K T (drop book.stages (standing book)) t spent cost ≡ []
  first_list_end t spent cost = ap (λ (stages : List (List Task)). first_list K T stages t spent cost) (stages_end book)

-- how many points a scan has found
module _ {C : Type 0} (K : Kind C) (costs : ℕ → Option C) where
  pub point_at_one : (t : ℕ) (o : Option C) → length (point_at K costs t o) ≤ 1
  point_at_one t None = zero-le
  point_at_one t (Some c) = elim (drops K costs t c) as (λ b. length (cond {A = List (Point C)} b (point t c ∷ []) []) ≤ 1) [ true ↦ le_refl 1 | false ↦ zero-le ]

  pub drops_count : (n : ℕ) → length (drops_below K costs n) ≤ n
  drops_count zero = zero-le
  drops_count (suc n) = rw length-append (omega (arith, drops_count n, point_at_one n (costs n)))

-- the first minute that passes
module _ (test : ℕ → Bool) where
  first_from_later : (a n u : ℕ) → a ≤ u → u ≤ a + n → (u < a + n → test u ≡ true) → ((v : ℕ) → a ≤ v → v < u → test v ≡ false) → first_from test a n ≡ u
  first_from_later a zero u l m h k = omega arith
  first_from_later a (suc n) u l m h k = go (λ g. first_from_later (a + 1) n u g (omega arith) (λ i. h (omega arith)) (λ v i j. k v (omega arith) j)) (test a) refl (cases_lt a u)
    where
      go : (a + 1 ≤ u → first_from test (a + 1) n ≡ u) → (b : Bool) → test a ≡ b → (a < u) ⊎ (u ≤ a) → cond b a (first_from test (a + 1) n) ≡ u
      go ih true e (inl g) = absurd (both_ways _ (k a (le_refl a) g) e)
      go ih false e (inl g) = ih (omega arith)
      go ih true e (inr g) = omega arith
      go ih false e (inr g) = let i : u ≡ a = omega arith in absurd (both_ways _ e (subst (λ (v : ℕ). test v ≡ true) i (h (omega arith))))

  -- found at u, or none before n
  pub first_from_found : (n u : ℕ) → u ≤ n → test u ≡ true → ((v : ℕ) → v < u → test v ≡ false) → first_from test 0 n ≡ u
  first_from_found n u l h k = first_from_later 0 n u zero-le (omega arith) (λ _. h) (λ v _ g. k v g)

  pub first_from_none : (n : ℕ) → ((v : ℕ) → v < n → test v ≡ false) → first_from test 0 n ≡ n
  first_from_none n k = first_from_later 0 n n zero-le (omega arith) (λ g. absurd (omega arith)) (λ v _ g. k v g)

-- the answers off the first row
module _ {C : Type 0} {K : Kind C} (L : Laws K) (T : Meaning C) (F : Ranged T) (stages : List (List Task)) where
  pub budget_by_row : (limit : C) → first_below K (least_cost K T stages) limit (span T stages + 1) ≡ within_budget K T stages limit
  budget_by_row limit = budget_scan L T F stages limit

  -- a deadline past the span is the span
  pub deadline_held : (limit : ℕ) → within_deadline K T stages limit ≡ within_deadline K T stages (min limit (span T stages))
  deadline_held limit = ap (least (cheaper_then_shorter K)) (kept_by_same _ _ (pairs K T stages) (λ p i.
      let h = of_pairs K T stages p i in
      let short : p.length ≤ span T stages = subst (λ (q : Point C). q.length ≤ span T stages) (sym h.2) (length_span T F stages h.0) in
      elim (cases_lt limit p.length) [
        | inl l ↦ lt-leb _ _ l ∙ sym (lt-leb _ _ (omega arith))
        | inr l ↦ le-leb _ _ l ∙ sym (le-leb _ _ (omega arith))
      ]))

  pub deadline_by_row : (limit : ℕ) (c : C) → least_cost K T stages (min limit (span T stages)) ≡ Some c →
      first_below K (least_cost K T stages) c (min limit (span T stages) + 1) ≡ within_deadline K T stages limit
  deadline_by_row limit c e = rw add-one (deadline_scan L T F stages (min limit (span T stages)) c e) ∙ sym (deadline_held limit)

  pub deadline_by_row_none : (limit : ℕ) → least_cost K T stages (min limit (span T stages)) ≡ None → within_deadline K T stages limit ≡ None
  deadline_by_row_none limit e = deadline_held limit ∙ deadline_row_none L T F stages (min limit (span T stages)) e
