-- A budget shared out among stages and tasks
use Rattle.std.proofs.Common.{◌≡◌, ℕ, true, List, [], ◌∷◌, sym, refl, ap, subst, ap₂}
use Rattle.costs.specs.Kind.{Kind, Laws}
use Rattle.tariffs.specs.Meaning.{Meaning}
use Rattle.sheets.specs.declared.task.Task.{Task}
use Rattle.model.specs.Lists.{Paired}
use Rattle.model.specs.Assignment.{Quoted, IsAssignment, charge_of, stage_cost, cost_of}
use Rattle.model.specs.Equations.{joined_in_stage, joined_shares, bought_in_stage, machines_bought, Bought}
use Rattle.model.proofs.LeastCosts.{at_most_refl, join_mono}

module _ {C : Type 0} {K : Kind C} (L : Laws K) (T : Meaning C) where
  pub stage_bought : (tasks : List Task) (shares : List (C × ℕ)) → Paired (Bought K T) tasks shares → Paired (Quoted T) tasks (bought_in_stage shares)
  stage_bought [] [] b = tt
  stage_bought [] (s ∷ ss) b = absurd b
  stage_bought (t ∷ ts) [] b = absurd b
  stage_bought (t ∷ ts) (s ∷ ss) b = ((b.0.0, b.0.1), stage_bought ts ss b.1)

  -- machines that are bought make an assignment
  pub bought_assigns : (stages : List (List Task)) (shares : List (List (C × ℕ))) → Paired (Paired (Bought K T)) stages shares → IsAssignment T stages (machines_bought shares)
  bought_assigns [] [] b = tt
  bought_assigns [] (s ∷ ss) b = absurd b
  bought_assigns (t ∷ ts) [] b = absurd b
  bought_assigns (t ∷ ts) (s ∷ ss) b = (stage_bought t s b.0, bought_assigns ts ss b.1)

  pub stage_affords : (tasks : List Task) (shares : List (C × ℕ)) → Paired (Bought K T) tasks shares → K.at_most (stage_cost K T tasks (bought_in_stage shares)) (joined_in_stage K shares) ≡ true
  stage_affords [] [] b = at_most_refl L K.neutral
  stage_affords [] (s ∷ ss) b = absurd b
  stage_affords (t ∷ ts) [] b = absurd b
  stage_affords (t ∷ ts) (s ∷ ss) b =
      join_mono L _ s.0 _ _
      (subst (λ (x : C). K.at_most x s.0 ≡ true) (sym (ap (charge_of K) b.0.1)) b.0.2)
      (stage_affords ts ss b.1)

  -- and it costs at most the join of the shares
  pub bought_affords : (stages : List (List Task)) (shares : List (List (C × ℕ))) → Paired (Paired (Bought K T)) stages shares → K.at_most (cost_of K T stages (machines_bought shares)) (joined_shares K shares) ≡ true
  bought_affords [] [] b = at_most_refl L K.neutral
  bought_affords [] (s ∷ ss) b = absurd b
  bought_affords (t ∷ ts) [] b = absurd b
  bought_affords (t ∷ ts) (s ∷ ss) b = join_mono L _ _ _ _ (stage_affords t s b.0) (bought_affords ts ss b.1)

  -- each task of an assignment with what it costs as its share
  pub record Shared (stages : List (List Task)) (plan : List (List ℕ)) : Type 0 where
    pub shares : List (List (C × ℕ))
    pub bought : Paired (Paired (Bought K T)) stages shares
    pub machines : machines_bought shares ≡ plan
    pub joins : joined_shares K shares ≡ cost_of K T stages plan

  pub record StageShared (tasks : List Task) (plan : List ℕ) : Type 0 where
    pub shares : List (C × ℕ)
    pub bought : Paired (Bought K T) tasks shares
    pub machines : bought_in_stage shares ≡ plan
    pub joins : joined_in_stage K shares ≡ stage_cost K T tasks plan

  pub stage_shares : (tasks : List Task) (plan : List ℕ) → Paired (Quoted T) tasks plan → StageShared tasks plan
  stage_shares [] [] q = record { shares = []; bought = tt; machines = refl; joins = refl }
  stage_shares [] (m ∷ ms) q = absurd q
  stage_shares (t ∷ ts) [] q = absurd q
  stage_shares (t ∷ ts) (m ∷ ms) q =
      let rest = stage_shares ts ms q.1 in
      record {
        shares = (q.0.0.cost, m) ∷ rest.shares;
        bought = ((q.0.0, q.0.1, at_most_refl L q.0.0.cost), rest.bought);
        machines = ap (λ (ms : List ℕ). m ∷ ms) rest.machines;
        joins = ap₂ K.join (sym (ap (charge_of K) q.0.1)) rest.joins;
      }

  pub shares_of : (stages : List (List Task)) (plan : List (List ℕ)) → IsAssignment T stages plan → Shared stages plan
  shares_of [] [] a = record { shares = []; bought = tt; machines = refl; joins = refl }
  shares_of [] (m ∷ ms) a = absurd a
  shares_of (t ∷ ts) [] a = absurd a
  shares_of (t ∷ ts) (m ∷ ms) a =
      let here = stage_shares t m a.0 in
      let rest = shares_of ts ms a.1 in
      record {
        shares = here.shares ∷ rest.shares;
        bought = (here.bought, rest.bought);
        machines = ap₂ (λ (x : List ℕ) (xs : List (List ℕ)). x ∷ xs) here.machines rest.machines;
        joins = ap₂ K.join here.joins rest.joins;
      }
