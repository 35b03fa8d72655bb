-- There is one plan of a length and cost
use Rattle.std.proofs.Common.{◌≡◌, ℕ, ◌<◌, Bool, true, false, ◌⊎◌, List, [], ◌∷◌, length, get_or, Some, sym, refl, ◌∙◌, subst, inl, inr, le_antisymm, arith}
use Rattle.std.specs.List.{slice_get, slice_index}
use Rattle.std.proofs.lemmas.List.{ext_get_or}
use Rattle.std.proofs.lemmas.Option.{slice_get_cases, get_or_from_slice_get}
use Rattle.costs.specs.Kind.{Kind, Laws}
use Rattle.tariffs.specs.Meaning.{Meaning}
use Rattle.sheets.specs.Book.{Book}
use Rattle.sheets.specs.declared.task.Task.{Task}
use Rattle.model.specs.declared.choice.Choice.{Choice}
use Rattle.model.specs.declared.point.Point.{Point}
use Rattle.model.specs.Assignment.{standing}
use Rattle.model.specs.Allowance.{IsCheapest}
use Rattle.model.specs.Plan.{Precedes, IsFirst, IsPlan}

-- of two lists one at most comes first
not_both_first : (xs ys : List ℕ) → Precedes xs ys → Precedes ys xs → ⊥
not_both_first [] ys p q = p
not_both_first (x ∷ xs) [] p q = p
not_both_first (x ∷ xs) (y ∷ ys) (inl l) (inl m) = omega arith
not_both_first (x ∷ xs) (y ∷ ys) (inl l) (inr m) = omega (arith, m.0)
not_both_first (x ∷ xs) (y ∷ ys) (inr l) (inl m) = omega (arith, l.0)
not_both_first (x ∷ xs) (y ∷ ys) (inr l) (inr m) = not_both_first xs ys l.1 m.1

module _ {C : Type 0} {K : Kind C} (L : Laws K) (T : Meaning C) where
  one_first : (book : Book) (p : Point C) (xs ys : List ℕ) → IsFirst K T (standing book) p xs → IsFirst K T (standing book) p ys → xs ≡ ys
  one_first book p xs ys f g = go (f.1 ys g.0) (g.1 xs f.0)
    where
      go : (ys ≡ xs) ⊎ Precedes xs ys → (xs ≡ ys) ⊎ Precedes ys xs → xs ≡ ys
      go (inl e) o = sym e
      go (inr l) (inl e) = e
      go (inr l) (inr m) = absurd (not_both_first xs ys l m)

  one_machine : (task : Task) (a : ℕ) (x y : Choice C) → IsCheapest K T task a x → IsCheapest K T task a y → x.machine ≡ y.machine
  one_machine task a x y h k = le_antisymm
      (h.lowest y.machine k.quote k.quoted k.allowed (k.price ∙ sym same))
      (k.lowest x.machine h.quote h.quoted h.allowed (h.price ∙ same))
    where
      same : x.cost ≡ y.cost
      same = L.antisymmetric _ _
          (subst (λ (c : C). K.at_most x.cost c ≡ true) k.price (h.least y.machine k.quote k.quoted k.allowed))
          (subst (λ (c : C). K.at_most y.cost c ≡ true) h.price (k.least x.machine h.quote h.quoted h.allowed))

  pub one_plan : (book : Book) (p : Point C) (xs ys : List ℕ) → IsPlan K T book p xs → IsPlan K T book p ys → xs ≡ ys
  one_plan book p xs ys h k = ext_get_or 0 xs ys (h.as_long ∙ sym k.as_long) each
    where
      list : h.allowances ≡ k.allowances
      list = one_first book p h.allowances k.allowances h.first k.first

      byte : (i : ℕ) (task : Task) → slice_get book.tasks i ≡ Some task → (struck : Bool) → task.struck ≡ struck → get_or xs i 0 ≡ get_or ys i 0
      byte i task e true s = get_or_from_slice_get xs i _ 0 (h.struck_tasks i task e s) ∙ sym (get_or_from_slice_get ys i _ 0 (k.struck_tasks i task e s))
      byte i task e false s =
          let x = h.standing_tasks i task e s in
          let y = k.standing_tasks i task e s in
          let c = subst (λ (l : List ℕ). IsCheapest K T task (slice_index l task.stage) x.0) list x.2 in
          get_or_from_slice_get xs i _ 0 x.1
          ∙ one_machine task (slice_index k.allowances task.stage) x.0 y.0 c y.2
          ∙ sym (get_or_from_slice_get ys i _ 0 y.1)

      each : (i : ℕ) → i < length xs → get_or xs i 0 ≡ get_or ys i 0
      each i l = elim (slice_get_cases book.tasks i).1 [
        | inl t ↦ byte i t.0 t.2 t.0.struck refl
        | inr g ↦ absurd (omega (arith, h.as_long, g.0))
      ]
