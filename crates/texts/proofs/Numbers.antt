-- A number read digit by digit
use Rattle.std.proofs.Common.{◌≡◌, ℕ, ◌+◌, ◌-◌, ◌*◌, min, Bool, true, false, cond, ◌&&◌, List, [], ◌∷◌, Option, Some, None, ControlFlow, refl, sym, ap, subst, ◌∙◌, arith}
use Rattle.std.specs.Fn.{Called, Mut}
use Rattle.std.specs.Iterator.{AlwaysYields, YieldsThen, TryFoldsItems}
use Rattle.std.specs.List.{FoldsTo}
use Rattle.std.specs.Option.{MatchOption, unwrap_or}
use Rattle.std.specs.ControlFlow.{continue_value}
use Rattle.std.proofs.lemmas.Iterator.{YieldsList}
use Rattle.texts.specs.Number.{is_digit, all_digits, value_behind}

-- the value with one more digit, held; none at another byte
abbrev pub digit_behind : ℕ → ℕ → Option ℕ
digit_behind value byte = cond (is_digit byte) (Some (min (value * 10 + (byte - 48)) 4294967295)) None

-- the number that digits of this value and the text behind them spell
abbrev pub number_behind : ℕ → List ℕ → Option ℕ
number_behind value text = cond (all_digits text) (Some (min (value_behind value text) 4294967295)) None

went_on : (t : Bool) (x y : ℕ) → cond t (Some x) None ≡ Some y → (t ≡ true) × (y ≡ x)
went_on true x y e = (refl, ap (λ o. unwrap_or o 0) (sym e))
went_on false x y e = grind (arith, e)

broke_off : (t : Bool) (x : ℕ) → cond t (Some x) None ≡ None → t ≡ false
broke_off true x e = grind (arith, e)
broke_off false x e = refl

module _ {S A F : Type 0} (N : Type 0) (steps : S → Option A → S → Type 0) (v : A → ℕ) (g : Mut F (ℕ × (A × Unit {0})) (Option ℕ))
    (acts : (value : ℕ) (x : A) (w : Option ℕ) (f q : F) → Called g f (value, (x, tt)) w q → w ≡ digit_behind value (v x)) (r : Option ℕ) where
  -- turns that go on, and then the end of the text or a turn that breaks off
  tried : (xs : List A) (o : Option A) (text : List ℕ) (value : ℕ) (p q : F × ℕ) (s u : S) → p.1 ≡ min value 4294967295
      → AlwaysYields steps v s text → YieldsThen steps s xs o u → FoldsTo (λ p x q. (w : Option ℕ) × Called g p.0 (p.1, (x, tt)) w q.0 × (w ≡ Some q.1)) p xs q
      → MatchOption o (r ≡ Some q.1) (λ x. (w : Option ℕ) × (k : F) × (n : N) × Called g q.0 (q.1, (x, tt)) w k × (w ≡ None) × (r ≡ None))
      → r ≡ number_behind value text
  tried [] None [] value p q s u held all ran turns end = end ∙ ap Some (ap (λ (j : F × ℕ). j.1) (sym turns) ∙ held)
  tried [] None (byte ∷ bytes) value p q s u held all ran turns end = absurd (all.0 u (subst (λ j. steps j None u) (sym ran.1) ran.2))
  tried [] (Some x) [] value p q s u held all ran turns end = absurd (all x u (subst (λ j. steps j (Some x) u) (sym ran.1) ran.2))
  tried [] (Some x) (byte ∷ bytes) value p q s u held all ran turns end =
      let same : v x ≡ byte = (all.1 x u (subst (λ j. steps j (Some x) u) (sym ran.1) ran.2)).0 in
      let other : is_digit byte ≡ false = ap is_digit (sym same) ∙ broke_off _ _ (sym (acts q.1 x end.0 q.0 end.1 end.3) ∙ end.4) in
      end.5 ∙ sym (ap (λ b. cond (b && all_digits bytes) (Some (min (value_behind value (byte ∷ bytes)) 4294967295)) None) other)
  tried (x ∷ xs) o [] value p q s u held all ran turns end = absurd (all x ran.1.0 ran.1.1)
  tried (x ∷ xs) o (byte ∷ bytes) value p q s u held all ran turns end =
      let next = all.1 x ran.1.0 ran.1.1 in
      let on = went_on _ _ _ (sym (acts p.1 x turns.1.0 p.0 turns.0.0 turns.1.1) ∙ turns.1.2) in
      let digit : is_digit byte ≡ true = ap is_digit (sym next.0) ∙ on.0 in
      let more : turns.0.1 ≡ min (value * 10 + (byte - 48)) 4294967295 = omega (arith, on.1, held, next.0) in
      tried xs o bytes (value * 10 + (byte - 48)) turns.0 q ran.1.0 u more next.1 (ran.0, ran.1.2, ran.2) turns.2 end
      ∙ sym (ap (λ b. cond (b && all_digits bytes) (Some (min (value_behind value (byte ∷ bytes)) 4294967295)) None) digit)

-- the digits taken one by one by `try_fold`
pub number_from_yields_List : {S A F N : Type 0} {steps : S → Option A → S → Type 0} {v : A → ℕ} {g : Mut F (ℕ × (A × Unit {0})) (Option ℕ)} {s : S} {f : F} {text : List ℕ} (u : S) (r : Option ℕ)
    → TryFoldsItems steps g (λ w (c : ControlFlow N ℕ). w ≡ continue_value c) (λ n w. w ≡ None) s f 0 r u
    → YieldsList steps v s text → ((value : ℕ) (x : A) (w : Option ℕ) (f q : F) → Called g f (value, (x, tt)) w q → w ≡ digit_behind value (v x)) → r ≡ number_behind 0 text
number_from_yields_List {steps = steps} {v = v} {g = g} {s = s} {f = f} {text = text} u r ran all acts =
    tried _ steps v g acts r ran.0 ran.1 text 0 (f, 0) (ran.2, ran.3) s u refl all.runs ran.4 ran.5 ran.6
