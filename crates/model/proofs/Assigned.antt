-- There is an assignment exactly where no standing task is without a quote
use Rattle.std.proofs.Common.{◌≡◌, ℕ, ◌↔◌, is_some, Some, None, Option, sym, refl, ap, ◌∙◌}
use Rattle.costs.specs.Kind.{Kind}
use Rattle.tariffs.specs.Meaning.{Meaning, Ranged}
use Rattle.sheets.specs.Book.{Book}
use Rattle.sheets.specs.History.{Sound}
use Rattle.model.specs.Assignment.{standing, pair_of, pairs, HasAssignment, Unquoted}
use Rattle.model.specs.Limit.{lowest_unquoted, IsLowestUnquoted}
use Rattle.model.proofs.Lists.{not_empty, some_in}
use Rattle.model.proofs.Assignments.{in_pairs, of_pairs}
use Rattle.model.proofs.LimitsInWords.{none_of}
use Rattle.model.proofs.Unquoted.{none_unquoted, lowest_is, all_quoted}

module _ {C : Type 0} (K : Kind C) (T : Meaning C) (F : Ranged T) (b : Book) (sound : Sound b) where
  pub assigned : HasAssignment T b ↔ (lowest_unquoted T b ≡ None)
  assigned = (
    (λ h. none_of _ (sym (none_unquoted T K b sound) ∙ not_empty (in_pairs K T (standing b) F (pair_of K T (standing b) h.0) (h.0, h.1, refl)))),
    (λ e.
        let x = some_in (pairs K T (standing b)) (none_unquoted T K b sound ∙ ap is_some e) in
        let h = of_pairs K T (standing b) x.0 x.1 in
        (h.0, h.1)),
  )

  pub lowest_of_none : (HasAssignment T b → ⊥) → (n : ℕ) × IsLowestUnquoted T b n
  lowest_of_none h = go (lowest_unquoted T b) refl
    where
      go : (o : Option ℕ) → lowest_unquoted T b ≡ o → (n : ℕ) × IsLowestUnquoted T b n
      go None e = absurd (h (assigned.1 e))
      go (Some n) e = (n, (lowest_is T F b n).1 e)

  pub none_assigned : (n : ℕ) → Unquoted T b n → HasAssignment T b → ⊥
  none_assigned n u h = (all_quoted T F b).1 (assigned.0 h) n u
