-- A list or a row filled from its start
use Rattle.std.proofs.Common.{◌≡◌, ℕ, ◌+◌, ◌<◌, ◌≤◌, ltb, List, length, get_or, replicate, set, sym, ap, ◌∙◌, inl, inr, zero-le, arith}
use Rattle.std.proofs.lemmas.List.{get_or-set_same, get_or-set_other, get_or-replicate, get_or_past, length-replicate}
use Rattle.std.proofs.lemmas.Bool.{cases_eq, cases_lt, lt-ltb, le-ltb, cond-true, cond-false}
use Rattle.cells.specs.Memory.{up_to}

module _ {A : Type 0} (new old : ℕ → A) where
  pub up_to_before : (n i : ℕ) → i < n → up_to n new old i ≡ new i
  up_to_before n i l = cond-true (ltb i n) (new i) (old i) (lt-ltb i n l)

  pub up_to_from : (n i : ℕ) → n ≤ i → up_to n new old i ≡ old i
  up_to_from n i l = cond-false (ltb i n) (new i) (old i) (le-ltb i n l)

  pub up_to_other : (n i : ℕ) → (i ≡ n → ⊥) → up_to (n + 1) new old i ≡ up_to n new old i
  up_to_other n i k = elim (cases_lt i n) [
    | inl l ↦ up_to_before (n + 1) i (omega arith) ∙ sym (up_to_before n i l)
    | inr l ↦ elim (cases_eq i n) [ inl e ↦ absurd (k e) | inr m ↦ up_to_from (n + 1) i (omega arith) ∙ sym (up_to_from n i l) ]
  ]

  -- where new and old agree from place n on, all is new
  pub up_to_all : (n : ℕ) → ((i : ℕ) → n ≤ i → old i ≡ new i) → (i : ℕ) → up_to n new old i ≡ new i
  up_to_all n same i = elim (cases_lt i n) [ inl l ↦ up_to_before n i l | inr l ↦ up_to_from n i l ∙ same i l ]

-- what is new may be said in another way
pub up_to_like : {A : Type 0} (new other old : ℕ → A) (n : ℕ) → ((i : ℕ) → i < n → new i ≡ other i) → (i : ℕ) → up_to n new old i ≡ up_to n other old i
up_to_like new other old n same i = elim (cases_lt i n) [
  | inl l ↦ up_to_before new old n i l ∙ same i l ∙ sym (up_to_before other old n i l)
  | inr l ↦ up_to_from new old n i l ∙ sym (up_to_from other old n i l)
]

-- one place more of a list
pub up_to_more : {A : Type 0} (new old : ℕ → A) (list : List A) (n : ℕ) (a d : A) → n < length list → ((i : ℕ) → get_or list i d ≡ up_to n new old i) → a ≡ new n → (i : ℕ) → get_or (set list n a) i d ≡ up_to (n + 1) new old i
up_to_more new old list n a d l before e i = elim (cases_eq i n) [
  | inl k ↦ ap (λ (j : ℕ). get_or (set list n a) j d) k ∙ get_or-set_same list n a d l ∙ e ∙ ap new (sym k) ∙ sym (up_to_before new old (n + 1) i (omega arith))
  | inr k ↦ get_or-set_other list n i a d k ∙ before i ∙ sym (up_to_other new old n i k)
]

-- a list of one thing, nothing filled yet
pub up_to_none : {A : Type 0} (new : ℕ → A) (n : ℕ) (d : A) (i : ℕ) → get_or (replicate n d) i d ≡ up_to 0 new (λ _. d) i
up_to_none new n d i = elim (cases_lt i n) [
  | inl l ↦ get_or-replicate n i d d l ∙ sym (up_to_from new (λ _. d) 0 i zero-le)
  | inr l ↦ get_or_past (replicate n d) i d (omega (arith, length-replicate n d)) ∙ sym (up_to_from new (λ _. d) 0 i zero-le)
]
