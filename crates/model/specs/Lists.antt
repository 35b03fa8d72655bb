-- Words on lists
use Rattle.std.specs.Prelude.{◌≡◌, ℕ, ◌+◌, max, Bool, true, false, cond, ◌||◌, List, [], ◌∷◌, ◌++◌, map, Some, None, Option}

-- x is one of the list
pub data In {A : Type 0} (x : A) : List A → Type 0 where
  here : {y : A} {ys : List A} → x ≡ y → In x (y ∷ ys)
  later : {y : A} {ys : List A} → In x ys → In x (y ∷ ys)

-- two lists of one length, element by element in a relation
abbrev pub Paired : {A B : Type 0} → (A → B → Type 0) → List A → List B → Type 0
Paired R [] [] = Unit {0}
Paired R [] (y ∷ ys) = ⊥
Paired R (x ∷ xs) [] = ⊥
Paired R (x ∷ xs) (y ∷ ys) = R x y × Paired R xs ys

-- the list has no element
abbrev pub is_empty : {A : Type 0} → List A → Bool
is_empty [] = true
is_empty (x ∷ xs) = false

-- some element passes the test
abbrev pub any : {A : Type 0} → (A → Bool) → List A → Bool
any test [] = false
any test (x ∷ xs) = test x || any test xs

-- each of the first put before each of the second
abbrev pub put_before : {A : Type 0} → List A → List (List A) → List (List A)
put_before [] yss = []
put_before (x ∷ xs) yss = map (λ ys. x ∷ ys) yss ++ put_before xs yss

-- every way to take one element from each list
abbrev pub selections : {A : Type 0} → List (List A) → List (List A)
selections [] = [] ∷ []
selections (xs ∷ xss) = put_before xs (selections xss)

-- the lesser of an element and one that may be there, by a test "comes before or is equal"
abbrev pub lesser : {A : Type 0} → (A → A → Bool) → A → Option A → Option A
lesser before x None = Some x
lesser before x (Some y) = cond (before x y) (Some x) (Some y)

-- the least of a list by such a test; none of an empty list
abbrev pub least : {A : Type 0} → (A → A → Bool) → List A → Option A
least before [] = None
least before (x ∷ xs) = lesser before x (least before xs)

-- the sum of a list of numbers
abbrev pub total : List ℕ → ℕ
total [] = 0
total (n ∷ ns) = n + total ns

-- the greatest of a list of numbers, 0 without any
abbrev pub greatest : List ℕ → ℕ
greatest [] = 0
greatest (n ∷ ns) = max n (greatest ns)
