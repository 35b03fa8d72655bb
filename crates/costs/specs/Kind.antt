-- What a cost kind means
use Rattle.std.specs.Prelude.{◌≡◌, Bool, true, ◌⊎◌}

pub record Kind (C : Type 0) : Type 0 where
  pub at_most : C → C → Bool
  pub join : C → C → C
  pub neutral : C

-- what every cost kind shows, gathered for theorems on all kinds
pub record Laws {C : Type 0} (K : Kind C) : Type 0 where
  pub total : (a b : C) → (K.at_most a b ≡ true) ⊎ (K.at_most b a ≡ true)
  pub antisymmetric : (a b : C) → K.at_most a b ≡ true → K.at_most b a ≡ true → a ≡ b
  pub transitive : (a b c : C) → K.at_most a b ≡ true → K.at_most b c ≡ true → K.at_most a c ≡ true
  pub associative : (a b c : C) → K.join (K.join a b) c ≡ K.join a (K.join b c)
  pub commutative : (a b : C) → K.join a b ≡ K.join b a
  pub identity : (a : C) → K.join a K.neutral ≡ a
  pub monotone : (a b c : C) → K.at_most a b ≡ true → K.at_most (K.join a c) (K.join b c) ≡ true
