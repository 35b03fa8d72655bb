-- The laws of a bound cost kind, gathered
use denote.RattleType.{RattleType}
use Rattle.costs.specs.Kind.{Laws}
use Rattle.costs.specs.declared.cost.Cost.{Ghosts}
use Rattle.costs.specs.contracts.cost.Cost.TheBound.{Met}

pub laws_of : {M : Type 1} {𝓤 : _} {𝓛 : _} {𝓜 : _} {𝓡 : _} {γ : _} {X : RattleType} {k : Ghosts X.Denot} {d : _} {h : _} {e : _} → Met {M = M} {𝓤 = 𝓤} 𝓛 𝓜 𝓡 γ X k d h e → Laws k.kind
laws_of met = record {
  total = met.total;
  antisymmetric = met.antisymmetric;
  transitive = met.transitive;
  associative = met.associative;
  commutative = met.commutative;
  identity = met.identity;
  monotone = met.monotone;
}
