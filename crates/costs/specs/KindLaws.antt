-- That cents and grades keep the laws of a cost kind.
-- These are proofs. They stand here since an impl hands them over as its laws.
use Rattle.std.proofs.Common.{rules, arith}
use Rattle.costs.specs.Kind.{Laws}
use Rattle.costs.specs.Cents.{cents_kind}
use Rattle.costs.specs.Grade.{grade_kind}
use Rattle.costs.specs.Same.{same_cents, same_grade}

pub cents_laws : Laws cents_kind
cents_laws = record {
  total = Prim.search rules;
  antisymmetric = λ a b p q. same_cents a b (Prim.search rules);
  transitive = Prim.search rules;
  associative = λ a b c. same_cents _ _ (omega arith);
  commutative = λ a b. same_cents _ _ (omega arith);
  identity = λ a. same_cents _ _ (omega arith);
  monotone = Prim.search rules;
}

pub grade_laws : Laws grade_kind
grade_laws = record {
  total = Prim.search rules;
  antisymmetric = λ a b p q. same_grade a b (Prim.search rules);
  transitive = Prim.search rules;
  associative = λ a b c. same_grade _ _ (omega arith);
  commutative = λ a b. same_grade _ _ (omega arith);
  identity = λ a. same_grade _ _ (omega arith);
  monotone = Prim.search rules;
}
