-- With memory enough, a question answers what book, tariff and limit decide
use Rattle.std.proofs.Common.{◌≡◌, ℕ, ◌≤◌, List, ◌++◌, length, drop, Ok, Err, refl, ap, ◌∙◌, arith, true, nat_lt}
use Rattle.std.proofs.lemmas.Bool.{le-ltb}
use Rattle.refusals.specs.Answer.{Answer, Refused, plain}
use Rattle.costs.specs.Kind.{Kind}
use Rattle.tariffs.specs.Meaning.{Meaning}
use Rattle.sheets.specs.Book.{Book}
use Rattle.model.specs.declared.cell.Cell.{Cell}
use Rattle.model.specs.declared.point.Point.{Point}
use Rattle.model.specs.Cell.{cells_needed}
use Rattle.model.specs.Plan.{plan}
use Rattle.model.specs.Front.{front}
use Rattle.model.specs.Question.{front_answer, front_points, limit_answer, limit_bytes}
use Rattle.worked.specs.Asked.{Gives, Refuses, FrontGives, FrontTooFew, LimitTooFew}

module _ {C : Type 0} (K : Kind C) (T : Meaning C) (book : Book) where
  enough : (cells : List (Cell C)) (bytes : List ℕ) (result : Answer (Point C)) → cells_needed T book ≤ length cells → length book.tasks ≤ length bytes
      → limit_answer T book cells bytes result ≡ result
  enough cells bytes result c b = rw (le-ltb (length cells) (cells_needed T book) c, le-ltb (length bytes) (length book.tasks) b) refl

  pub gives : (result : Answer (Point C)) (p : Point C) (machines : List ℕ) → result ≡ Ok p → plan K T book p ≡ machines → length book.tasks ≡ length machines
      → Gives K T book (λ cells bytes. limit_answer T book cells bytes result) (λ cells bytes. limit_bytes K T book (limit_answer T book cells bytes result) bytes) p machines
  gives result p machines e f n cells bytes c b =
      let a = enough cells bytes result c b ∙ e in
      (a, ap (λ answer. limit_bytes K T book answer bytes) a ∙ rw (f, n) refl)

  pub refuses : (result : Answer (Point C)) (refused : Refused) → result ≡ Err refused
      → Refuses K T book (λ cells bytes. limit_answer T book cells bytes result) (λ cells bytes. limit_bytes K T book (limit_answer T book cells bytes result) bytes) refused
  refuses result refused e cells bytes c b =
      let a = enough cells bytes result c b ∙ e in
      (a, ap (λ answer. limit_bytes K T book answer bytes) a)

  pub front_gives : (list : List (Point C)) → front K T book ≡ list → FrontGives K T book list
  front_gives list e cells points c p =
      let room : length (front K T book) ≤ length points = omega (arith, p, ap length e) in
      let few = le-ltb (length cells) (cells_needed T book) c in
      let short = le-ltb (length points) (length (front K T book)) room in
      let answer : front_answer K T book cells points ≡ Ok (length list) = rw (few, short, e) refl in
      let written : front_points K T book cells points ≡ front K T book ++ drop (length list) points = rw (front_points, answer) refl in
      (answer, (written ∙ ap (λ (front : List (Point C)). front ++ drop (length list) points) e, rw few refl))

  module _ (count : ℕ) (few : nat_lt count (cells_needed T book) ≡ true) where
    pub front_too_few : FrontTooFew K T book count
    front_too_few cells points e =
        let answer : front_answer K T book cells points ≡ Err (plain 7) = rw (e, few) refl in
        (answer, (rw (front_points, answer) refl, rw (e, few) refl))

    pub limit_too_few : (result : Answer (Point C))
        → LimitTooFew K T book (λ cells bytes. limit_answer T book cells bytes result) (λ cells bytes. limit_bytes K T book (limit_answer T book cells bytes result) bytes) count
    limit_too_few result cells bytes e =
        let answer : limit_answer T book cells bytes result ≡ Err (plain 7) = rw (e, few) refl in
        (answer, (ap (λ answer. limit_bytes K T book answer bytes) answer, rw (e, few) refl))
