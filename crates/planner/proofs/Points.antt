-- The points of a row of costs, counted and written minute by minute
use Rattle.std.proofs.Common.{◌≡◌, ℕ, zero, suc, ◌+◌, ◌-◌, ◌<◌, ◌≤◌, Bool, true, false, cond, List, [], ◌∷◌, ◌++◌, length, take, drop, set, Some, None, Option, sym, refl, ap, ◌∙◌, subst, ap₂, add-one, arith, length-append, length-set}
use Rattle.std.proofs.lemmas.List.Elements.{filter_map-append}
use Rattle.std.proofs.lemmas.List.{append-nil, take_more_set, drop-set-lt, drop-drop}
use Rattle.std.specs.List.{slice_get, range_with_len, filter_map, cons_option}
use Rattle.std.specs.Option.{option_to_list}
use Rattle.costs.specs.Kind.{Kind}
use Rattle.model.specs.declared.point.Point.{Point}
use Rattle.model.specs.Scan.{point, drops, point_at, drops_below}

range_more : (a n m : ℕ) → a + n ≡ m → range_with_len a (suc n) ≡ range_with_len a n ++ m ∷ []
range_more a zero m e = ap (λ k. k ∷ []) (let f : a ≡ m = omega arith in f)
range_more a (suc n) m e = ap (λ ns. a ∷ ns) (range_more (a + 1) n m (omega arith))

module _ {C : Type 0} (K : Kind C) (costs : ℕ → Option C) where
  -- one minute more, with a point there or none
  pub drops_more : (t : ℕ) (o : Option (Point C)) → option_to_list o ≡ point_at K costs t (costs t) → drops_below K costs (t + 1) ≡ drops_below K costs t ++ option_to_list o
  drops_more t o e = rw add-one (ap (λ ps. drops_below K costs t ++ ps) (sym e))

  pub drops_none : (t : ℕ) (o : Option (Point C)) → o ≡ None → option_to_list o ≡ point_at K costs t (costs t) → drops_below K costs (t + 1) ≡ drops_below K costs t
  drops_none t o none e = drops_more t o e ∙ ap (λ u. drops_below K costs t ++ option_to_list u) none ∙ append-nil (drops_below K costs t)

  -- the point at a minute, if any
  abbrev pub dropped : ℕ → Option (Point C)
  dropped t = slice_get (point_at K costs t (costs t)) 0

  pub dropped_told : (t : ℕ) (o : Option (Point C)) → option_to_list o ≡ point_at K costs t (costs t) → o ≡ dropped t
  dropped_told t None e = ap (λ ps. slice_get ps 0) e
  dropped_told t (Some p) e = ap (λ ps. slice_get ps 0) e

  -- all of them, minute by minute
  pub drops_told : (n : ℕ) → filter_map dropped (range_with_len 0 n) ≡ drops_below K costs n
  drops_told zero = refl
  drops_told (suc n) =
      ap (filter_map dropped) (range_more 0 n n (omega arith))
      ∙ filter_map-append dropped (range_with_len 0 n) (n ∷ [])
      ∙ ap₂ (λ (ps qs : List (Point C)). ps ++ qs) (drops_told n) (at_most_one (costs n))
    where
      either : (cost : C) (b : Bool) → cons_option (slice_get (cond b (point n cost ∷ []) []) 0) [] ≡ cond b (point n cost ∷ []) []
      either cost true = refl
      either cost false = refl

      at_most_one : (o : Option C) → cons_option (slice_get (point_at K costs n o) 0) [] ≡ point_at K costs n o
      at_most_one None = refl
      at_most_one (Some cost) = either cost (drops K costs n cost)

  pub drops_counted : (t : ℕ) (p : Point C) → option_to_list (Some p) ≡ point_at K costs t (costs t) → length (drops_below K costs (t + 1)) ≡ length (drops_below K costs t) + 1
  drops_counted t p e = ap length (drops_more t (Some p) e) ∙ length-append (drops_below K costs t) (p ∷ [])

  -- more minutes never have fewer points
  pub drops_rise : (t n : ℕ) → t ≤ n → length (drops_below K costs t) ≤ length (drops_below K costs n)
  drops_rise t n h = let e : t + (n - t) ≡ n = omega arith in subst (λ (m : ℕ). length (drops_below K costs t) ≤ length (drops_below K costs m)) e (go (n - t))
    where
      go : (d : ℕ) → length (drops_below K costs t) ≤ length (drops_below K costs (t + d))
      go zero = let e : t + 0 ≡ t = omega arith in rw e (omega arith)
      go (suc d) =
          let e : t + suc d ≡ suc (t + d) = omega arith in
          let l = length-append (drops_below K costs (t + d)) (point_at K costs (t + d) (costs (t + d))) in
          rw e (omega (arith, go d))

  -- memory that holds the points before a minute, and behind them what it held
  pub record Written (was points : List (Point C)) (t count : ℕ) : Type 0 where
    pub counted : count ≡ length (drops_below K costs t)
    pub front : take count points ≡ drops_below K costs t
    pub back : drop count points ≡ drop count was
    pub long : length points ≡ length was
    pub few : count ≤ t

  pub written_more : (was points : List (Point C)) (t count : ℕ) (p : Point C) → Written was points t count → count < length points → option_to_list (Some p) ≡ point_at K costs t (costs t) → Written was (set points count p) (t + 1) (count + 1)
  written_more was points t count p w room e =
      let more = drops_more t (Some p) e in
      record {
        counted = let l = length-append (drops_below K costs t) (p ∷ []) in let m = ap length more in let c = w.counted in omega arith;
        front = take_more_set points count p room ∙ ap (λ ps. ps ++ (p ∷ [])) w.front ∙ sym more;
        back =
            drop-set-lt (count + 1) points count p (omega arith)
            ∙ sym (drop-drop 1 count points) ∙ ap (drop 1) w.back ∙ drop-drop 1 count was;
        long = simp length-set w.long;
        few = let f = w.few in omega arith;
      }

  -- memory with room for all points has room for the next
  pub room_behind : (was points : List (Point C)) (t count n : ℕ) (p : Point C) → Written was points t count → t < n → length (drops_below K costs n) ≤ length was → option_to_list (Some p) ≡ point_at K costs t (costs t) → count < length points
  room_behind was points t count n p w below fits e =
      let more = drops_counted t p e in
      let rise = drops_rise (t + 1) n (omega arith) in
      let c = w.counted in
      let l = w.long in
      omega arith

  pub written_same : (was points : List (Point C)) (t count : ℕ) (o : Option (Point C)) → o ≡ None → option_to_list o ≡ point_at K costs t (costs t) → Written was points t count → Written was points (t + 1) count
  written_same was points t count o none e w =
      let same = drops_none t o none e in
      record {
        counted = w.counted ∙ ap length (sym same);
        front = w.front ∙ sym same;
        back = w.back;
        long = w.long;
        few = let f = w.few in omega arith;
      }
