-- Code that is put together, taken apart.
use Rattle.std.proofs.Common.{◌≡◌, ℕ, suc, ◌+◌, List, [], ◌∷◌, ◌++◌, length, Option, Bool, cond, sym, subst, arith}
use Rattle.stack_code.specs.declared.code.Code.{Code}
use Rattle.stack_code.specs.declared.instr.Instr.TheVariants.{Jump, JFalse}
use Rattle.ada_lower.specs.Driven.{At}
use Rattle.ada_lower.specs.Sights.{Emit, Lies, Placed, Sight, Stands, choose, guarded, listed, looped, when_, ◌⨟◌}

module _ (c : Code) where
  pub lies_end : (from : ℕ) (ps : List Placed) (to : ℕ) → Lies c from ps to → to ≡ from + length ps
  lies_end from [] to e = omega (arith, e)
  lies_end from (p ∷ ps) to (a, l) = let e : to ≡ from + 1 + length ps = lies_end (from + 1) ps to l in omega (arith, e)

  lies_split : (from : ℕ) (ps qs : List Placed) (to : ℕ) → Lies c from (ps ++ qs) to → Lies c from ps (from + length ps) × Lies c (from + length ps) qs to
  lies_split from [] qs to l = let e : from ≡ from + 0 = omega arith in (sym e, subst (λ n. Lies c n qs to) e l)
  lies_split from (p ∷ ps) qs to (a, l) =
      let (h, t) = lies_split (from + 1) ps qs to l in
      let e : from + 1 + length ps ≡ from + suc (length ps) = omega arith in
      ((a, subst (λ n. Lies c (from + 1) ps n) e h), subst (λ n. Lies c n qs to) e t)

  pub stands_seq : (from to : ℕ) (a b : Emit) → Stands c (a ⨟ b) from to → (mid : ℕ) × Stands c a from mid × Stands c b mid to
  stands_seq from to a b l = let (h, t) = lies_split from (listed a from) (listed b (from + length (listed a from))) to l in (from + length (listed a from), h, t)

  lies_join : (from : ℕ) (ps qs : List Placed) (to : ℕ) → Lies c from ps (from + length ps) → Lies c (from + length ps) qs to → Lies c from (ps ++ qs) to
  lies_join from [] qs to l k = let e : from + 0 ≡ from = omega arith in subst (λ n. Lies c n qs to) e k
  lies_join from (p ∷ ps) qs to (a, l) k =
      let e : from + suc (length ps) ≡ from + 1 + length ps = omega arith in
      (a, lies_join (from + 1) ps qs to (subst (λ n. Lies c (from + 1) ps n) e l) (subst (λ n. Lies c n qs to) e k))

  pub stands_join : (from mid to : ℕ) (a b : Emit) → Stands c a from mid → Stands c b mid to → Stands c (a ⨟ b) from to
  stands_join from mid to a b l k =
      let as' : List Placed = listed a from in
      let e : mid ≡ from + length as' = lies_end from as' mid l in
      lies_join from as' (listed b (from + length as')) to (subst (λ n. Lies c from as' n) e l) (subst (λ n. Lies c n (listed b n) to) e k)

  -- parts are put together in any order
  pub stands_assoc : (from to : ℕ) (a b d : Emit) → Stands c ((a ⨟ b) ⨟ d) from to → Stands c (a ⨟ b ⨟ d) from to
  stands_assoc from to a b d l =
      let (m, l1, l2) = stands_seq from to (a ⨟ b) d l in
      let (n, l3, l4) = stands_seq from m a b l1 in
      stands_join from n to a (b ⨟ d) l3 (stands_join n m to b d l4 l2)

  pub stands_assoc3 : (from to : ℕ) (a b d e : Emit) → Stands c ((a ⨟ b ⨟ d) ⨟ e) from to → Stands c (a ⨟ b ⨟ d ⨟ e) from to
  stands_assoc3 from to a b d e l =
      let (m, l1, l2) = stands_seq from to (a ⨟ b ⨟ d) e l in
      let (n, l3, l4) = stands_seq from m a (b ⨟ d) l1 in
      stands_join from n to a (b ⨟ d ⨟ e) l3 (stands_assoc n to b d e (stands_join n m to (b ⨟ d) e l4 l2))

  -- a test, and what is done by it
  pub record Choice (entry : Option ℕ) (a b : Emit) (from to : ℕ) : Type 0 where
    pub mid : ℕ
    pub test : At c from (JFalse (mid + 1)) entry
    pub first : Stands c a (from + 1) mid
    pub jump : At c mid (Jump to) entry
    pub second : Stands c b (mid + 1) to

  pub stands_choose : (from to : ℕ) (s : Sight) (h k : ℕ) (a b : Emit) → Stands c (choose s.scope h k a b) from to → Choice s.scope.entry a b from to
  stands_choose from to s h k a b (t, l) =
      let n : ℕ = from + 1 + length (listed a (from + 1)) in
      let (x, (j, y)) = lies_split (from + 1) (listed a (from + 1)) (_ ∷ listed b (n + 1)) to l in
      record { mid = n; test = t; first = x; jump = subst (λ k. At c n (Jump k) s.scope.entry) (sym (lies_end (n + 1) (listed b (n + 1)) to y)) j; second = y }

  pub stands_when : (from to : ℕ) (s : Sight) (h : ℕ) (a : Emit) → Stands c (when_ s.scope h a) from to → At c from (JFalse to) s.scope.entry × Stands c a (from + 1) to
  stands_when from to s h a (t, l) = (subst (λ k. At c from (JFalse k) s.scope.entry) (sym (lies_end (from + 1) (listed a (from + 1)) to l)) t, l)

  pub record Loop (entry : Option ℕ) (at_body : Bool) (body test : ℕ → Emit) (from to : ℕ) : Type 0 where
    pub mid : ℕ
    pub enter : At c from (Jump (cond at_body (from + 1 + 1) mid)) entry
    pub exit : At c (from + 1) (Jump to) entry
    pub turn : Stands c (body (from + 1)) (from + 1 + 1) mid
    pub back : Stands c (test (from + 1 + 1)) mid to

  pub stands_looped : (from to : ℕ) (s : Sight) (h : ℕ) (at_body : Bool) (body test : ℕ → Emit) → Stands c (looped s.scope h at_body body test) from to → Loop s.scope.entry at_body body test from to
  stands_looped from to s h at_body body test (enter, (exit, l)) =
      let bs : List Placed = listed (body (from + 1)) (from + 1 + 1) in
      let n : ℕ = from + 1 + 1 + length bs in
      let ts : List Placed = listed (test (from + 1 + 1)) n in
      let (x, y) = lies_split (from + 1 + 1) bs ts to l in
      record { mid = n; enter = enter; exit = subst (λ k. At c (from + 1) (Jump k) s.scope.entry) (sym (lies_end n ts to y)) exit; turn = x; back = y }

  pub record Guard (entry : Option ℕ) (handlers : Emit) (body : ℕ → Emit) (from to : ℕ) : Type 0 where
    pub mid : ℕ
    pub enter : At c from (Jump (from + 1 + 1)) entry
    pub caught : At c (from + 1) (Jump (mid + 1)) entry
    pub body_ : Stands c (body (from + 1)) (from + 1 + 1) mid
    pub past : At c mid (Jump to) entry
    pub handler : Stands c handlers (mid + 1) to

  pub stands_guarded : (from to : ℕ) (s : Sight) (handlers : Emit) (body : ℕ → Emit) → Stands c (guarded s.scope handlers body) from to → Guard s.scope.entry handlers body from to
  stands_guarded from to s handlers body (enter, (caught, l)) =
      let bs : List Placed = listed (body (from + 1)) (from + 1 + 1) in
      let n : ℕ = from + 1 + 1 + length bs in
      let hs : List Placed = listed handlers (n + 1) in
      let (x, (j, y)) = lies_split (from + 1 + 1) bs (_ ∷ hs) to l in
      record { mid = n; enter = enter; caught = caught; body_ = x; past = subst (λ k. At c n (Jump k) s.scope.entry) (sym (lies_end (n + 1) hs to y)) j; handler = y }
