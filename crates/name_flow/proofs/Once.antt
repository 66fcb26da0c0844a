-- Numbers that rise stand once each: so no object of a program is declared twice.
use Rattle.std.proofs.Common.{◌≡◌, refl, subst, ℕ, suc, ◌+◌, ◌<◌, ◌≤◌, List, [], ◌∷◌, ◌++◌, Bool, true, false, if◌then◌else◌, ◌==◌, nat_lt, arith, eqb-true, ltb-true, ltb-false}
use Rattle.typed_objects.specs.Objects.{ObjectsAreDistinct, decl_objects, handler_objects, stmts_objects, sub_objects, subs_objects, times}
use Rattle.typed_tree.specs.Syntax.{Decls, Sub}
use Rattle.name_rules.specs.Programs.{Whole}
use Rattle.name_rules.specs.Resolved.{judged, typed_by}
use Rattle.name_rules.specs.declared.log.Log.{Log}
use Rattle.name_flow.specs.Law.{ObjectsLaw}
use Rattle.name_flow.proofs.Between.{Avoids, Rises, rises-less}
use Rattle.name_flow.proofs.FreshPrograms.{SubsIn, WholeIn, whole-numbers}

-- ---- how often a number stands in lists

pub times-join : (y : ℕ) (xs ys : List ℕ) → times y (xs ++ ys) ≡ times y xs + times y ys
times-join y [] ys = omega arith
times-join y (x ∷ xs) ys = omega (arith, times-join y xs ys)

-- another number counts nothing
other : (x y : ℕ) → (x ≡ y → ⊥) → ◌≡◌ {A = ℕ} (if x == y then 1 else 0) 0
other x y n = by (x == y) refl
  where
    by : (b : Bool) → (x == y) ≡ b → ◌≡◌ {A = ℕ} (if b then 1 else 0) 0
    by true e = absurd (n (eqb-true x y e))
    by false e = refl

one : (b : Bool) → (if b then 1 else 0) ≤ 1
one true = omega arith
one false = omega arith

pub none-below : (lo hi y : ℕ) (xs : List ℕ) → Rises lo hi xs → y < lo → times y xs ≡ 0
none-below lo hi y [] h l = refl
none-below lo hi y (x ∷ xs) h l = omega (arith, other x y (λ e. omega (arith, e, h.0, l)), none-below (suc x) hi y xs h.1 (omega (arith, h.0, l)))

pub none-above : (lo hi y : ℕ) (xs : List ℕ) → Rises lo hi xs → hi ≤ y → times y xs ≡ 0
none-above lo hi y [] h l = refl
none-above lo hi y (x ∷ xs) h l = omega (arith, other x y (λ e. omega (arith, e, rises-less (suc x) hi xs h.1, l)), none-above (suc x) hi y xs h.1 l)

pub at-most-once : (lo hi y : ℕ) (xs : List ℕ) → Rises lo hi xs → times y xs ≤ 1
at-most-once lo hi y [] h = omega arith
at-most-once lo hi y (x ∷ xs) h = by (nat_lt x y) refl (at-most-once (suc x) hi y xs h.1)
  where
    by : (b : Bool) → nat_lt x y ≡ b → times y xs ≤ 1 → times y (x ∷ xs) ≤ 1
    by true e l = omega (arith, other x y (λ q. omega (arith, q, ltb-true x y e)), l)
    by false e l = omega (arith, one (x == y), none-below (suc x) hi y xs h.1 (omega (arith, ltb-false x y e)))

none-avoided : (lo hi y : ℕ) (xs : List ℕ) → Avoids lo hi xs → lo ≤ y → y < hi → times y xs ≡ 0
none-avoided lo hi y [] h l k = refl
none-avoided lo hi y (x ∷ xs) h l k = omega (arith, other x y (λ e. h.0 (omega (arith, e, l)) (omega (arith, e, k))), none-avoided lo hi y xs h.1 l k)

-- ---- subprograms, and declarations around them

subs-below : (ss : List Sub) (from m y : ℕ) (ds : Decls) → SubsIn ss from m ds → y < from → times y (subs_objects ss) ≡ 0
subs-below [] from m y ds h l = refl
subs-below (s ∷ ss) from m y ds (h, k, r) l =
    omega (
      arith,
      times-join y (sub_objects s) (subs_objects ss),
      none-below h.lo h.hi y (sub_objects s) h.sub (omega (arith, k, l)),
      subs-below ss h.hi m y ds r (omega (arith, k, l, rises-less h.lo h.hi (sub_objects s) h.sub)),
    )

subs-less : (ss : List Sub) (from m : ℕ) (ds : Decls) → SubsIn ss from m ds → from ≤ m
subs-less [] from m ds h = h
subs-less (s ∷ ss) from m ds (h, k, r) = omega (arith, k, rises-less h.lo h.hi (sub_objects s) h.sub, subs-less ss h.hi m ds r)

subs-above : (ss : List Sub) (from m y : ℕ) (ds : Decls) → SubsIn ss from m ds → m ≤ y → times y (subs_objects ss) ≡ 0
subs-above [] from m y ds h l = refl
subs-above (s ∷ ss) from m y ds (h, k, r) l =
    omega (arith, times-join y (sub_objects s) (subs_objects ss), none-above h.lo h.hi y (sub_objects s) h.sub (omega (arith, l, subs-less ss h.hi m ds r)), subs-above ss h.hi m y ds r l)

-- either outside of a subprogram, or in it and in no other and in no declaration
declared-once : (ss : List Sub) (from m y : ℕ) (ds : Decls) → times y (decl_objects ds) ≤ 1 → SubsIn ss from m ds → times y (decl_objects ds) + times y (subs_objects ss) ≤ 1
declared-once [] from m y ds l h = omega (arith, l)
declared-once (s ∷ ss) from m y ds l (h, k, r) = by (nat_lt y h.lo) (nat_lt y h.hi) refl refl (declared-once ss h.hi m y ds l r)
  where
    joined : times y (subs_objects (s ∷ ss)) ≡ times y (sub_objects s) + times y (subs_objects ss)
    joined = times-join y (sub_objects s) (subs_objects ss)

    by : (b c : Bool) → nat_lt y h.lo ≡ b → nat_lt y h.hi ≡ c → times y (decl_objects ds) + times y (subs_objects ss) ≤ 1 → times y (decl_objects ds) + times y (subs_objects (s ∷ ss)) ≤ 1
    by true c e f g = omega (arith, joined, none-below h.lo h.hi y (sub_objects s) h.sub (ltb-true y h.lo e), g)
    by false true e f g =
        omega (
          arith,
          joined,
          none-avoided h.lo h.hi y (decl_objects ds) h.out (ltb-false y h.lo e) (ltb-true y h.hi f),
          at-most-once h.lo h.hi y (sub_objects s) h.sub,
          subs-below ss h.hi m y ds r (ltb-true y h.hi f),
        )
    by false false e f g = omega (arith, joined, none-above h.lo h.hi y (sub_objects s) h.sub (ltb-false y h.hi f), g)

-- ---- programs

times-three : (y : ℕ) (xs ys zs : List ℕ) → times y (xs ++ (ys ++ zs)) ≡ times y xs + (times y ys + times y zs)
times-three y xs ys zs = omega (arith, times-join y xs (ys ++ zs), times-join y ys zs)

program-once : (w : Whole) (log : Log) → WholeIn w → ObjectsAreDistinct (typed_by log w)
program-once w log h y = by (nat_lt y h.mid) refl
  where
    rest : List ℕ
    rest = stmts_objects w.body.stmts ++ handler_objects w.body.handlers

    by : (b : Bool) → nat_lt y h.mid ≡ b → times y (decl_objects w.body.decls ++ (subs_objects w.subs ++ (stmts_objects w.body.stmts ++ handler_objects w.body.handlers))) ≤ 1
    by true e =
        omega (
          arith,
          times-three y (decl_objects w.body.decls) (subs_objects w.subs) rest,
          declared-once w.subs 0 h.mid y w.body.decls (at-most-once 0 h.mid y (decl_objects w.body.decls) h.body.decls) h.body.known,
          none-below h.mid h.hi y rest h.body.rest (ltb-true y h.mid e),
        )
    by false e =
        omega (
          arith,
          times-three y (decl_objects w.body.decls) (subs_objects w.subs) rest,
          none-above 0 h.mid y (decl_objects w.body.decls) h.body.decls (ltb-false y h.mid e),
          subs-above w.subs 0 h.mid y w.body.decls h.body.known (ltb-false y h.mid e),
          at-most-once h.mid h.hi y rest h.body.rest,
        )

pub objects_law : ObjectsLaw
objects_law names text t e =
    let w = whole-numbers names text t e in
    subst ObjectsAreDistinct w.same (program-once w.whole (judged names text).1 w.numbers)
