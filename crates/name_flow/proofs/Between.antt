-- Objects that are declared with numbers that rise, of a stretch of which none is in scope, are new.
use Rattle.std.proofs.Common.{◌≡◌, refl, subst, ap, ◌∙◌, ℕ, suc, ◌<◌, ◌≤◌, List, [], ◌∷◌, ◌++◌, Bool, true, false, cond, nat_eq, arith, eqb-true}
use Rattle.behaviours.specs.Paths.{Entity, VariableOf, ConstantOf, entity_eq}
use Rattle.typed_tree.specs.declared.program.Formal.{Formal}
use Rattle.typed_tree.specs.declared.program.Mode.{Mode}
use Rattle.typed_tree.specs.declared.program.Mode.TheVariants as mode
use Rattle.typed_tree.specs.Syntax.{Decls, NoDecl, DeclareDefault, DeclareVariable, DeclareConstant, Mentions, Stmt, Null, Assign, CallProcedure, Exit, Return, ReturnValue, Raise, Reraise, IfThen, Case, Loop, For, ParallelFor, Parallel, Block, Put, Get, Stmts, End, Then, Alternatives, NoAlternative, Alternative, Arms, NoArm, Arm, Handlers, NoHandler, Handler}
use Rattle.typed_objects.specs.Objects.{arm_objects, case_objects, decl_objects, formal_objects, handler_objects, stmt_objects, stmts_objects}
use Rattle.typed_scopes.specs.Scopes.{entity_of}
use Rattle.name_flow.specs.Fresh.{FreshAll, FreshArms, FreshCases, FreshDecls, FreshFormals, FreshHandlers, FreshStmt, behind, with_formals, with_object}

-- ---- numbers that rise, from one on and up to another

abbrev pub Rises : ℕ → ℕ → List ℕ → Type 0
Rises lo hi [] = lo ≤ hi
Rises lo hi (x ∷ xs) = (lo ≤ x) × Rises (suc x) hi xs

pub least : (n : ℕ) → n ≤ n
least n = omega arith

pub rises-less : (lo hi : ℕ) (xs : List ℕ) → Rises lo hi xs → lo ≤ hi
rises-less lo hi [] h = h
rises-less lo hi (x ∷ xs) h = omega (arith, h.0, rises-less (suc x) hi xs h.1)

-- in a stretch that is wider
pub rises-wide : (a b c d : ℕ) (xs : List ℕ) → c ≤ a → b ≤ d → Rises a b xs → Rises c d xs
rises-wide a b c d [] l m h = omega (arith, l, m, h)
rises-wide a b c d (x ∷ xs) l m h = (omega (arith, l, h.0), rises-wide (suc x) b (suc x) d xs (least (suc x)) m h.1)

pub rises-join : (lo mid hi : ℕ) (xs ys : List ℕ) → Rises lo mid xs → Rises mid hi ys → Rises lo hi (xs ++ ys)
rises-join lo mid hi [] ys h k = rises-wide mid hi lo hi ys h (least hi) k
rises-join lo mid hi (x ∷ xs) ys h k = (h.0, rises-join (suc x) mid hi xs ys h.1 k)

-- two lists of which one rises behind the other
pub record Halves (lo hi : ℕ) (xs ys : List ℕ) : Type 0 where
  pub mid : ℕ
  pub first : Rises lo mid xs
  pub second : Rises mid hi ys

pub rises-split : (lo hi : ℕ) (xs ys : List ℕ) → Rises lo hi (xs ++ ys) → Halves lo hi xs ys
rises-split lo hi [] ys h = record { mid = lo; first = least lo; second = h }
rises-split lo hi (x ∷ xs) ys h =
    let r = rises-split (suc x) hi xs ys h.1 in
    record { mid = r.mid; first = (h.0, r.first); second = r.second }

-- ---- what is new

abbrev pub number_of : Entity → ℕ
number_of (VariableOf x) = x
number_of (ConstantOf x) = x

-- no object of a number of the stretch is in scope
abbrev pub Open : ℕ → ℕ → (Entity → Bool) → Type 0
Open lo hi t = (y : Entity) → lo ≤ number_of y → number_of y < hi → t y ≡ false

pub differ : (x y : Entity) → (number_of x ≡ number_of y → ⊥) → entity_eq x y ≡ false
differ (VariableOf x) (VariableOf y) n = by (nat_eq x y) refl
  where
    by : (b : Bool) → nat_eq x y ≡ b → nat_eq x y ≡ false
    by true e = absurd (n (eqb-true x y e))
    by false e = e
differ (VariableOf x) (ConstantOf y) n = refl
differ (ConstantOf x) (VariableOf y) n = refl
differ (ConstantOf x) (ConstantOf y) n = by (nat_eq x y) refl
  where
    by : (b : Bool) → nat_eq x y ≡ b → nat_eq x y ≡ false
    by true e = absurd (n (eqb-true x y e))
    by false e = e

-- behind an object of a smaller number
open-with : (x : Entity) (lo hi : ℕ) (t : Entity → Bool) → lo ≤ number_of x → Open lo hi t → Open (suc (number_of x)) hi (with_object x t)
open-with x lo hi t l h y k m =
    let z : entity_eq x y ≡ false = differ x y (λ e. omega (arith, e, k)) in
    ap (λ b. cond b true (t y)) z ∙ h y (omega (arith, l, k)) m

open-less : (a b c d : ℕ) (t : Entity → Bool) → a ≤ c → d ≤ b → Open a b t → Open c d t
open-less a b c d t l m h y k n = h y (omega (arith, l, k)) (omega (arith, m, n))

pub fresh-decls : (lo mid hi : ℕ) (t : Entity → Bool) (ds : Decls) (rest : (Entity → Bool) → Type 0) → Rises lo mid (decl_objects ds) → mid ≤ hi → Open lo hi t → ((u : Entity → Bool) → Open mid hi u → rest u) → FreshDecls t ds rest
fresh-decls lo mid hi t NoDecl rest u l h k = k t (open-less lo hi mid hi t u (omega arith) h)
fresh-decls lo mid hi t (DeclareDefault x more) rest u l h k =
    (h (VariableOf x) u.0 (omega (arith, l, rises-less (suc x) mid (decl_objects more) u.1)), fresh-decls (suc x) mid hi (with_object (VariableOf x) t) more rest u.1 l (open-with (VariableOf x) lo hi t u.0 h) k)
fresh-decls lo mid hi t (DeclareVariable x initial more) rest u l h k =
    (h (VariableOf x) u.0 (omega (arith, l, rises-less (suc x) mid (decl_objects more) u.1)), fresh-decls (suc x) mid hi (with_object (VariableOf x) t) more rest u.1 l (open-with (VariableOf x) lo hi t u.0 h) k)
fresh-decls lo mid hi t (DeclareConstant x initial more) rest u l h k =
    (h (ConstantOf x) u.0 (omega (arith, l, rises-less (suc x) mid (decl_objects more) u.1)), fresh-decls (suc x) mid hi (with_object (ConstantOf x) t) more rest u.1 l (open-with (ConstantOf x) lo hi t u.0 h) k)
fresh-decls lo mid hi t (Mentions es more) rest u l h k = fresh-decls lo mid hi t more rest u l h k

-- each half is open, too
module _ (lo hi : ℕ) (t : Entity → Bool) (xs ys : List ℕ) (h : Halves lo hi xs ys) (o : Open lo hi t) where
  open-first : Open lo h.mid t
  open-first = open-less lo hi lo h.mid t (least lo) (rises-less h.mid hi ys h.second) o

  open-second : Open h.mid hi t
  open-second = open-less lo hi h.mid hi t (rises-less lo h.mid xs h.first) (least hi) o

mutual
  pub fresh-stmt : (lo hi : ℕ) (t : Entity → Bool) (s : Stmt) → Open lo hi t → Rises lo hi (stmt_objects s) → FreshStmt t s
  fresh-stmt lo hi t (IfThen condition stmts otherwise) o h =
      let r = rises-split lo hi (stmts_objects stmts) (stmts_objects otherwise) h in
      (fresh-all lo r.mid t stmts (open-first lo hi t (stmts_objects stmts) (stmts_objects otherwise) r o) r.first, fresh-all r.mid hi t otherwise (open-second lo hi t (stmts_objects stmts) (stmts_objects otherwise) r o) r.second)
  fresh-stmt lo hi t (Case e alternatives) o h = fresh-cases lo hi t alternatives o h
  fresh-stmt lo hi t (Loop number condition stmts) o h = fresh-all lo hi t stmts o h
  fresh-stmt lo hi t (For number iteration stmts) o h = fresh-all lo hi t stmts o h
  fresh-stmt lo hi t (ParallelFor number site chunk iteration stmts) o h = fresh-all lo hi t stmts o h
  fresh-stmt lo hi t (Parallel site count arms) o h = fresh-arms lo hi t arms o h
  fresh-stmt lo hi t (Block decls stmts handlers) o h =
      let r = rises-split lo hi (decl_objects decls) (stmts_objects stmts ++ handler_objects handlers) h in
      fresh-decls lo r.mid hi t decls (λ v. FreshAll v stmts × FreshHandlers v handlers) r.first (rises-less r.mid hi (stmts_objects stmts ++ handler_objects handlers) r.second) o
      (λ v q. let k = rises-split r.mid hi (stmts_objects stmts) (handler_objects handlers) r.second in (
        fresh-all r.mid k.mid v stmts (open-first r.mid hi v (stmts_objects stmts) (handler_objects handlers) k q) k.first,
        fresh-handlers k.mid hi v handlers (open-second r.mid hi v (stmts_objects stmts) (handler_objects handlers) k q) k.second,
      ))
  fresh-stmt lo hi t Null o h = tt
  fresh-stmt lo hi t (Assign at root ss v) o h = tt
  fresh-stmt lo hi t (CallProcedure at callee sub as') o h = tt
  fresh-stmt lo hi t (Exit n condition) o h = tt
  fresh-stmt lo hi t Return o h = tt
  fresh-stmt lo hi t (ReturnValue v) o h = tt
  fresh-stmt lo hi t (Raise r) o h = tt
  fresh-stmt lo hi t Reraise o h = tt
  fresh-stmt lo hi t (Put at callee ps line) o h = tt
  fresh-stmt lo hi t (Get at callee first root ss scalar) o h = tt

  pub fresh-all : (lo hi : ℕ) (t : Entity → Bool) (ss : Stmts) → Open lo hi t → Rises lo hi (stmts_objects ss) → FreshAll t ss
  fresh-all lo hi t End o h = tt
  fresh-all lo hi t (Then s ss) o h =
      let r = rises-split lo hi (stmt_objects s) (stmts_objects ss) h in
      (fresh-stmt lo r.mid t s (open-first lo hi t (stmt_objects s) (stmts_objects ss) r o) r.first, fresh-all r.mid hi t ss (open-second lo hi t (stmt_objects s) (stmts_objects ss) r o) r.second)

  pub fresh-cases : (lo hi : ℕ) (t : Entity → Bool) (as' : Alternatives) → Open lo hi t → Rises lo hi (case_objects as') → FreshCases t as'
  fresh-cases lo hi t NoAlternative o h = tt
  fresh-cases lo hi t (Alternative others choices mentions stmts rest) o h =
      let r = rises-split lo hi (stmts_objects stmts) (case_objects rest) h in
      (fresh-all lo r.mid t stmts (open-first lo hi t (stmts_objects stmts) (case_objects rest) r o) r.first, fresh-cases r.mid hi t rest (open-second lo hi t (stmts_objects stmts) (case_objects rest) r o) r.second)

  pub fresh-arms : (lo hi : ℕ) (t : Entity → Bool) (as' : Arms) → Open lo hi t → Rises lo hi (arm_objects as') → FreshArms t as'
  fresh-arms lo hi t NoArm o h = tt
  fresh-arms lo hi t (Arm stmts rest) o h =
      let r = rises-split lo hi (stmts_objects stmts) (arm_objects rest) h in
      (fresh-all lo r.mid t stmts (open-first lo hi t (stmts_objects stmts) (arm_objects rest) r o) r.first, fresh-arms r.mid hi t rest (open-second lo hi t (stmts_objects stmts) (arm_objects rest) r o) r.second)

  pub fresh-handlers : (lo hi : ℕ) (t : Entity → Bool) (hs : Handlers) → Open lo hi t → Rises lo hi (handler_objects hs) → FreshHandlers t hs
  fresh-handlers lo hi t NoHandler o h = tt
  fresh-handlers lo hi t (Handler handled stmts rest) o h =
      let r = rises-split lo hi (stmts_objects stmts) (handler_objects rest) h in
      (fresh-all lo r.mid t stmts (open-first lo hi t (stmts_objects stmts) (handler_objects rest) r o) r.first, fresh-handlers r.mid hi t rest (open-second lo hi t (stmts_objects stmts) (handler_objects rest) r o) r.second)

pub fresh-both : (lo hi : ℕ) (t : Entity → Bool) (ss : Stmts) (hs : Handlers) → Open lo hi t → Rises lo hi (stmts_objects ss ++ handler_objects hs) → FreshAll t ss × FreshHandlers t hs
fresh-both lo hi t ss hs o h =
    let r = rises-split lo hi (stmts_objects ss) (handler_objects hs) h in
    (fresh-all lo r.mid t ss (open-first lo hi t (stmts_objects ss) (handler_objects hs) r o) r.first, fresh-handlers r.mid hi t hs (open-second lo hi t (stmts_objects ss) (handler_objects hs) r o) r.second)

-- ---- formal parameters

number-formal : (f : Formal) → number_of (entity_of f) ≡ f.object
number-formal f = by f.mode
  where
    by : (m : Mode) → number_of (entity_of (record { object = f.object; mode = m })) ≡ f.object
    by mode.In = refl
    by mode.InOut = refl
    by mode.Out = refl

pub fresh-formals : (lo mid hi : ℕ) (t : Entity → Bool) (fs : List Formal) → Rises lo mid (formal_objects fs) → mid ≤ hi → Open lo hi t → FreshFormals t fs × Open mid hi (with_formals t fs)
fresh-formals lo mid hi t [] u l h = (tt, open-less lo hi mid hi t u (omega arith) h)
fresh-formals lo mid hi t (f ∷ fs) u l h =
    let e = number-formal f in
    let o : Open (suc f.object) hi (with_object (entity_of f) t) = subst (λ n. Open (suc n) hi (with_object (entity_of f) t)) e (open-with (entity_of f) lo hi t (omega (arith, e, u.0)) h) in
    let r = fresh-formals (suc f.object) mid hi (with_object (entity_of f) t) fs u.1 l o in
    ((h (entity_of f) (omega (arith, e, u.0)) (omega (arith, e, l, rises-less (suc f.object) mid (formal_objects fs) u.1)), r.0), r.1)

-- ---- declarations that leave a stretch alone

abbrev pub Avoids : ℕ → ℕ → List ℕ → Type 0
Avoids lo hi [] = Unit {0}
Avoids lo hi (x ∷ xs) = (lo ≤ x → x < hi → ⊥) × Avoids lo hi xs

open-out : (x : Entity) (lo hi : ℕ) (t : Entity → Bool) → (lo ≤ number_of x → number_of x < hi → ⊥) → Open lo hi t → Open lo hi (with_object x t)
open-out x lo hi t n h y k m =
    let z : entity_eq x y ≡ false = differ x y (λ e. n (omega (arith, e, k)) (omega (arith, e, m))) in
    ap (λ b. cond b true (t y)) z ∙ h y k m

pub open-behind : (lo hi : ℕ) (t : Entity → Bool) (ds : Decls) → Avoids lo hi (decl_objects ds) → Open lo hi t → Open lo hi (behind t ds)
open-behind lo hi t NoDecl u h = h
open-behind lo hi t (DeclareDefault x more) u h = open-behind lo hi (with_object (VariableOf x) t) more u.1 (open-out (VariableOf x) lo hi t u.0 h)
open-behind lo hi t (DeclareVariable x initial more) u h = open-behind lo hi (with_object (VariableOf x) t) more u.1 (open-out (VariableOf x) lo hi t u.0 h)
open-behind lo hi t (DeclareConstant x initial more) u h = open-behind lo hi (with_object (ConstantOf x) t) more u.1 (open-out (ConstantOf x) lo hi t u.0 h)
open-behind lo hi t (Mentions es more) u h = open-behind lo hi t more u h
