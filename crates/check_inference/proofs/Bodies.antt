-- The walk over statements and bodies adds exactly their items.
use Rattle.std.proofs.Common.{◌≡◌, ℕ, zero, suc, ◌+◌, List, [], ◌⊎◌, inl, inr, true, false, refl, arith}
use Rattle.typed_tree.specs.Syntax.{Decls, NoDecl, DeclareDefault, DeclareVariable, DeclareConstant, Mentions, Stmt, Null, Assign, CallProcedure, Exit, Return, ReturnValue, Raise, Reraise, IfThen, Case, Loop, For, ParallelFor, Parallel, Block, Put, Get, Stmts, End, Then, Alternatives, NoAlternative, Alternative, Arms, NoArm, Arm, Handlers, NoHandler, Handler, Body, Program}
use Rattle.ada_meaning.specs.Formed.{width}
use Rattle.check_effects.specs.Effects as law
use Rattle.check_effects.specs.Effects.{Roles, Construct, Item, Holds, LoopOf, BlockOf, forget, InDecls, InStmt, InAll, InAlternatives, InArm, InHandlers, InBody}
use Rattle.check_inference.specs.declared.gathering.Gathered.{Gathered}
use Rattle.check_clashes.specs.declared.effects.SiteEffects.{SiteEffects}
use Rattle.check_inference.specs.Exact.{IsIn, Tells, any_arm, TellsSite}
use Rattle.check_inference.specs.Paths.{Surroundings, named, outset}
use Rattle.check_inference.specs.Gather.{no_uses, declared, declaring, hidden_with, gather_decls, gather_stmt, gather_stmts, gather_alternatives, gather_arms, gather_numbered, gather_handlers, gather_body}
use Rattle.check_inference.proofs.Places.{Fits, same_name, beside_below, beside_both, beside_threads, fits_course, fits_below, fits_target, fits_hidden, fits_arm, fits_judging, fits_threads, fits_outset}
use Rattle.check_inference.proofs.Adding.{Grows, Adds, grow_like, grow_then, grow_none, in_either, after, before, none, block, like, moved, hiding, writes, call, held_site, tells, tells_arms}
use Rattle.check_inference.proofs.Expressions.{adds_expr, adds_exprs, adds_optional, adds_selections, adds_actuals, adds_value, adds_course, adds_filter, adds_chunk, adds_pieces}

-- ---- arms by their numbers

first_number : (arm k : ℕ) → arm ≡ k → arm ≡ k + 0
first_number arm k e = omega arith

first_back : (arm k : ℕ) → arm ≡ k + 0 → arm ≡ k
first_back arm k e = omega arith

next_number : (arm k j : ℕ) → arm ≡ suc k + j → arm ≡ k + suc j
next_number arm k j e = omega arith

next_back : (arm k j : ℕ) → arm ≡ k + suc j → arm ≡ suc k + j
next_back arm k j e = omega arith

module _ (program : Program) where
  module _ (r : Roles) (stmts : Stmts) (rest : Arms) where
    to_arm : (i : Item) → InAll program.subtypes r stmts i ⊎ ((k : ℕ) × InArm program.subtypes r rest k i) → (k : ℕ) × InArm program.subtypes r (Arm stmts rest) k i
    to_arm i (inl x) = (zero, x)
    to_arm i (inr (k, x)) = (suc k, x)

    from_arm : (i : Item) → (k : ℕ) × InArm program.subtypes r (Arm stmts rest) k i → InAll program.subtypes r stmts i ⊎ ((k : ℕ) × InArm program.subtypes r rest k i)
    from_arm i (zero, x) = inl x
    from_arm i (suc k, x) = inr (k, x)

    to_number : (k arm : ℕ) (i : Item) → ((arm ≡ k) × InAll program.subtypes r stmts i) ⊎ ((j : ℕ) × (arm ≡ suc k + j) × InArm program.subtypes r rest j i) → (j : ℕ) × (arm ≡ k + j) × InArm program.subtypes r (Arm stmts rest) j i
    to_number k arm i (inl (e, x)) = (zero, first_number arm k e, x)
    to_number k arm i (inr (j, e, x)) = (suc j, next_number arm k j e, x)

    from_number : (k arm : ℕ) (i : Item) → (j : ℕ) × (arm ≡ k + j) × InArm program.subtypes r (Arm stmts rest) j i → ((arm ≡ k) × InAll program.subtypes r stmts i) ⊎ ((j : ℕ) × (arm ≡ suc k + j) × InArm program.subtypes r rest j i)
    from_number k arm i (zero, e, x) = inl (first_back arm k e, x)
    from_number k arm i (suc j, e, x) = inr (j, next_back arm k j e, x)

  -- what is added behind declarations, for those too
  adds_decls : (x : Decls) (p : Surroundings) (r : Roles) (rest : Item → Type 0) (out new : Gathered) → Fits p r → Adds program rest (declared x p) (gather_decls p x out) new → Adds program (InDecls program.subtypes r x rest) p out new
  unfolding hidden_with gather_decls
  adds_decls NoDecl p r rest out new f h = h
  adds_decls (DeclareDefault x more) p r rest out new f h = hiding x p (adds_decls more (declaring x p) r rest out new (fits_hidden _ p r f) h)
  adds_decls (DeclareVariable x initial more) p r rest out new f h = after (adds_value program initial p r out f) (hiding x p (adds_decls more (declaring x p) r rest _ new (fits_hidden _ p r f) h))
  adds_decls (DeclareConstant x initial more) p r rest out new f h = after (adds_value program initial p r out f) (adds_decls more p r rest _ new f h)
  adds_decls (Mentions es more) p r rest out new f h = after (adds_exprs program es p r out f) (adds_decls more p r rest _ new f h)

  mutual
    unfolding gather_stmt gather_stmts gather_alternatives gather_arms gather_numbered gather_handlers

    pub adds_stmt : (x : Stmt) (p : Surroundings) (r : Roles) (out : Gathered) → Fits p r → Adds program (InStmt program.subtypes r x) p out (gather_stmt p x out)
    adds_stmt Null p r out f = none (λ i h. h)
    adds_stmt (Assign at from selections value) p r out f = after (writes p at (width program.subtypes value) (named p from selections) (law.name r from selections) out (same_name p r f.suits from selections))
        (after (adds_selections program selections p r _ f) (moved (record { arm = refl; hidden = refl; sites = refl }) (adds_value program value _ _ _ (fits_target from selections p r f))))
    adds_stmt (CallProcedure at callee s actuals) p r out f = after (call p at callee s out) (adds_actuals program actuals p r _ f)
    adds_stmt (Exit loop condition) p r out f = adds_optional program condition p r out f
    adds_stmt Return p r out f = none (λ i h. h)
    adds_stmt (ReturnValue value) p r out f = adds_value program value p r out f
    adds_stmt (Raise reason) p r out f = none (λ i h. h)
    adds_stmt Reraise p r out f = none (λ i h. h)
    adds_stmt (IfThen condition stmts otherwise) p r out f = after (adds_expr program condition p r out f) (after (adds_stmts stmts p r _ f) (adds_stmts otherwise p r _ f))
    adds_stmt (Case e alternatives) p r out f = after (adds_expr program e p r out f) (adds_alternatives alternatives p r _ f)
    adds_stmt (Loop number condition stmts) p r out f = after (adds_optional program condition p r out f) (adds_stmts stmts p r _ f)
    adds_stmt (For number iteration stmts) p r out f = after (adds_course program iteration p r out f)
        (moved (beside_below false iteration p p) (after (adds_filter program iteration _ _ _ (fits_course iteration p r f)) (adds_stmts stmts _ _ _ (fits_course iteration p r f))))
    adds_stmt (ParallelFor number site chunk iteration stmts) p r out f = after (held_site p (LoopOf site (forget r) chunk iteration stmts) _ out (λ on. record {
      number = refl;
      block = refl;
      front = tells [] refl (after (adds_chunk program chunk _ _ _ (fits_judging p r f on)) (adds_course program iteration _ _ _ (fits_judging p r f on)));
      threads = λ j. tells [] refl (moved (beside_threads chunk iteration p) (after (adds_filter program iteration _ _ _ (fits_threads chunk iteration p r f on)) (adds_stmts stmts _ _ _ (fits_threads chunk iteration p r f on))));
    })) (after (adds_chunk program chunk p r _ f) (after (adds_course program iteration p r _ f)
        (moved (beside_both chunk iteration p) (after (adds_filter program iteration _ _ _ (fits_below chunk iteration p r f)) (adds_stmts stmts _ _ _ (fits_below chunk iteration p r f))))))
    adds_stmt (Parallel site count arms) p r out f = after (held_site p (BlockOf site (forget r) count arms) _ out (λ on. record {
      number = refl;
      block = refl;
      front = tells [] refl (adds_optional program count _ _ _ (fits_judging p r f on));
      threads = λ j. tells_arms (adds_numbered arms 0 _ _ _ (fits_judging p r f on)) j;
    })) (after (adds_optional program count p r _ f) (adds_arms arms p r _ f))
    adds_stmt (Block decls stmts handlers) p r out f = adds_decls decls p r _ out _ f (after (adds_stmts stmts (declared decls p) r _ (fits_hidden _ p r f)) (adds_handlers handlers (declared decls p) r _ (fits_hidden _ p r f)))
    adds_stmt (Put at callee pieces line) p r out f = after (block at callee) (adds_pieces program pieces p r _ f)
    adds_stmt (Get at callee first from selections scalar) p r out f = after (block at callee) (after (writes p first 1 (named p from selections) (law.name r from selections) out (same_name p r f.suits from selections)) (adds_selections program selections p r _ f))

    pub adds_stmts : (x : Stmts) (p : Surroundings) (r : Roles) (out : Gathered) → Fits p r → Adds program (InAll program.subtypes r x) p out (gather_stmts p x out)
    adds_stmts End p r out f = none (λ i h. h)
    adds_stmts (Then s ss) p r out f = after (adds_stmt s p r out f) (adds_stmts ss p r _ f)

    pub adds_alternatives : (x : Alternatives) (p : Surroundings) (r : Roles) (out : Gathered) → Fits p r → Adds program (InAlternatives program.subtypes r x) p out (gather_alternatives p x out)
    adds_alternatives NoAlternative p r out f = none (λ i h. h)
    adds_alternatives (Alternative others choices mentions stmts rest) p r out f = after (adds_exprs program mentions p r out f) (after (adds_stmts stmts p r _ f) (adds_alternatives rest p r _ f))

    pub adds_arms : (x : Arms) (p : Surroundings) (r : Roles) (out : Gathered) → Fits p r → Adds program (λ i. (k : ℕ) × InArm program.subtypes r x k i) p out (gather_arms p x out)
    adds_arms NoArm p r out f = none (λ i h. h.1)
    adds_arms (Arm stmts rest) p r out f = like (to_arm r stmts rest) (from_arm r stmts rest) (after (adds_stmts stmts p r out f) (adds_arms rest p r _ f))

    pub adds_numbered : (x : Arms) (k : ℕ) (p : Surroundings) (r : Roles) (out : Gathered) → Fits p r → Grows program (λ arm i. (j : ℕ) × (arm ≡ k + j) × InArm program.subtypes r x j i) p.hidden p.sites out (gather_numbered p k x out)
    adds_numbered NoArm k p r out f = grow_none p.hidden p.sites out (λ arm at a h. h.2) (λ arm at callee s h. h.2) (λ arm k h. h.2)
    adds_numbered (Arm stmts rest) k p r out f = grow_like (to_number r stmts rest k) (from_number r stmts rest k) (grow_then (adds_stmts stmts (record p { arm = k }) r out (fits_arm k p r f)).grows (adds_numbered rest (suc k) p r _ f))

    pub adds_handlers : (x : Handlers) (p : Surroundings) (r : Roles) (out : Gathered) → Fits p r → Adds program (InHandlers program.subtypes r x) p out (gather_handlers p x out)
    adds_handlers NoHandler p r out f = none (λ i h. h)
    adds_handlers (Handler handled stmts rest) p r out f = after (adds_stmts stmts p r out f) (adds_handlers rest p r _ f)

  -- ---- bodies

  adds_body : (body : Body) (out : Gathered) → Adds program (InBody program.subtypes body) (outset true) out (gather_body (outset true) body out)
  adds_body body out = adds_decls body.decls (outset true) law.unknown _ out _ fits_outset
      (after (adds_stmts body.stmts (declared body.decls (outset true)) law.unknown _ (fits_hidden _ (outset true) law.unknown fits_outset)) (adds_handlers body.handlers (declared body.decls (outset true)) law.unknown _ (fits_hidden _ (outset true) law.unknown fits_outset)))

  -- what is gathered of a body, with constructs that were found before
  pub record TellsBody (items : Item → Type 0) (before : List SiteEffects) (g : Gathered) : Type 0 where
    pub uses : Tells items any_arm g.uses
    pub sites : (s : SiteEffects) → IsIn s g.sites → IsIn s before ⊎ ((k : Construct) × items (Holds k) × TellsSite program k s)
    pub kept : (s : SiteEffects) → IsIn s before → IsIn s g.sites
    pub held : (k : Construct) → items (Holds k) → (s : SiteEffects) × IsIn s g.sites × TellsSite program k s

  abbrev pub BodyLaw : Type 0
  BodyLaw = (body : Body) (before : List SiteEffects) → TellsBody (InBody program.subtypes body) before (gather_body (outset true) body (record { uses = no_uses; sites = before }))

  pub body_law : BodyLaw
  body_law body before = record {
    uses = tells before refl a;
    sites = λ s h. in_either (a.grows.sites s h) (λ x. inl x) (λ x. inr (x.1, x.2.1, x.3));
    kept = a.grows.sites_kept;
    held = λ k h. a.grows.held refl 0 k (refl, h);
  } where
    a : Adds program (InBody program.subtypes body) (outset true) (record { uses = no_uses; sites = before }) (gather_body (outset true) body (record { uses = no_uses; sites = before }))
    a = adds_body body (record { uses = no_uses; sites = before })
