-- No formal parameter has the number of an object that the main procedure declares, since that number would stand twice.
use Rattle.std.proofs.Common.{◌≡◌, refl, sym, subst, ℕ, zero, suc, ◌≤◌, List, [], ◌∷◌, ◌++◌, inl, inr, Some, arith}
use Rattle.typed_tree.specs.declared.program.Formal.{Formal}
use Rattle.typed_tree.specs.Syntax.{Decls, NoDecl, DeclareDefault, DeclareVariable, DeclareConstant, Mentions, Sub, Program}
use Rattle.typed_objects.specs.Objects.{block_objects, decl_objects, formal_objects, handler_objects, stmts_objects, sub_objects, subs_objects, times}
use Rattle.ada_meaning.specs.Meaning.{sub_at}
use Rattle.check_effects.specs.Effects.{IsDeclared}
use Rattle.ada_lower.specs.Lending.{Among}
use Rattle.ada_lower.specs.HomesLaw.{LocalLaw}
use Rattle.ada_lower.proofs.Times.{hit-self, times-join}

module _ (x : ℕ) where
  in_decls : (program : Program) (ds : Decls) → IsDeclared program ds x → 1 ≤ times x (decl_objects ds)
  in_decls program NoDecl h = absurd h
  in_decls program (DeclareDefault y more) (inl e) = omega (arith, hit-self x y (sym e))
  in_decls program (DeclareDefault y more) (inr h) = omega (arith, in_decls program more h)
  in_decls program (DeclareVariable y initial more) (inl e) = omega (arith, hit-self x y (sym e))
  in_decls program (DeclareVariable y initial more) (inr h) = omega (arith, in_decls program more h)
  in_decls program (DeclareConstant y initial more) (inl e) = omega (arith, hit-self x y (sym e))
  in_decls program (DeclareConstant y initial more) (inr h) = omega (arith, in_decls program more h)
  in_decls program (Mentions es more) h = in_decls program more h

  in_formals : (fs : List Formal) (f : Formal) → Among f fs → f.object ≡ x → 1 ≤ times x (formal_objects fs)
  in_formals [] f i e = absurd i
  in_formals (g ∷ fs) f (inl is) e = omega (arith, hit-self x g.object (subst (λ (z : Formal). z.object ≡ x) is e))
  in_formals (g ∷ fs) f (inr i) e = omega (arith, in_formals fs f i e)

  in_subs : (us : List Sub) (k : ℕ) (u : Sub) (f : Formal) → sub_at us k ≡ Some u → Among f u.formals → f.object ≡ x → 1 ≤ times x (subs_objects us)
  in_subs [] k u f at i e = absurd cc
  in_subs (v ∷ us) zero u f at i e =
      let same : v ≡ u = cc in
      omega (
        arith,
        times-join x (sub_objects v) (subs_objects us),
        times-join x (formal_objects v.formals) (block_objects v.body.decls v.body.stmts v.body.handlers),
        in_formals v.formals f (subst (λ (z : Sub). Among f z.formals) (sym same) i) e,
      )
  in_subs (v ∷ us) (suc k) u f at i e = omega (arith, times-join x (sub_objects v) (subs_objects us), in_subs us k u f at i e)

pub local_law : LocalLaw
local_law program distinct k unit at f i global =
    let x = f.object in
    let ds = decl_objects program.body.decls in
    let us = subs_objects program.subs in
    let ss = stmts_objects program.body.stmts ++ handler_objects program.body.handlers in
    absurd (omega (arith, distinct x, times-join x ds (us ++ ss), times-join x us ss, in_decls x program program.body.decls global, in_subs x program.subs k unit f at i refl))
