-- What is found is in scope: calls and conversions.
use Rattle.std.specs.Prelude.{is_some, ◌||◌}
use Rattle.syntax_tree.specs.FirstTokens as first_token
use Rattle.syntax_tree.specs.Syntax as syntax
use Rattle.syntax_tree.specs.Syntax.{Arg, Args, Expr}
use Rattle.typed_tree.specs.Decoded as part
use Rattle.typed_tree.specs.Decoded.{TypedPart, as_actual, as_actuals, as_value}
use Rattle.typed_tree.specs.Latest.{turned}
use Rattle.typed_tree.specs.Syntax as typed
use Rattle.typed_tree.specs.Syntax.{Actuals}
use Rattle.typed_tree.specs.declared.program.Mode.TheVariants as mode
use Rattle.typed_tree.specs.declared.program.Mode.{Mode}
use Rattle.name_rules.specs.Calls.{Calling, actual_by, actual_for, also_taken, arg_names, argument, arguments, begun_call, call_given, complete, found_or_unknown, composite_actual, conversion, conversion_of, converted, given_once, gives_in, is_out, late_at, one_operand, operands, parameter_of, place_given, profile_in, scalar_actual, scalar_conversion, sub_call, taken_at, takes_in, variable_form, variable_given, with_actual, with_operand}
use Rattle.name_rules.specs.Expressions.{Inside, expr, judged_alone, value_for}
use Rattle.name_rules.specs.Found.{Found}
use Rattle.name_rules.specs.Judging.{◌>>=◌, fault, given, pure, read, some, joined, where_clean}
use Rattle.name_rules.specs.TypedParts.{also, selections_of}
use Rattle.name_rules.specs.Types.{is_integer, same, typed_scalar, wanted_of}
use Rattle.name_rules.specs.Values.{first_of, is_number, settled_found, own_kind}
use Rattle.name_rules.specs.declared.found.Found.TheVariants as known
use Rattle.name_rules.specs.declared.found.Found.{Found as Known}
use Rattle.name_rules.specs.declared.found.ObjectName.{ObjectName}
use Rattle.name_rules.specs.declared.log.Rule.TheVariants.{Twice, Unknown, WrongType}
use Rattle.name_rules.specs.declared.log.Taken.{Taken}
use Rattle.name_rules.specs.declared.scope.Context.{Context}
use Rattle.name_rules.specs.declared.scope.Names.{Names}
use Rattle.name_rules.specs.declared.types.Scalar.{Scalar}
use Rattle.name_rules.specs.declared.types.Subtype.{Subtype}
use Rattle.name_rules.specs.declared.types.Subtype.TheVariants as subtype
use Rattle.name_rules.specs.declared.types.Wanted.TheVariants as wanted
use Rattle.std.proofs.Common.{◌≡◌, refl, sym, ap, subst, ◌∙◌, ℕ, zero, suc, ◌+◌, List, [], ◌∷◌, ◌++◌, length, map, slice_get, Option, Some, None, Bool, true, false, if◌then◌else◌, option_map, ◌==◌, eqb-true, true≢false, arith}
use Rattle.std.specs.List.{list_any}
use Rattle.ada_meaning.specs.Shapes.{cells_of, size}
use Rattle.typed_tree.specs.Latest.{onto}
use Rattle.typed_tree.specs.declared.program.Formal.{Formal}
use Rattle.typed_scopes.specs.Scopes.{Called, Without, formal_of, object_cells}
use Rattle.name_rules.specs.Programs.{typed_formal}
use Rattle.name_rules.specs.declared.log.Profile.{Profile}
use Rattle.name_flow.specs.Order.{AllIn, AreIn}
use Rattle.name_formed.proofs.Forms.{shape_of}
use Rattle.name_scopes.proofs.Actuals.{AreOnce, Counted, all-left, arguments-counted, left-from, none-left, without-one}
use Rattle.name_scopes.proofs.Seen.{SeenActuals, SeenIn, SeenValue}
use Rattle.name_scopes.proofs.Sees.{Any, AreTaken, HasUnit, IsTaken, Sees, Maybe, Sight, World, v-bind, v-fault, v-given, v-if, v-none, v-pure, v-some, v-test, v-unless, v-weaken, v-where_clean, v-where_known}
use Rattle.name_scopes.proofs.SeesExpressions.{v-expr, v-judged_alone, v-value_for}
use Rattle.name_scopes.proofs.SeesFound.{Around, DenotedOf, ExprOf, Finding, FoundOf, IsCalled, KnownOf, LevelSees, ValueOf}
use Rattle.name_scopes.proofs.SeesNames.{v-wrong_call}
use Rattle.name_scopes.proofs.SeesProfiles.{ProfileOf, called-modes, v-profile}
use Rattle.name_scopes.proofs.SeesValues.{VariableOf, as-variable, v-settled_found}

-- of mode `in`
abbrev is_in : Mode → Bool
is_in mode.In = true
is_in m = false

module _ (W : World) (V : Sight) where
  -- ---- actual parameters

  -- an actual parameter fits its formal, whichever is its turn
  abbrev pub IsActual : Taken → TypedPart → Type 0
  IsActual t x = (fs gs : List Formal) (r : Actuals) → Without (typed_formal t) fs gs
      → (SeenActuals W.program W.shown V.around gs r → SeenActuals W.program W.shown V.around fs (as_actual x r)) × (t.mode ≡ mode.In → SeenIn W.program W.shown V.around gs r → SeenIn W.program W.shown V.around fs (as_actual x r))

  by-mode : (t : Taken) (m : Mode) (fs gs : List Formal) → t.mode ≡ m → Without (typed_formal t) fs gs → Without (formal_of t.object m) fs gs
  by-mode t m fs gs e h = subst (λ k. Without (formal_of t.object k) fs gs) e h

  no-in : (m : Mode) → m ≡ mode.In → is_in m ≡ true
  no-in m e = ap is_in e

  scalar-actual : (t : Taken) (s : Scalar) (p : ObjectName) (x : TypedPart) (u : Scalar) (m : Mode) → t.mode ≡ m → is_in m ≡ false → object_cells W.program t.object ≡ 1 → VariableOf W V p x → IsActual t (scalar_actual t s p (selections_of x) u)
  scalar-actual t s p x u m e n c h fs gs r w = (by m e n, λ k. absurd (true≢false (sym (no-in t.mode k) ∙ ap is_in e ∙ n)))
    where
      by : (m : Mode) → t.mode ≡ m → is_in m ≡ false → SeenActuals W.program W.shown V.around gs r
          → SeenActuals W.program W.shown V.around fs (as_actual (part.AnActual (if is_out t.mode then typed.Out t.object p.first p.root (selections_of x) (typed_scalar s) (typed_scalar u) else typed.InOut t.object p.first p.root (selections_of x) (typed_scalar s) (typed_scalar u))) r)
      by mode.Out e n q =
          subst (λ k. SeenActuals W.program W.shown V.around fs (as_actual (part.AnActual (if is_out k then typed.Out t.object p.first p.root (selections_of x) (typed_scalar s) (typed_scalar u) else typed.InOut t.object p.first p.root (selections_of x) (typed_scalar s) (typed_scalar u))) r)) (sym e)
          (gs, by-mode t mode.Out fs gs e w, c, h.0, h.1, q)
      by mode.InOut e n q =
          subst (λ k. SeenActuals W.program W.shown V.around fs (as_actual (part.AnActual (if is_out k then typed.Out t.object p.first p.root (selections_of x) (typed_scalar s) (typed_scalar u) else typed.InOut t.object p.first p.root (selections_of x) (typed_scalar s) (typed_scalar u))) r)) (sym e)
          (gs, by-mode t mode.InOut fs gs e w, c, h.0, h.1, q)
      by mode.In e n q = absurd (true≢false n)

  composite-actual : (t : Taken) (p : ObjectName) (x : TypedPart) (k : ℕ) (m : Mode) → t.mode ≡ m → is_in m ≡ false → object_cells W.program t.object ≡ cells_of W.program.subtypes k → VariableOf W V p x → IsActual t (composite_actual t p (selections_of x) k)
  composite-actual t p x k m e n c h fs gs r w = (by m e n, λ i. absurd (true≢false (sym (no-in t.mode i) ∙ ap is_in e ∙ n)))
    where
      by : (m : Mode) → t.mode ≡ m → is_in m ≡ false → SeenActuals W.program W.shown V.around gs r
          → SeenActuals W.program W.shown V.around fs (as_actual (part.AnActual (if is_out t.mode then typed.CompositeOut t.object p.first p.root (selections_of x) k else typed.CompositeInOut t.object p.first p.root (selections_of x) k)) r)
      by mode.Out e n q =
          subst (λ i. SeenActuals W.program W.shown V.around fs (as_actual (part.AnActual (if is_out i then typed.CompositeOut t.object p.first p.root (selections_of x) k else typed.CompositeInOut t.object p.first p.root (selections_of x) k)) r)) (sym e)
          (gs, by-mode t mode.Out fs gs e w, c, h.0, h.1, q)
      by mode.InOut e n q =
          subst (λ i. SeenActuals W.program W.shown V.around fs (as_actual (part.AnActual (if is_out i then typed.CompositeOut t.object p.first p.root (selections_of x) k else typed.CompositeInOut t.object p.first p.root (selections_of x) k)) r)) (sym e)
          (gs, by-mode t mode.InOut fs gs e w, c, h.0, h.1, q)
      by mode.In e n q = absurd (true≢false n)

  v-place_given : (t : Taken) (p : ObjectName) (x : TypedPart) (s u : Subtype) (m : Mode) → t.subtype ≡ s → t.mode ≡ m → is_in m ≡ false → IsTaken W.program t → VariableOf W V p x → Sees W V (Maybe (IsActual t)) (place_given t p (selections_of x) s u)
  v-place_given t p x (subtype.Scalar s) (subtype.Scalar u) m e f n k h =
      v-if W V (Maybe (IsActual t)) (same s.kind u.kind) (some (scalar_actual t s p (selections_of x) u)) (fault p.first WrongType)
      (v-some W V (IsActual t) (scalar_actual t s p (selections_of x) u) (scalar-actual t s p x u m f n (k.0 ∙ ap (λ y. size (shape_of W.program y)) e) h)) (v-fault W V (IsActual t) p.first WrongType)
  v-place_given t p x (subtype.Composite i) (subtype.Composite j) m e f n k h =
      v-if W V (Maybe (IsActual t)) (i == j) (some (composite_actual t p (selections_of x) i)) (fault p.first WrongType)
      (v-some W V (IsActual t) (composite_actual t p (selections_of x) i) (composite-actual t p x i m f n (k.0 ∙ ap (λ y. size (shape_of W.program y)) e ∙ sym (W.counted i)) h)) (v-fault W V (IsActual t) p.first WrongType)
  v-place_given t p x (subtype.Scalar s) (subtype.Composite j) m e f n k h = v-fault W V (IsActual t) p.first WrongType
  v-place_given t p x (subtype.Composite i) (subtype.Scalar u) m e f n k h = v-fault W V (IsActual t) p.first WrongType

  v-variable_form : (t : Taken) (f : Known) (x : TypedPart) (m : Mode) → t.mode ≡ m → is_in m ≡ false → IsTaken W.program t → KnownOf W V f x → Sees W V (Maybe (IsActual t)) (variable_form t f x)
  v-variable_form t (known.Object p) x m e n k h = v-test W V (Maybe (IsActual t)) p.variable (place_given t p (selections_of x) t.subtype p.subtype) (fault p.first WrongType) (λ q. v-place_given t p x t.subtype p.subtype m refl e n k (as-variable W V p x h q)) (v-fault W V (IsActual t) p.first WrongType)
  v-variable_form t f x m e n k h = v-fault W V (IsActual t) (first_of f) WrongType

  v-variable_given : (t : Taken) (f : Found) (m : Mode) → t.mode ≡ m → is_in m ≡ false → IsTaken W.program t → FoundOf W V f → Sees W V (Maybe (IsActual t)) (variable_given t f)
  unfolding variable_given
  v-variable_given t f m e n k h = v-variable_form t f.known f.part m e n k h

  v-variable : (names : Names) (inside : Inside) (here : Context) (t : Taken) (m : Mode) (e : Expr) → t.mode ≡ m → is_in m ≡ false → IsTaken W.program t → LevelSees W inside → Around W V here → Sees W V (Maybe (IsActual t)) (expr names inside here (wanted_of t.subtype) e >>= λ x. given x (variable_given t))
  v-variable names inside here t m e q n k l r = v-bind W V (Finding W V) (Maybe (IsActual t)) (expr names inside here (wanted_of t.subtype) e) _ (v-expr W V names inside here (wanted_of t.subtype) e l r) (λ x i. v-given W V (FoundOf W V) (IsActual t) x (variable_given t) i (λ f s. v-variable_given t f m q n k s))

  in-actual : (t : Taken) (x : TypedPart) → t.mode ≡ mode.In → SeenValue W.program W.shown V.around (object_cells W.program t.object) (as_value x) → IsActual t (part.AnActual (typed.In t.object (as_value x)))
  in-actual t x e h fs gs r w = ((λ q. (gs, by-mode t mode.In fs gs e w, h, q)), (λ i q. (gs, by-mode t mode.In fs gs e w, h, q)))

  v-actual_by : (names : Names) (inside : Inside) (here : Context) (t : Taken) (m : Mode) (e : Expr) → t.mode ≡ m → IsTaken W.program t → LevelSees W inside → Around W V here → Sees W V (Maybe (IsActual t)) (actual_by names inside here t m e)
  v-actual_by names inside here t mode.In e q k l r =
      v-bind W V (Maybe (ValueOf W V t.subtype)) (Maybe (IsActual t)) (value_for names inside here t.subtype e) _ (v-value_for W V names inside here t.subtype e l r) (λ v i.
      v-given W V (ValueOf W V t.subtype) (IsActual t) v _ i (λ x s. v-some W V (IsActual t) (part.AnActual (typed.In t.object (as_value x))) (in-actual t x q (subst (λ n. SeenValue W.program W.shown V.around n (as_value x)) (sym k.0) (s k.1)))))
  v-actual_by names inside here t mode.Out e q k l r = v-variable names inside here t mode.Out e q refl k l r
  v-actual_by names inside here t mode.InOut e q k l r = v-variable names inside here t mode.InOut e q refl k l r

  -- an argument of a parameter, where there is one
  abbrev ActualOf : Option Taken → TypedPart → Type 0
  ActualOf None x = ⊥
  ActualOf (Some t) x = IsActual t x

  abbrev TakenOf : Option Taken → Type 0
  TakenOf None = Unit {0}
  TakenOf (Some t) = IsTaken W.program t

  v-actual_for : (names : Names) (inside : Inside) (here : Context) (t : Option Taken) (e : Expr) → TakenOf t → LevelSees W inside → Around W V here → Sees W V (Maybe (ActualOf t)) (actual_for names inside here t e)
  unfolding actual_for
  v-actual_for names inside here None e k l r = v-bind W V Any (Maybe (ActualOf None)) (judged_alone names inside here e) _ (v-judged_alone W V names inside here e l r) (λ u q. v-none W V (ActualOf None))
  v-actual_for names inside here (Some t) e k l r = v-actual_by names inside here t t.mode e refl k l r

  -- ---- the arguments so far, before those behind them

  pub record LedTo (ts : List Taken) (taken : List ℕ) (x : TypedPart) : Type 0 where
    pub actuals : (r : TypedPart) → SeenActuals W.program W.shown V.around (left-from 0 ts taken) (as_actuals r) → SeenActuals W.program W.shown V.around (map typed_formal ts) (as_actuals (onto x r))
    pub functions : AllIn (map typed_formal ts) → (r : TypedPart) → SeenIn W.program W.shown V.around (left-from 0 ts taken) (as_actuals r) → SeenIn W.program W.shown V.around (map typed_formal ts) (as_actuals (onto x r))

  abbrev CallingOf : List Taken → Calling → Type 0
  CallingOf ts c = AreOnce c.taken → Maybe (LedTo ts c.taken) c.actuals

  in-at : (ts : List Taken) (i : ℕ) (t : Taken) → slice_get ts i ≡ Some t → AllIn (map typed_formal ts) → t.mode ≡ mode.In
  in-at [] i t e h = absurd cc
  in-at (x ∷ ts) zero t e h = let same : x ≡ t = cc in subst (λ y. y.mode ≡ mode.In) same h.0
  in-at (x ∷ ts) (suc i) t e h = in-at ts i t e h.1

  led-more : (ts : List Taken) (taken : List ℕ) (i : ℕ) (made x : TypedPart) (t : Taken) → slice_get ts i ≡ Some t → list_any (λ j. i == j) taken ≡ false → LedTo ts taken made → IsActual t x → LedTo ts (i ∷ taken) (also made x)
  led-more ts taken i made x t e f h k =
      let w = without-one i ts taken t e f in
      record {
        actuals = λ r s. h.actuals (part.Cons x r) ((k (left-from 0 ts taken) (left-from 0 ts (i ∷ taken)) (as_actuals r) w).0 s);
        functions = λ m r s. h.functions m (part.Cons x r) ((k (left-from 0 ts taken) (left-from 0 ts (i ∷ taken)) (as_actuals r) w).1 (in-at ts i t e m) s);
      }

  with-actual : (ts : List Taken) (i : Option ℕ) (c : Calling) (x : Option TypedPart) → CallingOf ts c → Maybe (ActualOf (taken_at ts i)) x → AreOnce (also_taken c.taken i) → Maybe (LedTo ts (also_taken c.taken i)) (with_actual i c.actuals x)
  with-actual ts None c x g h o = g o
  with-actual ts (Some i) c x g h o = by (slice_get ts i) refl c.actuals (g o.1) x h
    where
      by : (t : Option Taken) → slice_get ts i ≡ t → (made : Option TypedPart) → Maybe (LedTo ts c.taken) made → (x : Option TypedPart) → Maybe (ActualOf (slice_get ts i)) x → Maybe (LedTo ts (i ∷ c.taken)) (joined also made x)
      by t e None m x h = tt
      by t e (Some made) m None h = tt
      by None e (Some made) m (Some x) h = absurd (subst (λ t. ActualOf t x) e h)
      by (Some t) e (Some made) m (Some x) h = led-more ts c.taken i made x t e o.0 m (subst (λ t. ActualOf t x) e h)

  taken-at : (ts : List Taken) (i : Option ℕ) → AreTaken W.program ts → TakenOf (taken_at ts i)
  taken-at ts None h = tt
  taken-at [] (Some i) h = tt
  taken-at (t ∷ ts) (Some zero) h = h.0
  taken-at (t ∷ ts) (Some (suc i)) h = taken-at ts (Some i) h.1

  v-found_or_unknown : (name : ℕ) (i : Option ℕ) → Sees W V Any (found_or_unknown name i)
  v-found_or_unknown name None = v-weaken W V (Maybe Any) Any (fault name Unknown) (v-fault W V Any name Unknown) (λ x q. tt)
  v-found_or_unknown name (Some i) = v-pure W V Any (Some i) tt

  v-parameter_of : (names : Names) (ts : List Taken) (i : ℕ) (named : Bool) (name : Option ℕ) → Sees W V Any (parameter_of names ts i named name)
  v-parameter_of names ts i named (Some name) = v-found_or_unknown name _
  v-parameter_of names ts i true None = v-pure W V Any None tt
  v-parameter_of names ts i false None = v-pure W V Any _ tt

  v-given_once : (first : ℕ) (taken : List ℕ) (i : Option ℕ) → Sees W V Any (given_once first taken i)
  v-given_once first taken None = v-pure W V Any tt tt
  v-given_once first taken (Some i) = v-unless W V _ first Twice

  v-argument : (names : Names) (inside : Inside) (here : Context) (ts : List Taken) (c : Calling) (a : Arg) → AreTaken W.program ts → LevelSees W inside → Around W V here → CallingOf ts c → Sees W V (CallingOf ts) (argument names inside here ts c a)
  unfolding argument
  v-argument names inside here ts c (syntax.arg name e) k l r g =
      v-bind W V Any (CallingOf ts) (parameter_of names ts c.count c.named name) _ (v-parameter_of names ts c.count c.named name) (λ i p.
      v-bind W V Any (CallingOf ts) (given_once (first_token.of_arg (syntax.arg name e)) c.taken i) _ (v-given_once (first_token.of_arg (syntax.arg name e)) c.taken i) (λ u q.
      v-bind W V (Maybe (ActualOf (taken_at ts i))) (CallingOf ts) (actual_for names inside here (taken_at ts i) e) _ (v-actual_for names inside here (taken_at ts i) e (taken-at ts i k) l r) (λ x s.
      v-pure W V (CallingOf ts)
      (record { count = c.count + 1; taken = also_taken c.taken i; named = c.named || is_some name; late = late_at c.late c.named name (first_token.of_arg (syntax.arg name e)); actuals = with_actual i c.actuals x })
      (with-actual ts i c x g s))))

  v-arguments : (names : Names) (inside : Inside) (here : Context) (ts : List Taken) (c : Calling) (as' : Args) → AreTaken W.program ts → LevelSees W inside → Around W V here → CallingOf ts c → Sees W V (CallingOf ts) (arguments names inside here ts c as')
  v-arguments names inside here ts c syntax.NoArg k l r g = v-pure W V (CallingOf ts) c g
  v-arguments names inside here ts c (syntax.AlsoArg a as') k l r g = v-bind W V (CallingOf ts) (CallingOf ts) (argument names inside here ts c a) _ (v-argument names inside here ts c a k l r g) (λ d q. v-arguments names inside here ts d as' k l r q)

  -- all actuals of a call
  pub record ActualsOf (ts : List Taken) (x : TypedPart) : Type 0 where
    pub actuals : SeenActuals W.program W.shown V.around (map typed_formal ts) (as_actuals (turned x))
    pub functions : AllIn (map typed_formal ts) → SeenIn W.program W.shown V.around (map typed_formal ts) (as_actuals (turned x))

  all-led : (ts : List Taken) (taken : List ℕ) (x : TypedPart) → left-from 0 ts taken ≡ [] → LedTo ts taken x → ActualsOf ts x
  unfolding turned
  all-led ts taken x e h = record { actuals = h.actuals part.Nothing e; functions = λ m. h.functions m part.Nothing e }

  all-given : (ts : List Taken) (taken : List ℕ) (x : Option TypedPart) → left-from 0 ts taken ≡ [] → Maybe (LedTo ts taken) x → Maybe (ActualsOf ts) x
  all-given ts taken None e h = tt
  all-given ts taken (Some x) e h = all-led ts taken x e h

  v-complete : (at : ℕ) (ts : List Taken) (late : Option ℕ) (c : Calling) → c.late ≡ late → CallingOf ts c → Counted ts c → Sees W V (Maybe (ActualsOf ts)) (complete at (length ts) late c)
  v-complete at ts (Some late) c e g k = v-fault W V (ActualsOf ts) late WrongType
  v-complete at ts None c e g k =
      v-test W V (Maybe (ActualsOf ts)) (c.count == length ts) (pure c.actuals) (fault at WrongType) (λ q.
      let n = eqb-true c.count (length ts) q in
      v-pure W V (Maybe (ActualsOf ts)) c.actuals (all-given ts c.taken c.actuals (none-left ts c.taken k.once k.given (k.all e (omega (arith, n)) ∙ n)) (g k.once)))
      (v-fault W V (ActualsOf ts) at WrongType)

  call-given : (first last n : ℕ) (p : Profile) (xs : TypedPart) → IsCalled W V n → slice_get W.profiles n ≡ Some p → ActualsOf p.takes xs → DenotedOf W V (call_given first last n p.gives xs)
  call-given first last n p xs d k h = by p.gives refl
    where
      u : HasUnit W.program n p
      u = W.units n p k

      called : Called W.program W.shown V.around n
      called = record { unit = u.unit; is = u.is; may = d.1 }

      by : (s : Option Scalar) → p.gives ≡ s → DenotedOf W V (call_given first last n s xs)
      by None e = (called, u.result ∙ ap (option_map typed_scalar) e, subst (λ fs. SeenActuals W.program W.shown V.around fs (as_actuals (turned xs))) (sym u.formals) h.actuals)
      by (Some s) e =
          let m : AllIn (map typed_formal p.takes) = subst (λ y. AreIn (option_map typed_scalar y) (map typed_formal p.takes)) e (called-modes W n p k) in
          (called, (typed_scalar s, u.result ∙ ap (option_map typed_scalar) e), subst (λ fs. SeenIn W.program W.shown V.around fs (as_actuals (turned xs))) (sym u.formals) (h.functions m))

  led-none : (ts : List Taken) → LedTo ts [] part.Nothing
  led-none ts = record { actuals = λ r s. subst (λ fs. SeenActuals W.program W.shown V.around fs (as_actuals r)) (all-left ts) s; functions = λ m r s. subst (λ fs. SeenIn W.program W.shown V.around fs (as_actuals r)) (all-left ts) s }

  v-called : (names : Names) (inside : Inside) (here : Context) (at first last n : ℕ) (as' : Args) (p : Option Profile) → LevelSees W inside → Around W V here → IsCalled W V n → ProfileOf W V n p
      → Sees W V (Maybe (DenotedOf W V)) (where_clean (arguments names inside here (takes_in p) begun_call as') (λ c. complete at (length (takes_in p)) c.late c >>= λ xs. given xs (λ ys. some (call_given first last n (gives_in p) ys))))
  v-called names inside here at first last n as' None l r d k = absurd k
  v-called names inside here at first last n as' (Some p) l r d k =
      v-where_known W V (CallingOf p.takes) (Counted p.takes) (DenotedOf W V) (arguments names inside here p.takes begun_call as') _ (v-arguments names inside here p.takes begun_call as' (d.2 p (W.among n p k)) l r (λ o. led-none p.takes))
      (λ log e. arguments-counted names inside here p.takes begun_call as' log l.keeps (omega (arith, e)) (record { once = tt; given = tt; all = λ x y. refl })) (λ c s j.
      v-bind W V (Maybe (ActualsOf p.takes)) (Maybe (DenotedOf W V)) (complete at (length p.takes) c.late c) _ (v-complete at p.takes c.late c refl s j) (λ xs t.
      v-given W V (ActualsOf p.takes) (DenotedOf W V) xs _ t (λ ys i. v-some W V (DenotedOf W V) (call_given first last n p.gives ys) (call-given first last n p ys d k i))))

  pub v-sub_call : (names : Names) (inside : Inside) (here : Context) (at first last n : ℕ) (as' : Args) → LevelSees W inside → Around W V here → IsCalled W V n → Sees W V (Maybe (DenotedOf W V)) (sub_call names inside here at first last n as')
  unfolding sub_call
  v-sub_call names inside here at first last n as' l r d =
      v-bind W V (ProfileOf W V n) (Maybe (DenotedOf W V)) (read (λ log. profile_in log n)) _ (v-profile W V n d.0) (λ p q. v-called names inside here at first last n as' p l r d q)

  -- ---- operands that have no parameter

  abbrev pub AllFound : List Found → Type 0
  AllFound [] = Unit {0}
  AllFound (f ∷ fs) = (FoundOf W V) f × AllFound fs

  found-both : (a b : List Found) → AllFound a → AllFound b → AllFound (a ++ b)
  found-both [] b h k = k
  found-both (f ∷ a) b h k = (h.0, found-both a b h.1 k)

  with-operand : (fs : Option (List Found)) (x : Option Found) → Maybe AllFound fs → Finding W V x → Maybe AllFound (with_operand fs x)
  with-operand None x g h = tt
  with-operand (Some fs) None g h = tt
  with-operand (Some fs) (Some f) g h = found-both fs (f ∷ []) g (h, tt)

  pub v-operands : (names : Names) (inside : Inside) (here : Context) (made : Option (List Found)) (as' : Args) → LevelSees W inside → Around W V here → Maybe AllFound made → Sees W V (Maybe AllFound) (operands names inside here made as')
  v-operands names inside here made syntax.NoArg l r g = v-pure W V (Maybe AllFound) made g
  v-operands names inside here made (syntax.AlsoArg (syntax.arg name e) as') l r g =
      v-bind W V (Finding W V) (Maybe AllFound) (expr names inside here wanted.Other e) _ (v-expr W V names inside here wanted.Other e l r) (λ x q. v-operands names inside here (with_operand made x) as' l r (with-operand made x g q))

  -- ---- conversions

  v-converted : (first : ℕ) (s : Scalar) (f : Found) → FoundOf W V f → Sees W V (Maybe (DenotedOf W V)) (converted first s f)
  v-converted first s f h =
      v-if W V (Maybe (DenotedOf W V)) (is_number f.known) _ (fault (first_of f.known) WrongType)
      (v-bind W V (Maybe (ExprOf W V)) (Maybe (DenotedOf W V)) (settled_found f) _ (v-settled_found W V f h) (λ e q. v-given W V (ExprOf W V) (DenotedOf W V) e _ q (λ x r. v-some W V (DenotedOf W V) (conversion_of first (own_kind f.known) s x) r)))
      (v-fault W V (DenotedOf W V) (first_of f.known) WrongType)

  v-one_operand : (bracket first : ℕ) (s : Scalar) (ns : List (Option ℕ)) (fs : List Found) → AllFound fs → Sees W V (Maybe (DenotedOf W V)) (one_operand bracket first s ns fs)
  v-one_operand bracket first s (Some name ∷ ns) fs h = v-fault W V (DenotedOf W V) name WrongType
  v-one_operand bracket first s (None ∷ []) (f ∷ []) h = v-converted first s f h.0
  v-one_operand bracket first s ns fs h = v-fault W V (DenotedOf W V) bracket WrongType

  v-scalar_conversion : (names : Names) (inside : Inside) (here : Context) (bracket first : ℕ) (s : Scalar) (as' : Args) → LevelSees W inside → Around W V here → Sees W V (Maybe (DenotedOf W V)) (scalar_conversion names inside here bracket first s as')
  v-scalar_conversion names inside here bracket first s as' l r =
      v-where_clean W V (Maybe AllFound) (DenotedOf W V) (operands names inside here (Some []) as') _ (v-operands names inside here (Some []) as' l r tt) (λ fs q.
      v-given W V AllFound (DenotedOf W V) fs _ q (λ gs t. v-if W V (Maybe (DenotedOf W V)) (is_integer s.kind) (one_operand bracket first s (arg_names as') gs) (fault first WrongType) (v-one_operand bracket first s (arg_names as') gs t) (v-fault W V (DenotedOf W V) first WrongType)))

  pub v-conversion : (names : Names) (inside : Inside) (here : Context) (bracket first : ℕ) (t : Subtype) (as' : Args) → LevelSees W inside → Around W V here → Sees W V (Maybe (DenotedOf W V)) (conversion names inside here bracket first t as')
  unfolding conversion
  v-conversion names inside here bracket first (subtype.Scalar s) as' l r = v-scalar_conversion names inside here bracket first s as' l r
  v-conversion names inside here bracket first (subtype.Composite n) as' l r = v-wrong_call W V names inside here first as' l r
