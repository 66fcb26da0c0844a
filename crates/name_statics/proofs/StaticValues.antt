-- The static value of an expression is that of its text, at every level of brackets.
use Rattle.name_rules.specs.Aggregates.{ByPosition, contents}
use Rattle.name_rules.specs.Attributes.{alone}
use Rattle.name_rules.specs.Expressions.{Inside, expr}
use Rattle.syntax_tree.specs.FirstTokens as first_token
use Rattle.name_rules.specs.Found.{Found, opened, scalar, static}
use Rattle.name_rules.specs.Parts.{value_named}
use Rattle.name_rules.specs.Symbols.{number}
use Rattle.name_rules.specs.Values.{asked, composite_asked, kind_of, mentions_of, value_of}
use Rattle.name_rules.specs.declared.found.Found.TheVariants as known
use Rattle.name_rules.specs.declared.found.Found.{Found as Known}
use Rattle.name_rules.specs.declared.log.Bound.TheVariants as bound
use Rattle.name_rules.specs.declared.log.Rule.TheVariants.{Limit, NotVisible, WrongType}
use Rattle.name_rules.specs.declared.scope.Context.{Context}
use Rattle.name_rules.specs.declared.scope.Names.{Names}
use Rattle.name_rules.specs.declared.scope.Target.TheVariants as target
use Rattle.name_rules.specs.declared.scope.Target.{Target}
use Rattle.name_rules.specs.declared.types.Kind.{Kind}
use Rattle.name_rules.specs.declared.types.Subtype.TheVariants as subtype
use Rattle.name_rules.specs.declared.types.Wanted.TheVariants as wanted
use Rattle.name_rules.specs.declared.types.Wanted.{Wanted}
use Rattle.syntax_tree.specs.Syntax as syntax
use Rattle.syntax_tree.specs.Syntax.{Elsifs, Expr, Primary}
use Rattle.typed_tree.specs.Syntax as typed
use Rattle.std.specs.Prelude.{List, None, Option, Some, false, suc, true, zero, ℕ, ℤ}
use Rattle.typed_tree.specs.Decoded.{TypedPart, as_expr}
use Rattle.std.proofs.Common.{◌≡◌, refl, sym, subst, true≢false}
use Rattle.std.specs.Prelude.{is_some}
use Rattle.name_rules.specs.Primaries as primaries
use Rattle.name_rules.specs.Primaries.{composite_in, no_text, grouped, grouped_by, grouped_form, grouped_scalar, primary, target_at, target_found, text_at, with_known}
use Rattle.name_rules.specs.Values.{is_scalar}
use Rattle.name_rules.specs.declared.log.Log.{Log}
use Rattle.name_rules.specs.declared.log.Shape.{Shape}
use Rattle.name_laws.proofs.KeepsPrimaries.{k-grouped, k-inside, k-level_above, k-primary}
use Rattle.name_laws.proofs.Walk.{k-fault}
use Rattle.name_rules.specs.declared.types.Subtype.{Subtype}
use Rattle.name_rules.specs.Judging.{Judging, fault, given, some, pure, ◌>>=◌}
use Rattle.name_rules.specs.declared.log.Rule.TheVariants.{WrongType}
use Rattle.typed_tree.specs.Decoded as part
use Rattle.syntax_tree.specs.Syntax.{Simple}
use Rattle.typed_tree.specs.Syntax.{Selections}
use Rattle.name_rules.specs.Declarations.{Initial, indicated, initial, initial_value, static_number}
use Rattle.name_rules.specs.Expressions.{simple}
use Rattle.name_rules.specs.Judging.{joined}
use Rattle.name_rules.specs.TypedParts.{selections_of}
use Rattle.name_rules.specs.Types.{check_at, same, wanted_of}
use Rattle.name_rules.specs.Values.{asked_form, first_of, is_number, kind_in, object_value, place_asked, place_scalar, static_integer, static_value, stored}
use Rattle.name_rules.specs.declared.found.ObjectName.{ObjectName}
use Rattle.name_rules.specs.declared.log.Rule.TheVariants.{NotStatic}
use Rattle.name_rules.specs.declared.types.Scalar.{Scalar}
use Rattle.name_laws.proofs.KeepsValues.{k-stored}
use Rattle.name_laws.proofs.Walk.{Keeps, k-bind, k-given, k-pure}
use Rattle.name_statics.proofs.Operations.{number-scalar}
use Rattle.name_statics.proofs.ExpressionValues.{LevelTells, t-expr, t-placed, t-simple, there}
use Rattle.name_statics.proofs.Finds.{Finding, Finds, Is, Maybe, Tells, f-bind, f-fault, f-given, f-given-of, f-if, f-none, f-pure, f-some, f-then, mapped, t-bind, t-given, t-of, t-pure, FindingWith, Has, IsWith, has}
use Rattle.name_statics.proofs.NameValues.{t-value_named}
use Rattle.name_statics.proofs.Operations.{Leaves, f-asked}
use Rattle.name_statics.proofs.Same.{same_self, walk}
use Rattle.name_statics.proofs.Unvalued.{f-aggregate, f-if_expr, f-sequence}
use Rattle.name_statics.specs.Law.{StaticValuesLaw, around, static_in}
use Rattle.name_statics.specs.Values.{expr_value, name_value, primary_value, simple_value, expr_bound, simple_bound, primary_bound, name_bound, left_value}

-- ---- brackets

f-grouped_scalar : (v : Option ℤ) (bracket : ℕ) (f : Found) (k : Option Kind) (n : Option ℕ) → (is_some k ≡ true → None ≡ v) → Finds (Finding v) (grouped_scalar bracket f k n)
f-grouped_scalar v bracket f (Some k) n h = f-then (Finding v) (asked k f) _ (λ x. f-given (Is v) x _ (λ e. f-some (Is v) (scalar bracket k None (typed.Group (as_expr e))) (record { value = λ t. h refl; bare = refl })))
f-grouped_scalar v bracket f None (Some n) h = f-then (Finding v) (composite_asked n f) _ (λ c. f-pure (Finding v) _ (mapped (Is v) (with_known (known.Composite bracket n)) c (λ x. record { value = λ t. absurd (true≢false (sym t)); bare = refl })))
f-grouped_scalar v bracket f None None h = f-none (Is v)

f-grouped_by : (v : Option ℤ) (bracket : ℕ) (f : Found) (k : Option Kind) (z : Option ℤ) → (is_some k ≡ true → z ≡ v) → Finds (Finding v) (grouped_by bracket f k z)
f-grouped_by v bracket f (Some k) (Some z) h = f-some (Is v) (static bracket k z (mentions_of f)) (record { value = λ t. h refl; bare = refl })
f-grouped_by v bracket f (Some k) None h = f-grouped_scalar v bracket f (Some k) (composite_in f.known) h
f-grouped_by v bracket f None z h = f-grouped_scalar v bracket f None (composite_in f.known) (λ t. absurd (true≢false (sym t)))

f-grouped_form : (v : Option ℤ) (bracket : ℕ) (f : Known) (x : TypedPart) → (is_scalar f ≡ true → value_of f ≡ v) → Finds (Finding v) (grouped_form bracket f x)
f-grouped_form v bracket (known.Universal first z alone) x h = f-some (Is v) (with_known (known.Universal bracket z false) x) (record { value = λ t. h refl; bare = refl })
f-grouped_form v bracket (known.Open first l) x h = f-some (Is v) (opened bracket l (typed.Group (as_expr x))) (record { value = λ t. h refl; bare = λ c. refl })
f-grouped_form v bracket (known.Text first) x h = f-some (Is v) (with_known (known.Text bracket) x) (record { value = λ t. absurd (true≢false (sym t)); bare = refl })
f-grouped_form v bracket f x h = f-grouped_by v bracket (with_known f x) (kind_of f) (value_of f) h

f-grouped : (v : Option ℤ) (bracket : ℕ) (f : Found) → Has v f → Finds (Finding v) (grouped bracket f)
unfolding grouped
f-grouped v bracket f h = f-grouped_form v bracket f.known f.part h

-- ---- `@` and strings

f-target_at : (at : ℕ) (t : Target) → Finds (Finding None) (target_at at t)
f-target_at at target.Nothing = f-fault (Is None) at NotVisible
f-target_at at target.Faulty = f-none (Is None)
f-target_at at (target.Of (subtype.Scalar s)) = f-some (Is None) (target_found at (subtype.Scalar s)) (record { value = λ t. refl; bare = refl })
f-target_at at (target.Of (subtype.Composite n)) = f-some (Is None) (target_found at (subtype.Composite n)) (record { value = λ t. refl; bare = refl })

f-text_at : (names : Names) (at : ℕ) (want : Wanted) → Finds (Finding None) (text_at names at want)
f-text_at names at wanted.Text = f-some (Is None) _ (record { value = λ t. refl; bare = refl })
f-text_at names at want = f-fault (Is None) at WrongType

-- ---- primaries, at every level of brackets

t-primary : (shapes : List Shape) (names : Names) (level : Inside) (here : Context) (p : Primary) (want : Wanted) → LevelTells shapes names level → Tells shapes (FindingWith (primary_value (there names here shapes) p) (primary_bound (there names here shapes) p)) (primary names level here p want)
unfolding primary
t-primary shapes names level here (syntax.Number at) want l = t-pure shapes (Finding (Some (number names at))) _ (record { value = λ t. refl; bare = refl })
t-primary shapes names level here (syntax.Named x) want l =
    let v = name_value (there names here shapes) x in
    let b = name_bound (there names here shapes) x in
    t-bind shapes (FindingWith v b) (FindingWith v b) (value_named names level here x) _ (t-value_named shapes names level here x l) (λ f q. t-placed shapes v b want f q)
t-primary shapes names level here (syntax.Group bracket e) want l =
    let v = expr_value (there names here shapes) e in
    let b = expr_bound (there names here shapes) e in
    t-bind shapes (FindingWith v b) (Finding v) (expr names level here want e) _ (t-expr shapes names level here want e l) (λ f q.
    t-given shapes (Has v) (Is v) f (grouped bracket) (has v b f q) (λ g s. t-of shapes (Finding v) (grouped bracket g) (k-grouped walk bracket g) (f-grouped v bracket g s)))
t-primary shapes names level here (syntax.Text at) want l = t-of shapes (Finding None) _ (k-primary walk names level here (syntax.Text at) want tt l.keeps) (f-text_at names at want)
t-primary shapes names level here (syntax.Target at) want l = t-of shapes (Finding None) _ (k-primary walk names level here (syntax.Target at) want tt l.keeps) (f-target_at at here.target)
t-primary shapes names level here (syntax.If bracket at c v more o) want l = t-of shapes (Finding None) _ (k-primary walk names level here (syntax.If bracket at c v more o) want tt l.keeps) (f-if_expr names level here (no_text want) bracket c v more o)
t-primary shapes names level here (syntax.Round bracket many) want l = t-of shapes (Finding None) _ (k-primary walk names level here (syntax.Round bracket many) want tt l.keeps) (f-aggregate names level here want bracket (contents many))
t-primary shapes names level here (syntax.Square bracket many) want l = t-of shapes (Finding None) _ (k-primary walk names level here (syntax.Square bracket many) want tt l.keeps) (f-aggregate names level here want bracket (contents many))
t-primary shapes names level here (syntax.OneValue bracket e) want l =
    t-of shapes (Finding None) _ (k-primary walk names level here (syntax.OneValue bracket e) want tt l.keeps) (f-aggregate names level here want bracket (ByPosition (syntax.AlsoExpr e syntax.NoExpr) syntax.AbsentExpr))
t-primary shapes names level here (syntax.Reduction bracket p at i v a r o) want l =
    t-of shapes (Finding None) _ (k-primary walk names level here (syntax.Reduction bracket p at i v a r o) want tt l.keeps) (f-sequence names level here bracket p i v a r o)

level-tells : (shapes : List Shape) (names : Names) (level : Inside) → LevelTells shapes names level → LevelTells shapes names (primaries.level_above names level)
level-tells shapes names level l = record { keeps = k-level_above walk names level tt l.keeps; primary = λ here p want. t-primary shapes names level here p want l }

inside-tells : (shapes : List Shape) (names : Names) (n : ℕ) → LevelTells shapes names (primaries.inside names n)
unfolding primaries.inside
inside-tells shapes names zero = record {
  keeps = k-inside walk names zero tt;
  primary = λ here p want. t-of shapes (FindingWith (primary_value (there names here shapes) p) (primary_bound (there names here shapes) p)) _ (k-fault walk (first_token.of_primary p) (Limit bound.Levels)) (f-fault (IsWith (primary_value (there names here shapes) p) (primary_bound (there names here shapes) p)) (first_token.of_primary p) (Limit bound.Levels));
}
inside-tells shapes names (suc n) = level-tells shapes names (primaries.inside names n) (inside-tells shapes names n)

-- ---- the law

found : (names : Names) (n : ℕ) (here : Context) (want : Wanted) (e : Expr) (log : Log) (f : Found) → (expr names (primaries.inside names n) here want e log).0 ≡ Some f → IsWith (expr_value (around names here log) e) (expr_bound (around names here log) e) f
found names n here want e log f g =
    let v = expr_value (around names here log) e in
    let b = expr_bound (around names here log) e in
    subst (FindingWith v b) g ((t-expr log.shapes names (primaries.inside names n) here want e (inside-tells log.shapes names n)).at log (same_self log.shapes)).1

left : (names : Names) (n : ℕ) (here : Context) (want : Wanted) (e : Expr) (log mid : Log) (f : Found) (k : Kind) (x : TypedPart) → (expr names (primaries.inside names n) here want e log).0 ≡ Some f → (asked k f mid).0 ≡ Some x
    → static_in (as_expr x) ≡ left_value k (expr_value (around names here log) e) (expr_bound (around names here log) e)
left names n here want e log mid f k x g h =
    let v = expr_value (around names here log) e in
    let b = expr_bound (around names here log) e in
    subst (Maybe (Leaves (left_value k v b))) h ((f-asked k f v b (found names n here want e log f g)).at mid)

bound-found : (names : Names) (n : ℕ) (here : Context) (want : Wanted) (e : Simple) (log : Log) (f : Found) → (simple (primaries.inside names n) here want e log).0 ≡ Some f → IsWith (simple_value (around names here log) e) (simple_bound (around names here log) e) f
bound-found names n here want e log f g =
    let v = simple_value (around names here log) e in
    let b = simple_bound (around names here log) e in
    subst (FindingWith v b) g ((t-simple log.shapes names (primaries.inside names n) here want e (inside-tells log.shapes names n)).at log (same_self log.shapes)).1

left-bound : (names : Names) (n : ℕ) (here : Context) (want : Wanted) (e : Simple) (log mid : Log) (f : Found) (k : Kind) (x : TypedPart) → (simple (primaries.inside names n) here want e log).0 ≡ Some f → (asked k f mid).0 ≡ Some x
    → static_in (as_expr x) ≡ left_value k (simple_value (around names here log) e) (simple_bound (around names here log) e)
left-bound names n here want e log mid f k x g h =
    let v = simple_value (around names here log) e in
    let b = simple_bound (around names here log) e in
    subst (Maybe (Leaves (left_value k v b))) h ((f-asked k f v b (bound-found names n here want e log f g)).at mid)

-- ---- declarations

-- what takes a type is a scalar
f-scalar_asked : (k : Kind) (f : Found) → Finds (Maybe (λ x. is_scalar f.known ≡ true)) (asked k f)
unfolding asked
f-scalar_asked k f = by f.known f.part
  where
    Scalars : Known → TypedPart → Type 0
    Scalars g x = is_scalar g ≡ true

    is-true : (p : Judging (Option TypedPart)) → Finds (Maybe (λ (x : TypedPart). true ≡ true)) p
    is-true p = record { at = λ log. every (p log).0 }
      where
        every : (x : Option TypedPart) → Maybe (λ (y : TypedPart). true ≡ true) x
        every None = tt
        every (Some y) = refl

    object : (p : ObjectName) (ss : Selections) (s : Subtype) → Finds (Maybe (λ x. is_some (kind_in (place_scalar s)) ≡ true)) (place_asked k p ss s)
    object p ss (subtype.Scalar s) = f-if (Maybe (λ x. is_some (kind_in (place_scalar (subtype.Scalar s))) ≡ true)) (same s.kind k) (object_value k p ss s p.value) (fault p.first WrongType) (λ e. is-true (object_value k p ss s p.value)) (f-fault (λ x. is_some (kind_in (place_scalar (subtype.Scalar s))) ≡ true) p.first WrongType)
    object p ss (subtype.Composite m) = f-fault (λ x. is_some (kind_in (place_scalar (subtype.Composite m))) ≡ true) p.first WrongType

    by : (g : Known) (x : TypedPart) → Finds (Maybe (Scalars g)) (asked_form k g x)
    by (known.Object p) x = object p (selections_of x) p.subtype
    by (known.Universal first z alone) x = is-true (asked_form k (known.Universal first z alone) x)
    by (known.Open first l) x = is-true (asked_form k (known.Open first l) x)
    by (known.Static first j z) x = is-true (asked_form k (known.Static first j z) x)
    by (known.Scalar first j m) x = is-true (asked_form k (known.Scalar first j m) x)
    by (known.Composite first m) x = f-fault (Scalars (known.Composite first m)) first WrongType
    by (known.Rest first) x = f-fault (Scalars (known.Rest first)) first WrongType
    by (known.Text first) x = f-fault (Scalars (known.Text first)) first WrongType

abbrev Initially : Option ℤ → Initial → Type 0
Initially v i = i.value ≡ v

abbrev stores : Scalar → ℕ → TypedPart → Judging (Option TypedPart)
stores s at x = some (part.AValue (typed.Number (check_at at s) (as_expr x)))

f-stored : (v : Option ℤ) (s : Scalar) (at : ℕ) (f : Found) → Has v f → Finds (Maybe (λ x. value_of f.known ≡ v)) (stored (subtype.Scalar s) at f)
unfolding stored
f-stored v s at f h =
    f-bind (Maybe (λ x. is_scalar f.known ≡ true)) (Maybe (λ x. value_of f.known ≡ v)) (asked s.kind f) (λ e. given e (stores s at)) (f-scalar_asked s.kind f) (λ e q.
    f-given-of (λ x. is_scalar f.known ≡ true) (λ x. value_of f.known ≡ v) e (stores s at) q (λ x t. f-some (λ y. value_of f.known ≡ v) (part.AValue (typed.Number (check_at at s) (as_expr x))) (h t)))

t-initial : (shapes : List Shape) (names : Names) (level : Inside) (here : Context) (s : Scalar) (mentions : TypedPart) (e : Expr) → LevelTells shapes names level
    → Tells shapes (Maybe (Initially (expr_value (there names here shapes) e))) (initial names level here (Some (indicated mentions (subtype.Scalar s))) (Some e))
unfolding initial
t-initial shapes names level here s mentions e l =
    let v = expr_value (there names here shapes) e in
    let b = expr_bound (there names here shapes) e in
    t-bind shapes (FindingWith v b) (Maybe (Initially v)) (expr names level here (wanted_of (subtype.Scalar s)) e) _ (t-expr shapes names level here (wanted_of (subtype.Scalar s)) e l) (λ x q.
    t-of shapes (Maybe (Initially v)) _ (kept x) (found-stored v x (has v b x q)))
  where
    at : ℕ
    at = first_token.of_expr e

    rest : Option Found → Judging (Option Initial)
    rest x = given x (stored (subtype.Scalar s) at) >>= λ w. pure (joined initial_value w x)

    kept : (x : Option Found) → Keeps walk (rest x)
    kept x = k-bind walk (given x (stored (subtype.Scalar s) at)) _ (k-given walk x (stored (subtype.Scalar s) at) (λ f. k-stored walk (subtype.Scalar s) at f)) (λ w. k-pure walk (joined initial_value w x))

    initially : (v : Option ℤ) (f : Found) (w : Option TypedPart) → Maybe (λ x. value_of f.known ≡ v) w → Maybe (Initially v) (joined initial_value w (Some f))
    initially v f None q = tt
    initially v f (Some y) q = q

    nothing-stored : (v : Option ℤ) (w : Option TypedPart) → Maybe (Initially v) (joined initial_value w None)
    nothing-stored v None = tt
    nothing-stored v (Some y) = tt

    found-stored : (v : Option ℤ) (x : Option Found) → Maybe (Has v) x → Finds (Maybe (Initially v)) (rest x)
    found-stored v None q = f-then (Maybe (Initially v)) (given None (stored (subtype.Scalar s) at)) _ (λ w. f-pure (Maybe (Initially v)) _ (nothing-stored v w))
    found-stored v (Some f) q =
        f-bind (Maybe (λ x. value_of f.known ≡ v)) (Maybe (Initially v)) (stored (subtype.Scalar s) at f) _ (f-stored v s at f q) (λ w t. f-pure (Maybe (Initially v)) (joined initial_value w (Some f)) (initially v f w t))

constant-declared : (names : Names) (n : ℕ) (here : Context) (s : Scalar) (mentions : TypedPart) (e : Expr) (log : Log) (v : Initial)
    → (initial names (primaries.inside names n) here (Some (indicated mentions (subtype.Scalar s))) (Some e) log).0 ≡ Some v → v.value ≡ expr_value (around names here log) e
constant-declared names n here s mentions e log v g =
    let w = expr_value (around names here log) e in
    subst (Maybe (Initially w)) g ((t-initial log.shapes names (primaries.inside names n) here s mentions e (inside-tells log.shapes names n)).at log (same_self log.shapes)).1

f-static_number : (v : Option ℤ) (f : Found) → Has v f → Finds (Maybe (λ z. Some z ≡ v)) (static_number f)
unfolding static_integer
f-static_number v f h =
    f-if (Maybe (λ z. Some z ≡ v)) (is_number f.known) (static_value (first_of f.known) (value_of f.known)) (fault (first_of f.known) WrongType)
    (λ e. by (value_of f.known) (h (number-scalar f.known e))) (f-fault (λ z. Some z ≡ v) (first_of f.known) WrongType)
  where
    by : (w : Option ℤ) → w ≡ v → Finds (Maybe (λ z. Some z ≡ v)) (static_value (first_of f.known) w)
    by None e = f-fault (λ z. Some z ≡ v) (first_of f.known) NotStatic
    by (Some z) e = f-some (λ z. Some z ≡ v) z e

number-declared : (names : Names) (n : ℕ) (here : Context) (e : Expr) (log mid : Log) (f : Found) (z : ℤ) → (expr names (primaries.inside names n) here wanted.Other e log).0 ≡ Some f → (static_number f mid).0 ≡ Some z
    → Some z ≡ expr_value (around names here log) e
number-declared names n here e log mid f z g h =
    let v = expr_value (around names here log) e in
    subst (Maybe (λ y. Some y ≡ v)) h ((f-static_number v f (found names n here wanted.Other e log f g).value).at mid)

pub static_values_law : StaticValuesLaw
static_values_law = record {
  found = λ names n here want e log f g s. (found names n here want e log f g).value s;
  bounds = λ names n here want e log f g s. (bound-found names n here want e log f g).value s;
  left = left;
  left_bounds = left-bound;
  constants = constant-declared;
  numbers = number-declared;
}
