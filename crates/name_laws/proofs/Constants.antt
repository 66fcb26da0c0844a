-- Static values of objects lie in their subtypes.
use Rattle.std.proofs.Common.{◌≡◌, ℕ, ℤ, zero, suc, ◌+◌, List, [], ◌∷◌, ◌++◌, Option, Some, None, Bool, true, false, refl, sym, ap, subst, ◌∙◌, ◌⊎◌, inl, inr, slice_get, int_le, nat_le, nat_lt, ◌==◌, map, option_map, ◌&&◌}
use Rattle.std.proofs.lemmas.Bool.{and_parts}
use Rattle.std.proofs.lemmas.Option.{slice_get-map}
use Rattle.std.specs.Prelude.{not, ◌||◌}
use Rattle.syntax_tree.specs.Syntax.{Program}
use Rattle.typed_tree.specs.Syntax as typed
use Rattle.typed_tree.specs.declared.program.Object.{Object}
use Rattle.typed_tree.specs.declared.scalars.Class.TheVariants as class
use Rattle.name_rules.specs.Declarations.{cells_counted}
use Rattle.name_rules.specs.Judging.{unless}
use Rattle.syntax_tree.specs.Parsed.{depth_limit}
use Rattle.name_rules.specs.Resolved.{fresh, judged, typed_subtype}
use Rattle.name_rules.specs.Types.{class_of, is_integer, lies_in, saturated, typed_scalar, is_modular, kept}
use Rattle.name_rules.specs.Limits.{most_cells, most_objects}
use Rattle.name_rules.specs.declared.log.Bound.TheVariants as bound
use Rattle.name_rules.specs.declared.log.Log.{Log}
use Rattle.name_rules.specs.declared.log.Rule.{Rule}
use Rattle.name_rules.specs.declared.log.Rule.TheVariants.{Limit}
use Rattle.name_rules.specs.declared.log.Shape.{Shape}
use Rattle.name_rules.specs.declared.log.Shape.TheVariants as shape
use Rattle.name_rules.specs.declared.scope.Names.{Names}
use Rattle.name_rules.specs.declared.types.Kind.{Kind}
use Rattle.name_rules.specs.declared.types.Kind.TheVariants as kind
use Rattle.name_rules.specs.declared.types.Scalar.{Scalar}
use Rattle.name_rules.specs.declared.types.Subtype.{Subtype}
use Rattle.name_rules.specs.declared.types.Subtype.TheVariants as subtype
use Rattle.name_laws.proofs.Fitting.{Fits, IsNumber}
use Rattle.name_laws.proofs.KeepsPrograms.{k-program}
use Rattle.name_laws.proofs.Lying.{typed-from}
use Rattle.name_laws.proofs.Walk.{Wide}
use Rattle.name_laws.specs.Constants.{ConstantsLaw, IsConstantIn}

-- what is known of an object with a static value
pub record Holds (shapes : List Shape) (o : Object) (z : ℤ) : Type 0 where
  pub constant : o.constant ≡ true
  pub scalar : Scalar
  pub at : slice_get shapes o.subtype ≡ Some (shape.Scalar scalar)
  pub integer : is_integer scalar.kind ≡ true
  pub plain : is_modular scalar.kind ≡ false
  pub lies : lies_in scalar z ≡ true

abbrev pub AllHold : Log → Type 0
AllHold log = (i : ℕ) (o : Object) (z : ℤ) → slice_get log.objects i ≡ Some o → o.value ≡ Some z → Holds log.shapes o z

-- subtypes stay, and what holds goes on holding
pub record Grows (a b : Log) : Type 0 where
  pub shapes : (n : ℕ) (t : Shape) → slice_get a.shapes n ≡ Some t → slice_get b.shapes n ≡ Some t
  pub holds : AllHold a → AllHold b

get-kept : {A : Type 0} (xs : List A) (x : A) (i : ℕ) (y : A) → slice_get xs i ≡ Some y → slice_get (xs ++ x ∷ []) i ≡ Some y
get-kept [] x i y e = absurd cc
get-kept (a ∷ xs) x zero y e = e
get-kept (a ∷ xs) x (suc i) y e = get-kept xs x i y e

pub get-either : {A : Type 0} (xs : List A) (x : A) (i : ℕ) (y : A) → slice_get (xs ++ x ∷ []) i ≡ Some y → (slice_get xs i ≡ Some y) ⊎ (x ≡ y)
get-either [] x zero y e = inr cc
get-either [] x (suc i) y e = absurd cc
get-either (a ∷ xs) x zero y e = inl e
get-either (a ∷ xs) x (suc i) y e = get-either xs x i y e

-- a log with the same subtypes and objects
alike : (a b : Log) → a.shapes ≡ b.shapes → a.objects ≡ b.objects → Grows a b
alike a b e f = record {
  shapes = λ n t g. ap (λ s. slice_get s n) (sym e) ∙ g;
  holds = λ h i o z g v. let x = h i o z (ap (λ s. slice_get s i) f ∙ g) v in record { constant = x.constant; scalar = x.scalar; at = ap (λ s. slice_get s o.subtype) (sym e) ∙ x.at; integer = x.integer; plain = x.plain; lies = x.lies };
}

more-shapes : (t : Shape) (a : Log) → Grows a (record a { shapes = a.shapes ++ t ∷ [] })
more-shapes t a = record {
  shapes = λ n u g. get-kept a.shapes t n u g;
  holds = λ h i o z g v. let x = h i o z g v in record { constant = x.constant; scalar = x.scalar; at = get-kept a.shapes t o.subtype (shape.Scalar x.scalar) x.at; integer = x.integer; plain = x.plain; lies = x.lies };
}

value-holds : (shapes : List Shape) (o : Object) (s : Subtype) (log : Log) → log.shapes ≡ shapes → (value : Option ℤ) (constant : Bool) → o.constant ≡ constant → IsNumber s o.subtype log → Fits s constant value
    → (z : ℤ) → value ≡ Some z → Holds shapes o z
value-holds shapes o (subtype.Scalar s) log e (Some y) constant c n f z v =
    let same : y ≡ z = cc in
    record { constant = c ∙ f.0; scalar = s; at = ap (λ t. slice_get t o.subtype) (sym e) ∙ n; integer = f.1.0; plain = f.1.1; lies = ap (lies_in s) (sym same) ∙ f.2 }
value-holds shapes o (subtype.Composite m) log e (Some y) constant c n f z v = absurd f
value-holds shapes o s log e None constant c n f z v = absurd cc

more-objects : (new : Object) (s : Subtype) (a : Log) → IsNumber s new.subtype a → Fits s new.constant new.value → Grows a (record a { objects = a.objects ++ new ∷ [] })
more-objects new s a n f = record {
  shapes = λ k t g. g;
  holds = λ h i o z g v. by-either h i o z (get-either a.objects new i o g) v;
}
  where
    by-either : AllHold a → (i : ℕ) (o : Object) (z : ℤ) → (slice_get a.objects i ≡ Some o) ⊎ (new ≡ o) → o.value ≡ Some z → Holds a.shapes o z
    by-either h i o z (inl g) v = h i o z g v
    by-either h i o z (inr e) v = subst (λ x. Holds a.shapes x z) e (value-holds a.shapes new s a refl new.value new.constant refl n f z (ap (λ x. x.value) e ∙ v))

unless-grows : (b : Bool) (at : ℕ) (rule : Rule) (log : Log) → Grows log (unless b at rule log).1
unless-grows true at rule log = alike log log refl refl
unless-grows false at rule log = alike log _ refl refl

joined-grows : (a b c : Log) → Grows a b → Grows b c → Grows a c
joined-grows a b c f g = record { shapes = λ n t e. g.shapes n t (f.shapes n t e); holds = λ h. g.holds (f.holds h) }

counted-grows : (token cells : ℕ) (log : Log) → Grows log (cells_counted token cells log).1
counted-grows token cells log =
    let all = saturated (log.cells + cells) in
    let now = record log { declared = log.declared + 1; cells = all } in
    let mid = (unless (not (log.declared == most_objects)) token (Limit bound.Objects) now).1 in
    joined-grows log now _ (alike log now refl refl)
    (joined-grows now mid _ (unless-grows (not (log.declared == most_objects)) token (Limit bound.Objects) now) (unless-grows (nat_lt most_cells log.cells || nat_le all most_cells) token (Limit bound.Cells) mid))

growing : Wide
growing = record {
  walk = record {
    Takes = λ names. Unit {0};
    R = Grows;
    stays = λ log. alike log log refl refl;
    joins = joined-grows;
    breaks = λ at rule log. alike log _ refl refl;
    scalar = λ s log. more-shapes (shape.Scalar s) log;
    counted = counted-grows;
    exception = λ token log. alike log _ refl refl;
    site = λ here at k log. alike log _ refl refl;
    parameter = λ log. alike log _ refl refl;
    loop = λ log. alike log _ refl refl;
  };
  shape = more-shapes;
  object = λ names here token s n cells constant value e f log i. more-objects _ s log i f;
}

all-hold : (names : Names) (text : Program) → AllHold (judged names text).1
unfolding judged growing
all-hold names text =
    (((k-program growing names depth_limit text tt (record { profile = λ ts s log. alike log _ refl refl })).at fresh).holds) (λ i o z g v. absurd cc)

-- ---- the law

not-boolean : (k : Kind) → is_integer k ≡ true → class_of k ≡ class.Boolean → ⊥
not-boolean kind.Boolean e f = absurd cc
not-boolean kind.Integer e f = absurd cc
not-boolean (kind.Own n) e f = absurd cc
not-boolean (kind.Modular n k) e f = absurd cc

plain-lies : (k : Kind) (low high z : ℤ) → is_modular k ≡ false → (int_le (kept k low) z && int_le z (kept k high)) ≡ true → (int_le low z && int_le z high) ≡ true
plain-lies kind.Boolean low high z e h = h
plain-lies kind.Integer low high z e h = h
plain-lies (kind.Own n) low high z e h = h
plain-lies (kind.Modular n k) low high z e h = absurd cc

of-log : (log : Log) (program : typed.Program) (o : Object) (z : ℤ) → program.subtypes ≡ map typed_subtype log.shapes → Holds log.shapes o z → IsConstantIn program o z
of-log log program o z e h =
    let parts = and_parts (int_le h.scalar.low z) (int_le z h.scalar.high) (plain-lies h.scalar.kind h.scalar.low h.scalar.high z h.plain h.lies) in
    record {
      constant = h.constant;
      scalar = typed_scalar h.scalar;
      subtype = ap (λ s. slice_get s o.subtype) e ∙ slice_get-map typed_subtype log.shapes o.subtype ∙ ap (option_map typed_subtype) h.at;
      integer = not-boolean h.scalar.kind h.integer;
      low = parts.0;
      high = parts.1;
    }

pub constants_law : ConstantsLaw
constants_law names text program typed i o z g v =
    let r = typed-from (judged names text).1.faults (judged names text).1 (judged names text).0 program typed in
    of-log (judged names text).1 program o z (ap (λ t. t.subtypes) (sym r.2)) (all-hold names text i o z (ap (λ t. slice_get t.objects i) r.2 ∙ g) v)
