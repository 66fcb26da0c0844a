-- What is judged without a value has a fault: the rules of values and operators.
use Rattle.std.proofs.Common.{ℕ, ◌+◌, ◌≤◌, length, Option, Some, None, ℤ, Bool, true, false, if◌then◌else◌, arith}
use Rattle.std.proofs.lemmas.Grind.{common_steps}
use Rattle.ada_base.specs.declared.operation.Op.{Op}
use Rattle.typed_tree.specs.Decoded.{TypedPart}
use Rattle.typed_tree.specs.Syntax.{Expr, Selections}
use Rattle.ada_base.specs.declared.operation.Comparison.{Comparison}
use Rattle.name_rules.specs.Found.{Found}
use Rattle.name_rules.specs.Judging.{Judging, ◌>>=◌, given, both, fault, some}
use Rattle.name_rules.specs.Types.{same, is_integer, in_base}
use Rattle.name_rules.specs.Values as v
use Rattle.name_rules.specs.Operators as o
use Rattle.name_rules.specs.declared.found.Found.{Found as Known}
use Rattle.name_rules.specs.declared.found.Found.TheVariants as known
use Rattle.name_rules.specs.declared.found.Limits.{Limits}
use Rattle.name_rules.specs.declared.found.ObjectName.{ObjectName}
use Rattle.name_rules.specs.declared.log.Log.{Log}
use Rattle.name_rules.specs.declared.log.Rule.{Rule}
use Rattle.name_rules.specs.declared.types.Kind.{Kind}
use Rattle.name_rules.specs.declared.types.Scalar.{Scalar}
use Rattle.name_rules.specs.declared.types.Subtype.{Subtype}
use Rattle.name_rules.specs.declared.types.Subtype.TheVariants as subtype

-- how many faults there are
abbrev pub count : Log → ℕ
count log = length log.faults

-- no value, so a fault more; and no fault is taken back
abbrev pub lacks : {A : Type 0} → Option A → ℕ
lacks None = 1
lacks (Some a) = 0

abbrev pub SoundAt : {A : Type 0} → Log → Option A × Log → Type 0
SoundAt old r = count old + lacks r.0 ≤ count r.1

pub record Sound {A : Type 0} (p : Judging (Option A)) : Type 0 where
  pub says : (log : Log) → SoundAt log (p log)

-- ---- the words of judging

pub sound-some : {A : Type 0} (a : A) → Sound (some a)
sound-some a = record { says = λ log. grind arith }

pub sound-fault : (A : Type 0) (at : ℕ) (rule : Rule) → Sound (fault {A = A} at rule)
sound-fault A at rule = record { says = λ log. grind (arith, common_steps) }

pub sound-if : {A : Type 0} (b : Bool) (p q : Judging (Option A)) → Sound p → Sound q → Sound (if b then p else q)
sound-if true p q h k = h
sound-if false p q h k = k

given-at : {A B : Type 0} (x : Option A) (f : A → Judging (Option B)) (old mid : Log) → SoundAt old (x, mid) → ((a : A) → Sound (f a)) → SoundAt old (given x f mid)
given-at None f old mid h k = h
given-at (Some a) f old mid h k = let e = (k a).says mid in grind (arith, h, e)

pub sound-given : {A B : Type 0} (p : Judging (Option A)) (f : A → Judging (Option B)) → Sound p → ((a : A) → Sound (f a)) → Sound (p >>= λ x. given x f)
sound-given p f h k = record { says = λ log. given-at (p log).0 f log (p log).1 (h.says log) k }

both-at : {A B C : Type 0} (x : Option A) (y : Option B) (f : A → B → Judging (Option C)) (l0 l1 l2 : Log) → SoundAt l0 (x, l1) → SoundAt l1 (y, l2) → ((a : A) (b : B) → Sound (f a b)) → SoundAt l0 (both x y f l2)
both-at None y f l0 l1 l2 h k m = grind (arith, h, k)
both-at (Some a) None f l0 l1 l2 h k m = grind (arith, h, k)
both-at (Some a) (Some b) f l0 l1 l2 h k m = let e = (m a b).says l2 in grind (arith, h, k, e)

pub sound-both : {A B C : Type 0} (p : Judging (Option A)) (q : Judging (Option B)) (f : A → B → Judging (Option C)) → Sound p → Sound q → ((a : A) (b : B) → Sound (f a b)) → Sound (p >>= λ x. q >>= λ y. both x y f)
sound-both p q f h k m = record { says = λ log. both-at (p log).0 (q (p log).1).0 f log (p log).1 (q (p log).1).1 (h.says log) (k.says (p log).1) m }

-- ---- values

pub sound-valued : (k : Kind) (first : ℕ) (z : ℤ) (b : Bool) (ms : TypedPart) → Sound (v.valued k first z b ms)
unfolding v.valued
sound-valued k first z b ms = sound-if (in_base k z) _ _ (sound-some _) (sound-fault _ first _)

settled-by : (k : Kind) (e : Expr) (at : Option ℕ) → Sound (v.settled_by k e at)
settled-by k e None = sound-some _
settled-by k e (Some at) = sound-fault _ at _

pub sound-settled : (k : Kind) (l : Limits) (e : Expr) → Sound (v.settled k l e)
unfolding v.settled
sound-settled k l e = settled-by k e (v.beyond k l e)

object_value : (k : Kind) (p : ObjectName) (ss : Selections) (s : Scalar) (z : Option ℤ) → Sound (v.object_value k p ss s z)
object_value k p ss s None = sound-some _
object_value k p ss s (Some z) = sound-valued k p.first z false _

place_asked : (k : Kind) (p : ObjectName) (ss : Selections) (s : Subtype) → Sound (v.place_asked k p ss s)
place_asked k p ss (subtype.Scalar s) = sound-if (same s.kind k) _ _ (object_value k p ss s p.value) (sound-fault _ p.first _)
place_asked k p ss (subtype.Composite n) = sound-fault _ p.first _

asked-form : (k : Kind) (f : Known) (x : TypedPart) → Sound (v.asked_form k f x)
asked-form k (known.Universal first z alone) x = sound-if (is_integer k) _ _ (sound-valued k first z alone _) (sound-fault _ first _)
asked-form k (known.Open first l) x = sound-if (is_integer k) _ _ (sound-settled k l _) (sound-fault _ first _)
asked-form k (known.Static first j z) x = sound-if (same j k) _ _ (sound-valued k first z false _) (sound-fault _ first _)
asked-form k (known.Object p) x = place_asked k p _ p.subtype
asked-form k (known.Scalar first j n) x = sound-if (same j k) _ _ (sound-some _) (sound-fault _ first _)
asked-form k (known.Composite first n) x = sound-fault _ first _
asked-form k (known.Rest first) x = sound-fault _ first _
asked-form k (known.Text first) x = sound-fault _ first _

pub sound-asked : (k : Kind) (f : Found) → Sound (v.asked k f)
unfolding v.asked
sound-asked k f = asked-form k f.known f.part

-- ---- operators

pub sound-operation_on : (p : Op) (at : ℕ) (k j : Kind) (a b : Found) → Sound (o.operation_on p at k j a b)
unfolding o.operation_on
sound-operation_on p at k j a b = sound-both (v.asked k a) (v.asked j b) _ (sound-asked k a) (sound-asked j b) (λ m n. sound-some _)

pub sound-compared_at : (k : Kind) (c : Comparison) (a b : Found) → Sound (o.compared_at k c a b)
unfolding o.compared_at
sound-compared_at k c a b = sound-both (v.asked k a) (v.asked k b) _ (sound-asked k a) (sound-asked k b) (λ m n. sound-some _)

pub sound-static_of : (first : ℕ) (k : Kind) (ms : TypedPart) (z : Option ℤ) → Sound (o.static_of first k ms z)
unfolding o.static_of
sound-static_of first k ms None = sound-fault _ first _
sound-static_of first k ms (Some z) = sound-if (in_base k z) _ _ (sound-some _) (sound-fault _ first _)

pub sound-static_universal : (first : ℕ) (ms : TypedPart) (z : Option ℤ) → Sound (o.static_universal first ms z)
unfolding o.static_universal
sound-static_universal first ms None = sound-fault _ first _
sound-static_universal first ms (Some z) = sound-some _
