-- Parts that are repeated in a body: what is inside runs with one more round, and is left as the body is.
use Rattle.std.proofs.Common.{◌≡◌, ℕ, List, [], ◌∷◌, Option, Some, None, Bool, true, false, refl, sym, subst}
use Rattle.ada_base.specs.declared.reason.Reason.{Reason}
use Rattle.behaviours.specs.Paths.{Exits, Returns, Raises, Entity, VariableOf, ConstantOf}
use Rattle.ada_meaning.specs.Stored.{Stored}
use Rattle.ada_meaning.specs.Meaning.{Env}
use Rattle.stack_code.specs.declared.code.Code.{Code}
use Rattle.stack_code.specs.declared.path.Round.{Round}
use Rattle.stack_code.specs.Machine.{Frame}
use Rattle.ada_lower.specs.Driven.{Dyn, Fixed, Step, thrown, passed_on}
use Rattle.ada_lower.specs.Sights.{Named, Sight, Where}
use Rattle.ada_lower.specs.Fits.{Ghost, Ends, Leads, Refers, Knows}
use Rattle.ada_lower.proofs.Framework.{To, Doing, comes_here}
use Rattle.ada_lower.proofs.ForkInside.{LeftAs, does_inside}

-- with other parts that are repeated
abbrev pub with_rounds : List Round → Fixed → Fixed
with_rounds rs f = record f { rounds = rs }

leads_rounds : (rs : List Round) (t : Bool) (g : Ghost) (f : Fixed) (w : Where) (b : ℕ) → Leads t g f w b → Leads t g (with_rounds rs f) w b
leads_rounds rs true g f w b l = l
leads_rounds rs false g f w b l = l

refers_rounds : (rs : List Round) (g : Ghost) (f : Fixed) (n : Named) (y : Entity) (first : ℕ) → Refers g f n y first → Refers g (with_rounds rs f) n y first
refers_rounds rs g f n y first r = record { address = r.address; leads = leads_rounds rs n.through g f n.place r.address r.leads; spread = r.spread }

pub knows_rounds : {limit : ℕ} {cuts : ℕ → ℕ → List ℕ} {g : Ghost} {f : Fixed} {s : Sight} {env : Env} (rs : List Round) → Knows limit cuts g f s env → Knows limit cuts g (with_rounds rs f) s env
knows_rounds {g = g} {f = f} {env = env} rs k = record {
  most = k.most;
  nested = k.nested;
  plan = k.plan;
  kept = k.kept;
  top = k.top;
  beyond = k.beyond;
  global = k.global;
  outside = k.outside;
  one = k.one;
  old = k.old;
  hidden = k.hidden;
  parameter = k.parameter;
  handled = k.handled;
  free = k.free;
  object = λ y n e. refers_rounds rs g f n y 0 (k.object y n e);
  item = λ j n e. refers_rounds rs g f n (VariableOf (env.item j).object) (env.item j).offset (k.item j n e);
  constant_item = λ j n e. refers_rounds rs g f n (ConstantOf (env.constant_item j).object) (env.constant_item j).offset (k.constant_item j n e);
  target = λ n e. refers_rounds rs g f n (VariableOf env.target.object) env.target.offset (k.target n e);
}

module _ (limit : ℕ) (c : Code) (f : Fixed) (x : Ends) (rs : List Round) where
  -- a raise leads to where no part is repeated, or to the call
  passed_same : (r : Reason) (ws : List Frame) (d : Dyn) → passed_on r ws (with_rounds rs f) d ≡ passed_on r ws f d
  passed_same r [] d = refl
  passed_same r (w ∷ ws) d = refl

  thrown_same : (r : Reason) (e : Option ℕ) (d : Dyn) → thrown r e (with_rounds rs f) d ≡ thrown r e f d
  thrown_same r None d = passed_same r f.waiting d
  thrown_same r (Some h) d = refl

  left_as_rounds : LeftAs limit c (with_rounds rs f) f x
  left_as_rounds (Exits n) d = comes_here limit c (x.exits n d)
  left_as_rounds (Returns v) d = comes_here limit c (x.returns v d)
  left_as_rounds (Raises r) d = subst (λ y. To limit c y (thrown r x.entry f d)) (sym (thrown_same r x.entry d)) (comes_here limit c (thrown r x.entry f d))

  -- what is done in a part that is repeated
  pub does_rounds : {A : Type 0} {g h : Ghost} {q : A → Type 0} {m : Stored A} {from : Dyn → Step} {to : A → Dyn → Step} → Doing limit c (with_rounds rs f) x g h q m from to → Doing limit c f x g h q m from to
  does_rounds j = does_inside limit c f x (with_rounds rs f) refl refl left_as_rounds j
