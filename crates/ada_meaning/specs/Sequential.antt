-- The sequential run: one memory and one order. A parallel loop is a loop, the arms of a block and the chunks of a
-- chunk parameter come one after the other, a reduction is one fold.
use Rattle.std.specs.Prelude.{◌≡◌, ℕ, ℤ, pos, ◌+ℤ◌, ◌*ℤ◌, List, [], ◌∷◌, ◌++◌, Option, Some, None, false, ◌||◌, IsTrue}
use Rattle.ada_base.specs.declared.operation.Base.{Base}
use Rattle.ada_base.specs.declared.operation.Base.TheVariants.{Modulo}
use Rattle.typed_tree.specs.declared.scalars.Class.{Class}
use Rattle.typed_tree.specs.declared.scalars.Class.TheVariants as class
use Rattle.ada_base.specs.declared.operation.Op.TheVariants as op
use Rattle.ada_base.specs.Operation.{is_in_base}
use Rattle.typed_tree.specs.declared.expressions.Reducer.{Reducer}
use Rattle.typed_tree.specs.declared.expressions.Reducer.TheVariants.{Operator}
use Rattle.behaviours.specs.Doings.{through}
use Rattle.behaviours.specs.Paths.{Gives, Spent, Stopped, joined}
use Rattle.behaviours.specs.Joins.{Site, Share, deal}
use Rattle.behaviours.specs.Behaviours.{is_left}
use Rattle.ada_meaning.specs.Values.{binary_digits, base_of}
use Rattle.ada_meaning.specs.Operations.{Cut, ByPlan, Sized, Operations, reduce}
use Rattle.ada_meaning.specs.Planned
use Rattle.ada_meaning.specs.Planned.{Noted, Result, Planned, doings, within, ◌>>=◌, ret, checks}

-- a construct whose iterations come one after the other
abbrev pub construct : {A : Type 0} → Planned A → Planned A
construct g s p m =
    let r = g s p m in
    record { path = joined p r.path.turns; memory = r.memory; output = r.output; early = r.early || is_left r.end; noted = r.noted; end = r.end }

-- chunk after chunk
abbrev pub in_turn : {A : Type 0} → List Share → A → (ℕ → ℕ → A → Planned A) → Planned A
in_turn [] a body = ret a
in_turn (c ∷ cs) a body = through doings c.first c.size a (body c.number) >>= λ b. in_turn cs b body

abbrev pub shares_of : Cut → List Share
shares_of (ByPlan most n) = record { number = 0; first = 0; size = n } ∷ []
shares_of (Sized sizes) = deal 0 0 sizes

abbrev pub loops : Site → Cut → (ℕ → ℕ → Planned (Unit {0})) → Planned (Unit {0})
loops site cut body = construct (within 0 (in_turn (shares_of cut) tt (λ j i _. body j i)))

-- a fold so far, and the values that it took
pub record Folded : Type 0 where
  pub accumulator : ℤ
  pub values : List ℤ

abbrev pub notes : Noted → Planned (Unit {0})
notes x s p m = record { path = p; memory = m; output = []; early = false; noted = x ∷ []; end = Gives tt }

abbrev pub takes : (ℤ → ℤ → Planned ℤ) → Folded → Option ℤ → Planned Folded
takes f so_far None = ret so_far
takes f so_far (Some v) = f so_far.accumulator v >>= λ a. ret (record { accumulator = a; values = so_far.values ++ (v ∷ []) })

abbrev pub reduces : Site → Cut → Reducer → ℕ → ℤ → (ℕ → ℕ → Planned (Option ℤ)) → (ℤ → ℤ → Planned ℤ) → (ℤ → ℤ → Planned ℤ) → Planned ℤ
reduces site cut by at initial value call combine =
    construct (within 0 (in_turn (shares_of cut) (record { accumulator = initial; values = [] }) (λ j i so_far. value j i >>= takes (reduce doings checks by at call) so_far)))
    >>= λ f. notes (record { by = by; initial = initial; values = f.values })
    >>= λ _. ret f.accumulator

abbrev pub operations : ℕ → Operations {0}
operations limit = record {
  doings = doings;
  reads = Planned.reads;
  writes = Planned.writes;
  elaborates = Planned.elaborates;
  apart = Planned.apart;
  turn = Planned.turn limit;
  look = Planned.look;
  checks = checks;
  leaves = Planned.leaves;
  spent = Planned.spent;
  handles = Planned.handles;
  puts = Planned.puts;
  recalls = Planned.recalls;
  keeps = Planned.keeps;
  takes = Planned.takes;
  loops = loops;
  reduces = reduces;
}

-- reductions whose result doesn't turn on how the values are cut

-- a value of a modular type
abbrev pub IsOfType : Class → ℤ → Type 0
IsOfType (class.Integer (Modulo k)) z = IsTrue (is_in_base (Modulo (binary_digits k)) z)
IsOfType c z = Unit {0}

-- "+" from 0, "*" from 1, "xor" from False or 0; "and", "or", Max and Min from any value of the type
abbrev pub IsListed : Reducer → ℤ → Type 0
IsListed (Operator at op.Add class) initial = initial ≡ pos 0
IsListed (Operator at op.Mul class) initial = (initial ≡ pos 1) × IsOfType class initial
IsListed (Operator at op.Xor class) initial = initial ≡ pos 0
IsListed (Operator at op.And class) initial = IsOfType class initial
IsListed (Operator at op.Or class) initial = IsOfType class initial
IsListed (Operator at op.Max class) initial = IsOfType class initial
IsListed (Operator at op.Min class) initial = IsOfType class initial
IsListed _ initial = ⊥

abbrev pub total : List ℤ → ℤ
total [] = pos 0
total (v ∷ vs) = v +ℤ total vs

abbrev pub product : List ℤ → ℤ
product [] = pos 1
product (v ∷ vs) = v *ℤ product vs

-- each segment of the values has a result inside the base range
abbrev pub EachSegment : (List ℤ → ℤ) → Base → List ℤ → Type 0
EachSegment f base values = (before part after : List ℤ) → values ≡ before ++ (part ++ after) → IsTrue (is_in_base base (f part))

-- on a modular type there is no overflow
abbrev pub HasNoPartialOverflow : Reducer → List ℤ → Type 0
HasNoPartialOverflow (Operator at o (class.Integer (Modulo k))) values = Unit {0}
HasNoPartialOverflow (Operator at op.Add class) values = EachSegment total (base_of class) values
HasNoPartialOverflow (Operator at op.Mul class) values = EachSegment product (base_of class) values
HasNoPartialOverflow _ values = Unit {0}

abbrev pub AllHarmless : List Noted → Type 0
AllHarmless [] = Unit {0}
AllHarmless (x ∷ xs) = IsListed x.by x.initial × HasNoPartialOverflow x.by x.values × AllHarmless xs

-- it ends within the limit, no construct was left early, and each reduction is a listed one without partial overflow
pub record IsCalm {A : Type 0} (r : Result A) : Type 0 where
  pub early : r.early ≡ false
  pub harmless : AllHarmless r.noted
  pub spent : r.end ≡ Spent → ⊥
  pub stopped : r.end ≡ Stopped → ⊥
