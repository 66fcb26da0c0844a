-- What is allowed where a text is executed: what its names and calls touch, and what its parts may.
use Rattle.std.proofs.Common.{ℕ, ◌+◌, ◌<◌, Bool, refl, sym, subst, inl, arith}
use Rattle.typed_tree.specs.Syntax.{Program}
use Rattle.behaviours.specs.Paths.{Entity, VariableOf, ConstantOf, Region, Everywhere, Here}
use Rattle.ada_meaning.specs.Meaning.{ObjectPart}
use Rattle.check_effects.specs.Effects.{Named, Access, Construct, Item, Touches, Calls, Blocks, Outside, IsGlobal, Reached}
use Rattle.behaviours.specs.Joins.{Now}
use Rattle.check_effects.specs.Conflicts.{LiesUnder}
use Rattle.check_effects.proofs.Good.{Allowed, Roomy, Grown, with_object}
use Rattle.check_effects.proofs.Scenes.{Tie, Into, object_into}

module _ (program : Program) (fine : Construct → Type 0) where
  -- what a subprogram's text touches of the main procedure's is allowed
  pub record CallInto (now : Now) (E : Allowed) (u : ℕ) : Type 0 where
    pub touch : (there : ℕ) (a : Access) (n : ℕ) → Reached program u (Touches there a) → IsGlobal program a.object → LiesUnder now a n → E.global a.writes a.object n
    pub reach : (there last : ℕ) → Reached program u (Blocks there last) → E.input

  pub call_into : {W : Type 0} {now : Now} {E : Allowed} {items : Item → Type 0} (at callee u : ℕ) → items (Calls at callee u) → Into program fine W now E items → CallInto now E u
  call_into at callee u h k = record { touch = λ there a n r g l. k.call at callee u there a n h r g l; reach = λ there last r. k.reach at callee u there last h r }

  pub touched : {W : Type 0} {now : Now} {E : Allowed} {items : Item → Type 0} → Into program fine W now E items → (at : ℕ) (w : Bool) (n : Named) (cells : ℕ) → items (Touches at (record { writes = w; object = n.object; steps = n.steps; cells = cells })) → (p : ObjectPart) → Tie now n p → (m : ℕ) → m < cells → E.at w p.object (p.offset + m)
  touched {W} {now} {E} k at w n cells h p t m lt = subst (λ z. E.at w z (p.offset + m)) (sym t.0) (k.touch at (record { writes = w; object = n.object; steps = n.steps; cells = cells }) (p.offset + m) h (p.offset, m, t.1, lt, refl))

  pub touched_one : {W : Type 0} {now : Now} {E : Allowed} {items : Item → Type 0} → Into program fine W now E items → (at : ℕ) (w : Bool) (n : Named) → items (Touches at (record { writes = w; object = n.object; steps = n.steps; cells = 1 })) → (p : ObjectPart) → Tie now n p → E.at w p.object p.offset
  touched_one {W} {now} {E} k at w n h p t = subst (λ z. E.at w z p.offset) (sym t.0) (k.touch at (record { writes = w; object = n.object; steps = n.steps; cells = 1 }) p.offset h (p.offset, 0, t.1, omega arith, omega arith))

  -- within the text that sees a new object
  pub grown_into : {W : Type 0} {now : Now} {E : Allowed} (region : Region) (x : ℕ) (items : Item → Type 0) → Roomy program W region E → Into program fine W now E (λ i. items i × Outside x i) → Into program fine W now (Grown program W region (VariableOf x) E) items
  grown_into Here x items room k = object_into program fine x items k
  grown_into Everywhere x items room k = record {
    touch = λ at a n h l. room a.writes a.object n;
    call = λ at callee s there a n h r g l. k.call at callee s there a n (h, tt) r g l;
    blocks = λ at callee h. k.blocks at callee (h, tt);
    reach = λ at callee s there last h r. k.reach at callee s there last (h, tt) r;
    clean = λ w c h. k.clean w c (h, tt);
  }

  pub more_into : {W : Type 0} {now : Now} {E : Allowed} {items : Item → Type 0} (e : Entity) → Into program fine W now E items → Into program fine W now (with_object program W e E) items
  more_into e k = record { touch = λ at a n h l. inl (k.touch at a n h l); call = k.call; blocks = k.blocks; reach = k.reach; clean = k.clean }

  pub constant_into : {W : Type 0} {now : Now} {E : Allowed} {items : Item → Type 0} (region : Region) (x : ℕ) → Into program fine W now E items → Into program fine W now (Grown program W region (ConstantOf x) E) items
  constant_into Here x k = more_into (ConstantOf x) k
  constant_into Everywhere x k = k
