-- Where a text is executed: what its names stand for, and what its effects allow.
use Rattle.std.proofs.Common.{◌≡◌, ℕ, ◌+◌, ◌*◌, ◌<◌, ℤ, pos, ◌+ℤ◌, ◌-ℤ◌, nat_eq, List, [], ◌∷◌, ◌++◌, ◌⊎◌, inl, inr, Option, Some, None, Bool, true, false, cond, sym, subst, ap, ◌∙◌, refl, true≢false, eqb-true, eq-eqb, ne_eqb}
use Rattle.typed_tree.specs.declared.expressions.Root.{Root}
use Rattle.typed_tree.specs.declared.expressions.Root.TheVariants as root
use Rattle.typed_tree.specs.declared.expressions.Iterated.{Iterated}
use Rattle.typed_tree.specs.Syntax.{Program}
use Rattle.behaviours.specs.Paths.{Leave, Entity, VariableOf, Here, Instance, End, Gives, Leaves, Spent, Stopped, Path, Scope, apart_of}
use Rattle.behaviours.specs.Events.{Trace}
use Rattle.behaviours.specs.Behaviours.{Behaviour}
use Rattle.ada_meaning.specs.Values.{to_nat}
use Rattle.ada_meaning.specs.Operations.{CheckKind}
use Rattle.ada_meaning.specs.Meaning.{ObjectPart, moved, Env, outset, with_parameter, with_target, with_handled, inside, variable_root, iterated_env}
use Rattle.ada_meaning.specs.Meaning as meaning
use Rattle.check_effects.specs.Effects.{Selector, At, Fixed, LoopIndex, ChunkIndex, Any, Step, FieldStep, IndexStep, ItemStep, Named, Access, Roles, unknown, other, hide, is_one, role, root_name, forgotten, forgotten_steps, forget, Construct, Item, Touches, Calls, Blocks, Holds, Outside, item_bound, iterated_hidden, IsGlobal, Reached, IsEffect}
use Rattle.behaviours.specs.Joins.{Now}
use Rattle.check_effects.specs.Conflicts.{LoopFits, Fits, IsItem, Leads, LiesUnder}
use Rattle.behaviours.specs.Behaviours
use Rattle.ada_meaning.specs.Runs
use Rattle.ada_meaning.specs.Programs.{this}
use Rattle.check_effects.proofs.Good.{Allowed, Can, with_object}
use Rattle.check_effects.proofs.Teams.{Either}

-- what a name stands for

abbrev pub Tie : Now → Named → ObjectPart → Type 0
Tie now n p = (p.object ≡ n.object) × Leads now 0 n.steps p.offset

pub record Suits (now : Now) (r : Roles) (env : Env) : Type 0 where
  pub fit : (k : ℕ) (n : ℤ) → Fits now (role r k n) (env.parameter k +ℤ n)
  pub items : (k : ℕ) → Tie now (r.item k) (env.item k)
  pub target : Tie now r.target env.target

pub leads_append : (now : Now) (n m o : ℕ) (ss ts : List Step) → Leads now n ss m → Leads now m ts o → Leads now n (ss ++ ts) o
leads_append now n m o [] ts e h = subst (λ z. Leads now z ts o) e h
leads_append now n m o (FieldStep number offset ∷ ss) ts g h = leads_append now (n + offset) m o ss ts g h
leads_append now n m o (IndexStep s low high stride ∷ ss) ts (v, b, f, g) h = (v, b, f, leads_append now (n + to_nat (v -ℤ low) * stride) m o ss ts g h)
leads_append now n m o (ItemStep judged count stride dimensions ∷ ss) ts (i, lt, c, g) h = (i, lt, c, leads_append now (n + i * stride) m o ss ts g h)

fits_forgotten : (now then : Now) (s : Selector) (v : ℤ) → Fits now s v → Fits then (forgotten s) v
fits_forgotten now then (At k) v h = absurd h
fits_forgotten now then (Fixed i) v h = h
fits_forgotten now then (LoopIndex d) v h = tt
fits_forgotten now then (ChunkIndex d) v h = tt
fits_forgotten now then Any v h = tt

leads_forgotten : (now then : Now) (n o : ℕ) (ss : List Step) → Leads now n ss o → Leads then n (forgotten_steps ss) o
leads_forgotten now then n o [] h = h
leads_forgotten now then n o (FieldStep number offset ∷ ss) h = leads_forgotten now then (n + offset) o ss h
leads_forgotten now then n o (IndexStep s low high stride ∷ ss) (v, b, f, h) = (v, b, fits_forgotten now then s v f, leads_forgotten now then (n + to_nat (v -ℤ low) * stride) o ss h)
leads_forgotten now then n o (ItemStep judged count stride dimensions ∷ ss) (i, lt, c, h) = (i, lt, tt, leads_forgotten now then (n + i * stride) o ss h)

pub suits_unknown : (now : Now) (n : ℕ) → Suits now unknown (outset n)
suits_unknown now n = record { fit = λ k n. tt; items = λ k. (refl, refl); target = (refl, refl) }

pub suits_forget : (now then : Now) (r : Roles) (env : Env) → Suits now r env → Suits then (forget r) env
suits_forget now then r env h = record { fit = λ k n. tt; items = λ k. ((h.items k).0, leads_forgotten now then 0 (env.item k).offset (r.item k).steps (h.items k).1); target = (h.target.0, leads_forgotten now then 0 env.target.offset r.target.steps h.target.1) }

pub suits_inside : (now : Now) (r : Roles) (env : Env) → Suits now r env → Suits now r (inside env)
suits_inside now r env h = record { fit = h.fit; items = h.items; target = h.target }

pub suits_handled : (now : Now) (r : Roles) (env : Env) (e : _) → Suits now r env → Suits now r (with_handled e env)
suits_handled now r env e h = record { fit = h.fit; items = h.items; target = h.target }

pub suits_target : (now : Now) (r : Roles) (env : Env) (n : Named) (p : ObjectPart) → Tie now n p → Suits now r env → Suits now (record r { target = n }) (with_target p env)
suits_target now r env n p t h = record { fit = h.fit; items = h.items; target = t }

is_here : (o : Option ℕ) (x : ℕ) → is_one (other x o) x ≡ false
is_here None x = refl
is_here (Some z) x = go (nat_eq z x) refl
  where
    go : (b : Bool) → nat_eq z x ≡ b → is_one (cond b None (Some z)) x ≡ false
    go true e = refl
    go false e = ne_eqb x z (λ same. true≢false (sym (eq-eqb z x (sym same)) ∙ e))

is_there : (o : Option ℕ) (x y : ℕ) → nat_eq y x ≡ false → is_one (other x o) y ≡ is_one o y
is_there None x y e = refl
is_there (Some z) x y e = go (nat_eq z x) refl
  where
    go : (b : Bool) → nat_eq z x ≡ b → is_one (cond b None (Some z)) y ≡ nat_eq y z
    go true f = sym (ap (λ w. nat_eq y w) (eqb-true z x f) ∙ e)
    go false f = refl

fits_both : (now : Now) (b c d g : Bool) (n v : ℤ) → b ≡ d → c ≡ g → Fits now (cond d (ChunkIndex n) (cond g (LoopIndex n) Any)) v → Fits now (cond b (ChunkIndex n) (cond c (LoopIndex n) Any)) v
fits_both now b c d g n v e f h = subst (λ z. Fits now (cond z (ChunkIndex n) (cond c (LoopIndex n) Any)) v) (sym e) (subst (λ z. Fits now (cond d (ChunkIndex n) (cond z (LoopIndex n) Any)) v) (sym f) h)

-- where a parameter of that number is another's
pub suits_hide : (now : Now) (r : Roles) (env : Env) (k : ℕ) (v : ℤ) → Suits now r env → Suits now (hide k r) (with_parameter k v env)
suits_hide now r env k v h = record { fit = λ y n. go y n (nat_eq y k) refl; items = h.items; target = h.target }
  where
    go : (y : ℕ) (n : ℤ) (b : Bool) → nat_eq y k ≡ b → Fits now (role (hide k r) y n) (cond b v (env.parameter y) +ℤ n)
    go y n true e = fits_both now _ _ false false n (v +ℤ n) (ap (is_one (other k r.chunk)) (eqb-true y k e) ∙ is_here r.chunk k) (ap (is_one (other k r.loop)) (eqb-true y k e) ∙ is_here r.loop k) tt
    go y n false e = fits_both now _ _ _ _ n (env.parameter y +ℤ n) (is_there r.chunk k y e) (is_there r.loop k y e) (h.fit y n)

pub suits_iterated : (now : Now) (r : Roles) (env : Env) (i : Option Iterated) (k : ℕ) → Suits now r env → Suits now (iterated_hidden i r) (iterated_env i k env)
suits_iterated now r env None k h = h
suits_iterated now r env (Some i) k h = suits_hide now r env i.parameter (i.first +ℤ pos k) h

-- a component that an iteration has reached
pub suits_item : (now : Now) (r : Roles) (env : Env) (constant judged : Bool) (k : ℕ) (n : Named) (p : ObjectPart) (i count stride dimensions : ℕ) → (constant ≡ false → Tie now n p) → i < count → (constant ≡ false → IsItem now judged (p.offset + i * stride) stride)
    → Suits now r env → Suits now (item_bound constant judged k n count stride dimensions r) (meaning.with_item constant k (moved p (i * stride)) env)
suits_item now r env true judged k n p i count stride dimensions t lt c h = record { fit = h.fit; items = h.items; target = h.target }
suits_item now r env false judged k n p i count stride dimensions t lt c h = record { fit = h.fit; items = λ j. go j (nat_eq j k); target = h.target }
  where
    new : Named
    new = record { object = n.object; steps = n.steps ++ (ItemStep judged count stride dimensions ∷ []) }

    go : (j : ℕ) (b : Bool) → Tie now (cond b (record { object = n.object; steps = n.steps ++ (ItemStep judged count stride dimensions ∷ []) }) (r.item j)) (cond b (moved p (i * stride)) (env.item j))
    go j true = ((t refl).0, leads_append now 0 p.offset (p.offset + i * stride) n.steps (ItemStep judged count stride dimensions ∷ []) (t refl).1 (i, lt, c refl, refl))
    go j false = h.items j

-- the parameters of the construct that is judged
pub suits_loop : (now : Now) (r : Roles) (env : Env) (k : ℕ) (v : ℤ) → now.loop ≡ Some v → (c : Option ℕ) → ((y : ℕ) (n : ℤ) → is_one c y ≡ true → env.parameter y +ℤ n ≡ now.chunk +ℤ n) → Suits now r env → Suits now (record r { loop = Some k; chunk = other k c }) (with_parameter k v env)
suits_loop now r env k v e c f h = record { fit = λ y n. go y n (nat_eq y k) refl; items = h.items; target = h.target }
  where
    any : (y : ℕ) (n x : ℤ) (a b : Bool) → (a ≡ true → x ≡ now.chunk +ℤ n) → (b ≡ true → Fits now (LoopIndex n) x) → Fits now (cond a (ChunkIndex n) (cond b (LoopIndex n) Any)) x
    any y n x true b p q = p refl
    any y n x false true p q = q refl
    any y n x false false p q = tt

    go : (y : ℕ) (n : ℤ) (b : Bool) → nat_eq y k ≡ b → Fits now (role (record r { loop = Some k; chunk = other k c }) y n) (cond b v (env.parameter y) +ℤ n)
    go y n true q = any y n (v +ℤ n) (is_one (other k c) y) (nat_eq y k) (λ s. absurd (true≢false (sym s ∙ ap (is_one (other k c)) (eqb-true y k q) ∙ is_here c k))) (λ s. subst (λ z. LoopFits z n (v +ℤ n)) (sym e) refl)
    go y n false q = any y n (env.parameter y +ℤ n) (is_one (other k c) y) (nat_eq y k) (λ s. f y n (sym (is_there c k y q) ∙ s)) (λ s. absurd (true≢false (sym s ∙ q)))

pub suits_chunk : (now : Now) (r : Roles) (env : Env) → r.loop ≡ None → (c : Option ℕ) → ((y : ℕ) (n : ℤ) → is_one c y ≡ true → env.parameter y +ℤ n ≡ now.chunk +ℤ n) → Suits now r env → Suits now (record r { chunk = c }) env
suits_chunk now r env e c f h = record { fit = λ y n. go y n (is_one c y) refl (is_one r.loop y) (ap (λ z. is_one z y) e); items = h.items; target = h.target }
  where
    go : (y : ℕ) (n : ℤ) (a : Bool) → is_one c y ≡ a → (b : Bool) → b ≡ false → Fits now (cond a (ChunkIndex n) (cond b (LoopIndex n) Any)) (env.parameter y +ℤ n)
    go y n true q b s = f y n q
    go y n false q true s = absurd (true≢false s)
    go y n false q false s = tt

pub suits_root : (now : Now) (r : Roles) (env : Env) → Suits now r env → (at : Root) → Tie now (root_name r at) (variable_root at env)
suits_root now r env h (root.Object x) = (refl, refl)
suits_root now r env h (root.Item k) = h.items k

-- values that behaviours give

gives : {A : Type 0} {a b : A} → Gives b ≡ Gives a → b ≡ a
gives e = cc

gives_leaves : {A : Type 0} {a : A} {x : Leave} → Gives a ≡ Leaves x → ⊥
gives_leaves e = cc

pub gives_stops : {A : Type 0} {a : A} → Gives a ≡ Stopped → ⊥
gives_stops e = cc

gives_spent : {A : Type 0} {a : A} → Gives a ≡ Spent → ⊥
gives_spent e = cc

carries_none : {A B : Type 0} (end : End A) (v : B) → Behaviours.Carries end (Gives v) → ⊥
carries_none (Gives a) v c = c
carries_none (Leaves x) v c = gives_leaves c
carries_none Spent v c = gives_spent c
carries_none Stopped v c = gives_stops c

pub of_ret : {A : Type 0} {a v : A} → Can (Behaviours.ret a) v → v ≡ a
of_ret {A} {a} {v} c = go c.run
  where
    go : {p p' : Path Instance} {tr : Trace Instance} {y : Bool} → Behaviours.Did p [] p (Gives a) tr y p' (Gives v) → v ≡ a
    go (z, inl (t, q, inl e)) = gives e
    go (z, inl (t, q, inr e)) = absurd (gives_stops e)
    go (z, inr (t, q, e)) = absurd (gives_stops e)

pub of_leaves : {A : Type 0} {x : Leave} {v : A} → Can (Behaviours.leaves x) v → ⊥
of_leaves {A} {x} {v} c = go c.run
  where
    go : {p p' : Path Instance} {tr : Trace Instance} {y : Bool} → Behaviours.Did p [] p (Leaves x) tr y p' (Gives v) → ⊥
    go (z, inl (t, q, inl e)) = gives_leaves e
    go (z, inl (t, q, inr e)) = gives_stops e
    go (z, inr (t, q, e)) = gives_stops e

pub of_bind : {A B : Type 0} {m : Behaviour Instance A} {k : A → Behaviour Instance B} {v : B} → Can (Behaviours.◌>>=◌ m k) v → (a : A) × Can m a × Can (k a) v
of_bind {A} {B} {m} {k} {v} c = go c.scope c.path c.trace c.early c.after c.run
  where
    go : (s : Scope Instance) (p : Path Instance) (tr : Trace Instance) (y : Bool) (p' : Path Instance) → (Behaviours.◌>>=◌ m k).runs s p tr y p' (Gives v) → (a : A) × Can m a × Can (k a) v
    go s p tr y p' (inl (a, mid, front, back, x, z, eq, ey, one, two)) =
        (a, record { scope = s; path = p; trace = front; early = x; after = mid; run = one }, record { scope = s; path = mid; trace = back; early = z; after = p'; run = two })
    go s p tr y p' (inr (end, c, one)) = absurd (carries_none end v c)

pub of_checks : (kind : CheckKind) (at : ℕ) (b : Bool) (u : Unit {0}) → Can (Runs.checks kind at b) u → b ≡ true
of_checks kind at true u c = refl
of_checks kind at false u c = absurd (of_leaves c)

pub of_apart : {A : Type 0} {m : Behaviour Instance A} {v : A} → Can (Behaviours.apart m) v → Can m v
of_apart c = record { scope = apart_of c.scope; path = c.path; trace = c.trace; early = c.early; after = c.after; run = c.run }

pub of_elaborates : {A : Type 0} (e : Entity) (vs : List ℤ) (m : Behaviour Instance A) (v : A) → Can (Behaviours.elaborates this Here e vs m) v → Can m v
of_elaborates {A} e vs m v c = go c.scope c.path c.trace c.early c.after c.run
  where
    go : (s : Scope Instance) (p : Path Instance) (tr : Trace Instance) (y : Bool) (p' : Path Instance) → (Behaviours.elaborates this Here e vs m).runs s p tr y p' (Gives v) → Can m v
    go s p tr y p' (inl (rest, eq, run)) = record { scope = _; path = _; trace = rest; early = y; after = p'; run = run }
    go s p tr y p' (inr (ey, ep, ee, b)) = absurd (gives_stops ee)

pub one_of : {A : Type 0} (b : Bool) (m n : Behaviour Instance A) (Q : Type 0) (v : A) → (Can m v → Q) → (Can n v → Q) → Can (cond b m n) v → Q
one_of true m n Q v f g c = f c
one_of false m n Q v f g c = g c

-- effects and what is allowed

module _ (program : Program) where
  -- the cells under the effects of a text
  abbrev pub Exact : Now → (Item → Type 0) → Allowed
  Exact now items = record {
    at = λ w x n. (at : ℕ) × (a : Access) × items (Touches at a) × (a.writes ≡ w) × (a.object ≡ x) × LiesUnder now a n;
    global = λ w x n. (at : ℕ) × (callee : ℕ) × (s : ℕ) × (there : ℕ) × (a : Access) × items (Calls at callee s) × Reached program s (Touches there a) × IsGlobal program a.object × (a.writes ≡ w) × (a.object ≡ x) × LiesUnder now a n;
    input = ((at : ℕ) × (callee : ℕ) × items (Blocks at callee)) ⊎ ((at : ℕ) × (callee : ℕ) × (s : ℕ) × (there : ℕ) × (last : ℕ) × items (Calls at callee s) × Reached program s (Blocks there last));
  }

  pub either_effect : (now : Now) (items : Item → Type 0) (w : Bool) (x n : ℕ) → Either (Exact now items) w x n → (at : ℕ) × (a : Access) × IsEffect program items at a × (a.writes ≡ w) × (a.object ≡ x) × LiesUnder now a n
  either_effect now items w x n (inl (at, a, h, e, f, u)) = (at, a, inl h, e, f, u)
  either_effect now items w x n (inr (at, callee, s, there, a, h, r, g, e, f, u)) = (at, a, inr (callee, s, h, there, r, g), e, f, u)

module _ (program : Program) (fine : Construct → Type 0) where
  -- what lies under the effects of a text is allowed, and its constructs are fine where that is asked
  pub record Into (W : Type 0) (now : Now) (E : Allowed) (items : Item → Type 0) : Type 0 where
    pub touch : (at : ℕ) (a : Access) (n : ℕ) → items (Touches at a) → LiesUnder now a n → E.at a.writes a.object n
    pub call : (at callee s there : ℕ) (a : Access) (n : ℕ) → items (Calls at callee s) → Reached program s (Touches there a) → IsGlobal program a.object → LiesUnder now a n → E.global a.writes a.object n
    pub blocks : (at callee : ℕ) → items (Blocks at callee) → E.input
    pub reach : (at callee s there last : ℕ) → items (Calls at callee s) → Reached program s (Blocks there last) → E.input
    pub clean : W → (k : Construct) → items (Holds k) → fine k

  pub part : {W : Type 0} {now : Now} {E : Allowed} {some all : Item → Type 0} → ((i : Item) → some i → all i) → Into W now E all → Into W now E some
  part f k = record {
    touch = λ at a n h u. k.touch at a n (f (Touches at a) h) u;
    call = λ at callee s there a n h r g u. k.call at callee s there a n (f (Calls at callee s) h) r g u;
    blocks = λ at callee h. k.blocks at callee (f (Blocks at callee) h);
    reach = λ at callee s there last h r. k.reach at callee s there last (f (Calls at callee s) h) r;
    clean = λ w c h. k.clean w c (f (Holds c) h);
  }

  pub exact : (now : Now) (items : Item → Type 0) → Into ⊥ now (Exact program now items) items
  exact now items = record {
    touch = λ at a n h u. (at, a, h, refl, refl, u);
    call = λ at callee s there a n h r g u. (at, callee, s, there, a, h, r, g, refl, refl, u);
    blocks = λ at callee h. inl (at, callee, h);
    reach = λ at callee s there last h r. inr (at, callee, s, there, last, h, r);
    clean = λ w. absurd w;
  }

  -- within the text that sees a new object
  pub object_into : {W : Type 0} {now : Now} {E : Allowed} (x : ℕ) (items : Item → Type 0) → Into W now E (λ i. items i × Outside x i) → Into W now (with_object program W (VariableOf x) E) items
  object_into {W} {now} {E} x items k = record {
    touch = λ at a n h u. go at a n h u (nat_eq a.object x) refl;
    call = λ at callee s there a n h r g u. k.call at callee s there a n (h, tt) r g u;
    blocks = λ at callee h. k.blocks at callee (h, tt);
    reach = λ at callee s there last h r. k.reach at callee s there last (h, tt) r;
    clean = λ w c h. k.clean w c (h, tt);
  }
    where
      go : (at : ℕ) (a : Access) (n : ℕ) → items (Touches at a) → LiesUnder now a n → (b : Bool) → nat_eq a.object x ≡ b → E.at a.writes a.object n ⊎ (VariableOf a.object ≡ VariableOf x)
      go at a n h u true e = inr (ap VariableOf (eqb-true a.object x e))
      go at a n h u false e = inl (k.touch at a n (h, λ same. true≢false (sym (eq-eqb a.object x same) ∙ e)) u)
