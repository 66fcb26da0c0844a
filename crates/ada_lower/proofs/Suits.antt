-- Where a body is left to, and what its scope says of that.
use Rattle.std.proofs.Common.{◌≡◌, ℕ, ◌+◌, ◌-◌, ℤ, pos, List, [], ◌∷◌, Option, Some, None, Bool, true, false, refl, sym, ap, ◌∙◌, subst}
use Rattle.ada_base.specs.declared.reason.Reason.{Reason}
use Rattle.behaviours.specs.Paths.{VariableOf}
use Rattle.ada_meaning.specs.Meaning
use Rattle.ada_meaning.specs.Meaning.{Env, ObjectPart, Passed, Returned, variable_root, constant_root}
use Rattle.ada_meaning.proofs.Cells.{some_same}
use Rattle.stack_code.specs.declared.code.Around.TheVariants.{Site}
use Rattle.stack_code.specs.declared.code.Code.{Code}
use Rattle.stack_code.specs.declared.instr.Instr.TheVariants as i
use Rattle.stack_code.specs.Deeds.{GoesOn, Stores, deed_of, store_to, store_of_frame}
use Rattle.stack_code.specs.Listing.{reason_number}
use Rattle.ada_lower.specs.Driven.{Dyn, Fixed, on, At}
use Rattle.ada_lower.specs.Sights.{Amid, Around, Level, Main, Named, Own, Sight, Stands, Where, store_at, with_entry, with_exit, with_handled, with_target}
use Rattle.ada_lower.specs.Emission.{returning, returning_value}
use Rattle.ada_lower.specs.Fits.{Ghost, Ends, Holds, IsAt, Leads, Refers, Knows}
use Rattle.ada_lower.proofs.Framework.{To}
use Rattle.ada_lower.proofs.Leaving.{least_at}
use Rattle.ada_lower.proofs.Names.{outward_seen}

abbrev pub first_of : List ℤ → ℤ
first_of [] = pos 0
first_of (v ∷ vs) = v

-- a scope says where a body is left to; no construct is begun
pub record Suits (limit : ℕ) (c : Code) (f : Fixed) (x : Ends) (s : Sight) : Type 0 where
  pub entry : s.scope.entry ≡ x.entry
  pub kept : f.kept ≡ []
  pub flat : f.nest ≡ 0
  pub rounds : f.rounds ≡ []
  pub texts : s.texts ≡ c.texts
  pub exits : (n to : ℕ) → s.scope.exits n ≡ Some to → (d : Dyn) → To limit c (on f to [] d) (x.exits n d)
  -- only threads have loops around
  pub threads : (n : ℕ) → Amid n s.outside → (site : ℕ) × (s.scope.body ≡ Site site)
  pub away : (n : ℕ) → s.scope.exits n ≡ None → Amid n s.outside → (q : ℕ) (e : Option ℕ) → At c q (i.Exit n) e → (d : Dyn) → To limit c (on f q [] d) (x.exits n d)
  pub returns : (t : Sight) (from to : ℕ) → Stands c (returning t.scope 0 s.scope.leaving) from to → (d : Dyn) → To limit c (on f from [] d) (x.returns None d)
  pub gives : (t : Sight) (from to : ℕ) (v : ℤ) → Stands c (returning_value t.scope s.scope.leaving) from to → (d : Dyn) → To limit c (on f from (v ∷ []) d) (x.returns (Some v) d)

module _ (limit : ℕ) (c : Code) (f : Fixed) where
  pub store_deed : (q : ℕ) (l : Level) (n a : ℕ) (v : ℤ) (st : List ℤ) → IsAt f l n a → deed_of c q (v ∷ st) f.base f.outward (store_at l n) ≡ Stores (pos a) v (GoesOn (q + 1) st)
  store_deed q Own n a v st e = ap (λ z. store_to q (v ∷ st) (pos z)) (sym e)
  store_deed q (Around k) n a v st (b, o, e) = ap (λ z. store_of_frame q (v ∷ st) z n) (outward_seen f.waiting f.outward (k - 1) b o) ∙ ap (λ z. store_to q (v ∷ st) (pos z)) (sym e)
  store_deed q Main n a v st e = ap (λ z. store_to q (v ∷ st) (pos z)) (sym e)

-- a scope in which bodies are left to the same places
pub suits_as : {limit : ℕ} {c : Code} {f : Fixed} {x : Ends} (t s : Sight) → t.texts ≡ s.texts → t.scope.entry ≡ s.scope.entry → t.scope.leaving ≡ s.scope.leaving → t.outside ≡ s.outside → t.scope.body ≡ s.scope.body → ((n : ℕ) → t.scope.exits n ≡ s.scope.exits n) → Suits limit c f x s → Suits limit c f x t
suits_as {limit} {c} t s z e e' o eb e'' w = record {
  entry = e ∙ w.entry;
  flat = w.flat;
  rounds = w.rounds;
  kept = w.kept;
  texts = z ∙ w.texts;
  threads = λ n here. let (site, is) = w.threads n (subst (λ ns. Amid n ns) o here) in (site, eb ∙ is);
  away = λ n none' here q en at d. w.away n (sym (e'' n) ∙ none') (subst (λ ns. Amid n ns) o here) q en at d;
  exits = λ n to e d. w.exits n to (sym (e'' n) ∙ e) d;
  returns = λ z from to l d. w.returns z from to (subst (λ o. Stands c (returning z.scope 0 o) from to) e' l) d;
  gives = λ z from to v l d. w.gives z from to v (subst (λ o. Stands c (returning_value z.scope o) from to) e' l) d;
}

-- with a handler
abbrev pub entered : ℕ → Ends → Ends
entered h x = record x { entry = Some h }

pub suits_entry : {limit : ℕ} {c : Code} {f : Fixed} {x : Ends} {s : Sight} (h : ℕ) → Suits limit c f x s → Suits limit c f (entered h x) (with_entry h s)
suits_entry h w = record { entry = refl; flat = w.flat; rounds = w.rounds; kept = w.kept; threads = w.threads; away = w.away; texts = w.texts; exits = w.exits; returns = w.returns; gives = w.gives }

pub knows_target : {limit : ℕ} {cuts : ℕ → ℕ → List ℕ} {g : Ghost} {f : Fixed} {s : Sight} {env : Env} (n : Named) (p : ObjectPart) → Knows limit cuts g f s env → Refers g f n (VariableOf p.object) p.offset → Knows limit cuts g f (with_target n s) (Meaning.with_target p env)
knows_target {limit} {g} {f} {s} {env} n p k r = record {
  most = k.most;
  nested = k.nested;
  plan = k.plan;
  kept = k.kept;
  top = k.top;
  beyond = k.beyond;
  global = k.global;
  outside = k.outside;
  one = k.one;
  old = k.old;
  hidden = k.hidden;
  object = k.object;
  parameter = k.parameter;
  item = k.item;
  constant_item = k.constant_item;
  handled = k.handled;
  free = k.free;
  target = λ m e. subst (λ m. Refers g f m (VariableOf p.object) p.offset) (some_same n m e) r;
}

pub knows_exit : {limit : ℕ} {cuts : ℕ → ℕ → List ℕ} {g : Ghost} {f : Fixed} {s : Sight} {env : Env} (number to : ℕ) → Knows limit cuts g f s env → Knows limit cuts g f (with_exit number to s) env
knows_exit number to k = record { most = k.most; nested = k.nested; plan = k.plan; kept = k.kept; top = k.top; beyond = k.beyond; global = k.global; outside = k.outside; one = k.one; old = k.old; hidden = k.hidden; object = k.object; parameter = k.parameter; item = k.item; constant_item = k.constant_item; target = k.target; handled = k.handled; free = k.free }

pub knows_least : {limit : ℕ} {cuts : ℕ → ℕ → List ℕ} {g : Ghost} {f : Fixed} {s : Sight} {env : Env} (n : ℕ) → Knows limit cuts g f s env → Knows limit cuts (least_at n g) f s env
knows_least {g = g} {f = f} m k = record {
  most = k.most;
  nested = k.nested;
  plan = k.plan;
  kept = k.kept;
  top = k.top;
  beyond = k.beyond;
  global = k.global;
  outside = k.outside;
  one = k.one;
  old = k.old;
  hidden = k.hidden;
  object = λ y n e. let r = k.object y n e in record { address = r.address; leads = leads_least n.through n.place r.address r.leads; spread = record { near = r.spread.near; cell = r.spread.cell } };
  parameter = k.parameter;
  item = λ y n e. let r = k.item y n e in record { address = r.address; leads = leads_least n.through n.place r.address r.leads; spread = record { near = r.spread.near; cell = r.spread.cell } };
  constant_item = λ y n e. let r = k.constant_item y n e in record { address = r.address; leads = leads_least n.through n.place r.address r.leads; spread = record { near = r.spread.near; cell = r.spread.cell } };
  target = λ n e. let r = k.target n e in record { address = r.address; leads = leads_least n.through n.place r.address r.leads; spread = record { near = r.spread.near; cell = r.spread.cell } };
  handled = k.handled;
  free = k.free;
}
  where
    leads_least : (t : Bool) (w : Where) (b : ℕ) → Leads t g f w b → Leads t (least_at m g) f w b
    leads_least true w b l = l
    leads_least false w b l = l

pub knows_handled : {limit : ℕ} {cuts : ℕ → ℕ → List ℕ} {g : Ghost} {f : Fixed} {s : Sight} {env : Env} (w : Where) (r : Reason) → Knows limit cuts g f s env → Holds g f w (pos (reason_number r)) → Knows limit cuts g f (with_handled w s) (Meaning.with_handled r env)
knows_handled {g = g} {f = f} w r k h = record {
  most = k.most;
  nested = k.nested;
  plan = k.plan;
  kept = k.kept;
  top = k.top;
  beyond = k.beyond;
  global = k.global;
  outside = k.outside;
  one = k.one;
  old = k.old;
  hidden = k.hidden;
  object = k.object;
  parameter = k.parameter;
  item = k.item;
  constant_item = k.constant_item;
  target = k.target;
  free = k.free;
  handled = λ w' e. subst (λ w. Holds g f w (pos (reason_number r))) (some_same w w' e) h;
}

pub knows_entry : {limit : ℕ} {cuts : ℕ → ℕ → List ℕ} {g : Ghost} {f : Fixed} {s : Sight} {env : Env} (h : ℕ) → Knows limit cuts g f s env → Knows limit cuts g f (with_entry h s) env
knows_entry h k = record { most = k.most; nested = k.nested; plan = k.plan; kept = k.kept; top = k.top; beyond = k.beyond; global = k.global; outside = k.outside; one = k.one; old = k.old; hidden = k.hidden; object = k.object; parameter = k.parameter; item = k.item; constant_item = k.constant_item; target = k.target; handled = k.handled; free = k.free }
