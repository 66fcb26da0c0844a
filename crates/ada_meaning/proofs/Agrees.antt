-- Every consistent run that isn't stopped ends like the planned run, where no construct is left early and no thread has a race.
use Rattle.std.proofs.Common.{◌≡◌, length, ℕ, zero, suc, ◌<◌, ◌≤◌, ℤ, List, [], ◌∷◌, ◌++◌, ◌⊎◌, Option, Some, None, inl, inr, ⊎_elim, Bool, true, false, cond, ltb, ◌||◌, refl, sym, subst, ap, ap₂, ◌∙◌, true≢false, ltb-true, ltb-false, arith}
use Rattle.std.proofs.lemmas.List.{append_assoc, append-nil}
use Rattle.ada_base.specs.declared.reason.Reason.TheVariants as reason
use Rattle.typed_tree.specs.declared.scalars.Scalar.{Scalar}
use Rattle.ada_base.specs.Input.{Held}
use Rattle.behaviours.specs.Doings.{through, onto}
use Rattle.behaviours.specs.Paths.{Leave, Raises, Entity, VariableOf, Region, Instance, End, Gives, Leaves, Spent, Stopped, Path, Scope, find, declares, apart_of, one_turn, one_elaboration, enter, leave}
use Rattle.behaviours.specs.Events.{Event, Reads, Writes, Recalls, Keeps, Takes, Puts, Looks, Trace, output_of}
use Rattle.behaviours.specs.Memory.{Memory, put, put_all, after, Fits}
use Rattle.behaviours.specs.Behaviours.{Behaviour, Did, Carries, Untaken, Unbegun}
use Rattle.ada_meaning.specs.Operations.{CheckKind}
use Rattle.behaviours.specs.Behaviours
use Rattle.ada_meaning.specs.Runs
use Rattle.ada_meaning.specs.Runs.{anything}
use Rattle.ada_meaning.specs.Programs.{this}
use Rattle.ada_meaning.specs.Planned
use Rattle.ada_meaning.specs.Planned.{Result, Planned, plain, ending, continued, next, handled, here}
use Rattle.behaviours.proofs.Shuffle.{fits_append, fits_split, after_append}

-- what the trace does to the memory and puts out is what the result says
pub record Does {A : Type 0} (m : Memory) (tr : Trace Instance) (r : Result A) : Type 0 where
  pub fits : Fits m tr
  pub memory : r.memory ≡ after m tr
  pub out : r.output ≡ output_of tr

-- a run is the result's
pub record Same {A : Type 0} (F : Trace Instance → Bool → Path Instance → End A → Type 0) (m : Memory) (r : Result A) : Type 0 where
  pub trace : Trace Instance
  pub runs : F trace r.early r.path r.end
  pub does : Does m trace r

-- no construct was left early in the planned run, or none in the other, or all threads are taken in order
abbrev pub Settled : Bool → Bool → Bool → Type 0
Settled one x y = (x ≡ false) ⊎ ((y ≡ false) ⊎ (one ≡ true))

-- there is such a run where no construct is left early; each that is consistent, not stopped and settled is the result's
pub record AgreesAt {A : Type 0} (one : Bool) (F : Trace Instance → Bool → Path Instance → End A → Type 0) (m : Memory) (r : Result A) : Type 0 where
  pub some : r.early ≡ false → Same F m r
  pub only : (tr : Trace Instance) (y : Bool) (p' : Path Instance) (e : End A) → F tr y p' e → Fits m tr → (e ≡ Stopped → ⊥) → Settled one r.early y → (p' ≡ r.path) × (e ≡ r.end) × (y ≡ r.early) × Does m tr r

abbrev pub Agrees : {A : Type 0} → Bool → Behaviour Instance A → Planned A → Type 0
Agrees one b g = (scope : Scope Instance) (p : Path Instance) (m : Memory) → b.safe scope p → AgreesAt one (λ tr y p' e. b.runs scope p tr y p' e) m (g scope p m)

-- ends

pub gives_inj : {A : Type 0} {a b : A} → ◌≡◌ {A = End A} (Gives a) (Gives b) → a ≡ b
gives_inj e = cc

pub leaves_inj : {A : Type 0} {x y : Leave} → ◌≡◌ {A = End A} (Leaves x) (Leaves y) → x ≡ y
leaves_inj e = cc

pub gives-ne-leaves : {A B : Type 0} {a : A} {x : Leave} → ◌≡◌ {A = End A} (Gives a) (Leaves x) → B
gives-ne-leaves e = absurd (cc)

pub gives-ne-spent : {A B : Type 0} {a : A} → ◌≡◌ {A = End A} (Gives a) Spent → B
gives-ne-spent e = absurd (cc)

pub gives-ne-stopped : {A B : Type 0} {a : A} → ◌≡◌ {A = End A} (Gives a) Stopped → B
gives-ne-stopped e = absurd (cc)

pub leaves-ne-spent : {A B : Type 0} {x : Leave} → ◌≡◌ {A = End A} (Leaves x) Spent → B
leaves-ne-spent e = absurd (cc)

pub leaves-ne-stopped : {A B : Type 0} {x : Leave} → ◌≡◌ {A = End A} (Leaves x) Stopped → B
leaves-ne-stopped e = absurd (cc)

pub spent-ne-stopped : {A B : Type 0} → ◌≡◌ {A = End A} Spent Stopped → B
spent-ne-stopped e = absurd (cc)

pub or_left : (a b : Bool) → (a || b) ≡ false → a ≡ false
or_left true b e = e
or_left false b e = refl

pub or_right : (a b : Bool) → (a || b) ≡ false → b ≡ false
or_right true b e = absurd (true≢false e)
or_right false b e = e

pub settled_left : (one a b c d : Bool) → Settled one (a || b) (c || d) → Settled one a c
settled_left one a b c d (inl e) = inl (or_left a b e)
settled_left one a b c d (inr (inl e)) = inr (inl (or_left c d e))
settled_left one a b c d (inr (inr e)) = inr (inr e)

pub settled_right : (one a b c d : Bool) → Settled one (a || b) (c || d) → Settled one b d
settled_right one a b c d (inl e) = inl (or_right a b e)
settled_right one a b c d (inr (inl e)) = inr (inl (or_right c d e))
settled_right one a b c d (inr (inr e)) = inr (inr e)

pub settled_first : (one a b y : Bool) → Settled one (a || b) y → Settled one a y
settled_first one a b y (inl e) = inl (or_left a b e)
settled_first one a b y (inr e) = inr e

pub output_of_append : (t u : Trace Instance) → output_of (t ++ u) ≡ output_of t ++ output_of u
output_of_append [] u = refl
output_of_append (Reads x i v ∷ t) u = output_of_append t u
output_of_append (Writes x i v ∷ t) u = output_of_append t u
output_of_append (Recalls h ∷ t) u = output_of_append t u
output_of_append (Keeps h ∷ t) u = output_of_append t u
output_of_append (Takes n b ∷ t) u = output_of_append t u
output_of_append (Looks ∷ t) u = output_of_append t u
output_of_append (Puts piece ∷ t) u = ap (λ z. piece ++ z) (output_of_append t u) ∙ sym (append_assoc piece (output_of t) (output_of u))

-- what is done at once

did_agrees : {A : Type 0} (one : Bool) (p : Path Instance) (m : Memory) (tr : Trace Instance) (r : Result A) → r.early ≡ false → Does m tr r → AgreesAt one (λ tr' y p' e. Did p tr r.path r.end tr' y p' e) m r
did_agrees one p m tr r calm d = record {
  some = λ _. record { trace = tr; runs = (calm, inl (refl, refl, inl refl)); does = d };
  only = λ tr' y p' e ran f ne _. ⊎_elim (λ h. ⊎_elim (λ k. (h.1, k, ran.0 ∙ sym calm, subst (λ z. Does m z r) (sym h.0) d)) (λ k. absurd (ne k)) h.2) (λ h. absurd (ne h.2)) ran.1;
}

pub ret_agrees : {A : Type 0} (one : Bool) (a : A) → Agrees one (Behaviours.ret a) (Planned.ret a)
ret_agrees one a scope p m safe = did_agrees one p m [] (plain p m (Gives a)) refl (record { fits = tt; memory = refl; out = refl })

pub leaves_agrees : {A : Type 0} (one : Bool) (x : Leave) → Agrees {A = A} one (Behaviours.leaves x) (Planned.leaves x)
leaves_agrees one x scope p m safe = did_agrees one p m [] (plain p m (Leaves x)) refl (record { fits = tt; memory = refl; out = refl })

pub spent_agrees : {A : Type 0} (one : Bool) → Agrees {A = A} one Behaviours.spent Planned.spent
spent_agrees one scope p m safe = did_agrees one p m [] (plain p m Spent) refl (record { fits = tt; memory = refl; out = refl })

pub emits_agree : (one : Bool) (a : Event Instance) (g : Planned (Unit {0})) → ((scope : Scope Instance) (p : Path Instance) (m : Memory) → Does m (a ∷ []) (g scope p m) × ((g scope p m).early ≡ false) × ((g scope p m).path ≡ p) × ((g scope p m).end ≡ Gives tt)) → Agrees one (Behaviours.emits a) g
emits_agree one a g h scope p m safe =
    let k = h scope p m in
    let d = did_agrees one p m (a ∷ []) (g scope p m) k.1 k.0 in
    record {
      some = λ c. let t = d.some c in record { trace = t.trace; runs = subst (λ z. Did p (a ∷ []) z (Gives tt) t.trace (g scope p m).early (g scope p m).path (g scope p m).end) k.2 (subst (λ z. Did p (a ∷ []) (g scope p m).path z t.trace (g scope p m).early (g scope p m).path (g scope p m).end) k.3 t.runs); does = t.does };
      only = λ tr y p' e ran f ne st. d.only tr y p' e (subst (λ z. Did p (a ∷ []) z (g scope p m).end tr y p' e) (sym k.2) (subst (λ z. Did p (a ∷ []) p z tr y p' e) (sym k.3) ran)) f ne st;
    }

pub where_agrees : {A : Type 0} (one : Bool) (f : Instance → Behaviour Instance A) (g : Instance → Planned A) → ((x : Instance) → Agrees one (f x) (g x)) → (x : Option Instance) → Agrees one (Behaviours.where_found f x) (Planned.where_found g x)
where_agrees one f g h None = leaves_agrees one (Raises reason.ProgramError)
where_agrees one f g h (Some x) = h x

-- what depends on the scope agrees where it agrees in each
pub scoped_agrees : {A : Type 0} (one : Bool) (f : Scope Instance → Behaviour Instance A) (g : Planned A) (h : Scope Instance → Planned A) → ((scope : Scope Instance) (p : Path Instance) (m : Memory) → h scope scope p m ≡ g scope p m) → ((scope : Scope Instance) → Agrees one (f scope) (h scope)) → Agrees one (Behaviours.with_scope f) g
scoped_agrees one f g h same agree scope p m safe = subst (λ z. AgreesAt one (λ tr y p' e. (f scope).runs scope p tr y p' e) m z) (same scope p m) (agree scope scope p m safe)

pub writes_agrees : (one : Bool) (x i : ℕ) (v : ℤ) → Agrees one (Behaviours.writes x i v) (Planned.writes x i v)
writes_agrees one x i v =
    scoped_agrees one _ (Planned.writes x i v) (λ scope. Planned.where_found (λ y t p m. plain p (put m y i v) (Gives tt)) (find scope (VariableOf x) i)) (λ scope p m. refl)
    (λ scope. where_agrees one _ _ (λ y. emits_agree one (Writes y i v) (λ t p m. plain p (put m y i v) (Gives tt)) (λ t p m. (record { fits = (tt, tt); memory = refl; out = refl }, refl, refl, refl))) (find scope (VariableOf x) i))

pub look_agrees : (one : Bool) → Agrees one (Behaviours.emits Looks) Planned.look
look_agrees one = emits_agree one Looks Planned.look (λ t p m. (record { fits = (tt, tt); memory = refl; out = refl }, refl, refl, refl))

pub puts_agrees : (one : Bool) (piece : List ℕ) → Agrees one (Behaviours.emits (Puts piece)) (Planned.puts piece)
puts_agrees one piece = emits_agree one (Puts piece) (Planned.puts piece) (λ t p m. (record { fits = (tt, tt); memory = refl; out = sym (append-nil piece) }, refl, refl, refl))

pub keeps_agrees : (one : Bool) (h : Held) → Agrees one (Behaviours.emits (Keeps h)) (Planned.keeps h)
keeps_agrees one h = emits_agree one (Keeps h) (Planned.keeps h) (λ t p m. (record { fits = (tt, tt); memory = refl; out = refl }, refl, refl, refl))

pub checks_agree : (one : Bool) (kind : CheckKind) (at : ℕ) (holds : Bool) → Agrees one (Runs.checks kind at holds) (Planned.checks kind at holds)
checks_agree one kind at true = ret_agrees one tt
checks_agree one kind at false = leaves_agrees one (Raises reason.ConstraintError)

pub apart_agrees : {A : Type 0} (one : Bool) (b : Behaviour Instance A) (g : Planned A) → Agrees one b g → Agrees one (Behaviours.apart b) (Planned.apart g)
apart_agrees one b g agree scope p m safe = agree (apart_of scope) p m safe

pub recalls_agrees : (one : Bool) → Agrees one Behaviours.recalls Planned.recalls
recalls_agrees one scope p m safe = record {
  some = λ _. record { trace = Recalls m.held ∷ []; runs = (m.held, (refl, inl (refl, refl, inl refl))); does = record { fits = (refl, tt); memory = refl; out = refl } };
  only = λ tr y p' e ran f ne _. ⊎_elim
      (λ h. ⊎_elim
      (λ k. let right : Fits m (Recalls ran.0 ∷ []) = subst (λ z. Fits m z) h.0 f in (h.1, k ∙ ap Gives right.0, ran.1.0, record { fits = f; memory = sym (ap (after m) h.0); out = sym (ap output_of h.0) }))
      (λ k. absurd (ne k)) h.2)
      (λ h. absurd (ne h.2)) ran.1.1;
}

pub takes_agrees : (one : Bool) → Agrees one Behaviours.takes Planned.takes
takes_agrees one scope p m safe = record {
  some = λ _. record { trace = Takes p.taken (m.input p.taken) ∷ []; runs = (m.input p.taken, (refl, inl (refl, refl, inl refl))); does = record { fits = (refl, tt); memory = refl; out = refl } };
  only = λ tr y p' e ran f ne _. ⊎_elim
      (λ h. ⊎_elim
      (λ k. let right : Fits m (Takes p.taken ran.0 ∷ []) = subst (λ z. Fits m z) h.0 f in (h.1, k ∙ ap Gives right.0, ran.1.0, record { fits = f; memory = sym (ap (after m) h.0); out = sym (ap output_of h.0) }))
      (λ k. absurd (ne k)) h.2)
      (λ h. absurd (ne h.2)) ran.1.1;
}

read_agrees : (one : Bool) (x : Instance) (i : ℕ) (cell : Scalar) → Agrees one (Behaviours.at_once (λ p tr y p' e. ((v : ℤ) × anything cell v × Did p (Reads x i v ∷ []) p (Gives v) tr y p' e) ⊎ Unbegun p tr y p' e)) (λ t p m. plain p m (Gives (m.cells x i)))
read_agrees one x i cell scope p m safe = record {
  some = λ _. record { trace = Reads x i (m.cells x i) ∷ []; runs = inl (m.cells x i, tt, (refl, inl (refl, refl, inl refl))); does = record { fits = (refl, tt); memory = refl; out = refl } };
  only = λ tr y p' e ran f ne _. ⊎_elim
      (λ r. ⊎_elim
      (λ h. ⊎_elim
      (λ k. let right : Fits m (Reads x i r.0 ∷ []) = subst (λ z. Fits m z) h.0 f in (h.1, k ∙ ap Gives right.0, r.2.0, record { fits = f; memory = sym (ap (after m) h.0); out = sym (ap output_of h.0) }))
      (λ k. absurd (ne k)) h.2)
      (λ h. absurd (ne h.2)) r.2.1)
      (λ u. absurd (ne u.3)) ran;
}

pub reads_agrees : (one : Bool) (x : Entity) (i : ℕ) (cell : Scalar) → Agrees one (Runs.reads anything x i cell) (Planned.reads x i cell)
reads_agrees one x i cell =
    scoped_agrees one _ (Planned.reads x i cell) (λ scope. Planned.where_found (λ y t p m. plain p m (Gives (m.cells y i))) (find scope x i)) (λ scope p m. refl)
    (λ scope. where_agrees one _ _ (λ y. read_agrees one y i cell) (find scope x i))

pub turn_agrees : (one : Bool) (limit : ℕ) → Agrees one (Behaviours.turn limit) (Planned.turn limit)
turn_agrees one limit scope p m safe = go (ltb p.turns limit) refl
  where
    go : (b : Bool) → ltb p.turns limit ≡ b → AgreesAt one (λ tr y p' e. (Behaviours.turn limit).runs scope p tr y p' e) m (cond b (plain (one_turn p) m (Gives tt)) (plain p m Spent))
    go true eq =
        let lt : p.turns < limit = ltb-true p.turns limit eq in
        let d = did_agrees one p m [] (plain (one_turn p) m (Gives tt)) refl (record { fits = tt; memory = refl; out = refl }) in
        let t = d.some refl in
        record {
          some = λ _. record { trace = t.trace; runs = inl (lt, t.runs); does = t.does };
          only = λ tr y p' e ran f ne s. ⊎_elim (λ h. d.only tr y p' e h.1 f ne s) (λ h. let le = h.0 in absurd (omega arith)) ran;
        }
    go false eq =
        let le : limit ≤ p.turns = ltb-false p.turns limit eq in
        let d = did_agrees one p m [] (plain p m Spent) refl (record { fits = tt; memory = refl; out = refl }) in
        let t = d.some refl in
        record {
          some = λ _. record { trace = t.trace; runs = inr (le, t.runs); does = t.does };
          only = λ tr y p' e ran f ne s. ⊎_elim (λ h. let lt = h.0 in absurd (omega arith)) (λ h. d.only tr y p' e h.1 f ne s) ran;
        }

-- one thing and then another

pub does_append : {A B : Type 0} (m : Memory) (t u : Trace Instance) (r : Result A) (s : Result B) → Does m t r → Does r.memory u s → Does m (t ++ u) (continued r s)
does_append m t u r s d e = record {
  fits = fits_append t u m d.fits (subst (λ z. Fits z u) d.memory e.fits);
  memory = e.memory ∙ ap (λ z. after z u) d.memory ∙ sym (after_append t u m);
  out = ap (λ z. z ++ s.output) d.out ∙ ap (λ z. output_of t ++ z) e.out ∙ sym (output_of_append t u);
}

does_ending : {A B : Type 0} (m : Memory) (t : Trace Instance) (r : Result A) (e : End B) → Does m t r → Does m t (ending r e)
does_ending m t r e d = record { fits = d.fits; memory = d.memory; out = d.out }

-- after a run that is the first's, the rest is as the second says
rest_agrees : {A B : Type 0} (one : Bool) (F : Trace Instance → Bool → Path Instance → End B → Type 0) (m : Memory) (r : Result A) (s : Result B) (t u tr : Trace Instance) (x z y : Bool) (p' : Path Instance) (e : End B)
    → AgreesAt one F r.memory s → Does m t r → x ≡ r.early → F u z p' e → tr ≡ t ++ u → y ≡ (x || z) → Fits m tr → (e ≡ Stopped → ⊥) → Settled one s.early z
    → (p' ≡ s.path) × (e ≡ s.end) × (y ≡ (r.early || s.early)) × Does m tr (continued r s)
rest_agrees one F m r s t u tr x z y p' e agrees d ex ran eq ey f ne st =
    let f' = (fits_split t u m (subst (λ z. Fits m z) eq f)).1 in
    let o = agrees.only u z p' e ran (subst (λ z. Fits z u) (sym d.memory) f') ne st in
    (o.0, o.1, ey ∙ ap₂ (λ v w. v || w) ex o.2, subst (λ z. Does m z (continued r s)) (sym eq) (does_append m t u r s d o.3))

some_continued : {A B : Type 0} (m : Memory) (r : Result A) (s : Result B) (F : Trace Instance → Bool → Path Instance → End B → Type 0) (t u : Trace Instance) → F (t ++ u) (r.early || s.early) s.path s.end → Does m t r → Does r.memory u s → Same F m (continued r s)
some_continued m r s F t u ran d e = record { trace = t ++ u; runs = ran; does = does_append m t u r s d e }

module _ {A B : Type 0} (one : Bool) (b : Behaviour Instance A) (k : A → Behaviour Instance B) (l : A → Planned B) (agree : (a : A) → Agrees one (k a) (l a)) where
  -- where the first ends without a value
  bind_ends : (scope : Scope Instance) (p : Path Instance) (m : Memory) (r : Result A) (e : End B) → Carries r.end e
      → ((a : A) → r.end ≡ Gives a → ⊥) → ((e' : End B) → Carries r.end e' → e' ≡ e)
      → AgreesAt one (λ tr y p' e. b.runs scope p tr y p' e) m r → AgreesAt one (λ tr y p' e. (Behaviours.◌>>=◌ b k).runs scope p tr y p' e) m (ending r e)
  bind_ends scope p m r e c none fixed first = record {
    some = λ calm. let t = first.some calm in record { trace = t.trace; runs = inr (r.end, c, t.runs); does = does_ending m t.trace r e t.does };
    only = λ tr y p' e' ran f ne st. ⊎_elim
        (λ h. let o = first.only h.2 h.4 h.1 (Gives h.0) h.8 (fits_split h.2 h.3 m (subst (λ z. Fits m z) h.6 f)).0 gives-ne-stopped (settled_early r.early y h.4 h.5 h.7 st) in absurd (none h.0 (sym o.1)))
        (λ h. let o = first.only tr y p' h.0 h.2 f (λ s. ne (subst (λ z. Carries z e') s h.1)) st in
        (o.0, fixed e' (subst (λ z. Carries z e') o.1 h.1), o.2, does_ending m tr r e o.3))
        ran;
  }
    where
      settled_early : (a y x z : Bool) → y ≡ (x || z) → Settled one a y → Settled one a x
      settled_early a y x z e (inl h) = inl h
      settled_early a y x z e (inr (inl h)) = inr (inl (or_left x z (sym e ∙ h)))
      settled_early a y x z e (inr (inr h)) = inr (inr h)

  bind_at : (scope : Scope Instance) (p : Path Instance) (m : Memory) (r : Result A) (e : End A) → r.end ≡ e → (Behaviours.◌>>=◌ b k).safe scope p
      → AgreesAt one (λ tr y p' e. b.runs scope p tr y p' e) m r
      → AgreesAt one (λ tr y p' e. (Behaviours.◌>>=◌ b k).runs scope p tr y p' e) m (next scope r e l)
  bind_at scope p m r (Gives a) eq safe first =
      let s = l a scope r.path r.memory in
      record {
        some = λ calm.
            let t = first.some (or_left r.early s.early calm) in
            let ran = subst (λ z. b.runs scope p t.trace r.early r.path z) eq t.runs in
            let u = (agree a scope r.path r.memory (safe.1 a r.path t.trace r.early ran)).some (or_right r.early s.early calm) in
            some_continued m r s (λ tr y p' e. (Behaviours.◌>>=◌ b k).runs scope p tr y p' e) t.trace u.trace
            (inl (a, r.path, t.trace, u.trace, r.early, s.early, refl, refl, ran, u.runs)) t.does u.does;
        only = λ tr y p' e ran' f ne st. ⊎_elim
            (λ h.
            let st' = subst (λ z. Settled one (r.early || s.early) z) h.7 st in
            let o = first.only h.2 h.4 h.1 (Gives h.0) h.8 (fits_split h.2 h.3 m (subst (λ z. Fits m z) h.6 f)).0 gives-ne-stopped (settled_left one r.early s.early h.4 h.5 st') in
            let same : h.0 ≡ a = gives_inj (o.1 ∙ eq) in
            let ran2 = subst (λ z. (k a).runs scope z h.3 h.5 p' e) o.0 (subst (λ z. (k z).runs scope h.1 h.3 h.5 p' e) same h.9) in
            let safe2 = subst (λ z. (k a).safe scope z) o.0 (subst (λ z. (k z).safe scope h.1) same (safe.1 h.0 h.1 h.2 h.4 h.8)) in
            rest_agrees one (λ tr y p' e. (k a).runs scope r.path tr y p' e) m r s h.2 h.3 tr h.4 h.5 y p' e (agree a scope r.path r.memory safe2) o.3 o.2 ran2 h.6 h.7 f ne (settled_right one r.early s.early h.4 h.5 st'))
            (λ h. let o = first.only tr y p' h.0 h.2 f (λ s. ne (subst (λ z. Carries z e) s h.1)) (settled_first one r.early s.early y st) in absurd (subst (λ z. Carries z e) (o.1 ∙ eq) h.1))
            ran';
      }
  bind_at scope p m r (Leaves x) eq safe first = bind_ends scope p m r (Leaves x) (subst (λ z. Carries {B = B} z (Leaves x)) (sym eq) refl) (λ a g. gives-ne-leaves (sym g ∙ eq)) (λ e' c. subst (λ z. Carries z e') eq c) first
  bind_at scope p m r Spent eq safe first = bind_ends scope p m r Spent (subst (λ z. Carries {B = B} z Spent) (sym eq) refl) (λ a g. gives-ne-spent (sym g ∙ eq)) (λ e' c. subst (λ z. Carries z e') eq c) first
  bind_at scope p m r Stopped eq safe first = bind_ends scope p m r Stopped (subst (λ z. Carries {B = B} z Stopped) (sym eq) refl) (λ a g. gives-ne-stopped (sym g ∙ eq)) (λ e' c. subst (λ z. Carries z e') eq c) first

pub bind_agrees : {A B : Type 0} (one : Bool) (b : Behaviour Instance A) (g : Planned A) (k : A → Behaviour Instance B) (l : A → Planned B) → Agrees one b g → ((a : A) → Agrees one (k a) (l a)) → Agrees one (Behaviours.◌>>=◌ b k) (Planned.◌>>=◌ g l)
bind_agrees one b g k l first agree scope p m safe = bind_at one b k l agree scope p m (g scope p m) (g scope p m).end refl safe (first scope p m safe.0)

-- what is left in some way

module _ {A : Type 0} (one : Bool) (b : Behaviour Instance A) (takes : Leave → Bool) (h : Leave → Behaviour Instance A) (i : Leave → Planned A) (agree : (x : Leave) → Agrees one (h x) (i x)) where
  -- where nothing is taken
  handles_ends : (scope : Scope Instance) (p : Path Instance) (m : Memory) (r : Result A) → Untaken takes r.end → ((x : Leave) → r.end ≡ Leaves x → takes x ≡ true → ⊥)
      → AgreesAt one (λ tr y p' e. b.runs scope p tr y p' e) m r → AgreesAt one (λ tr y p' e. (Behaviours.handles b takes h).runs scope p tr y p' e) m r
  handles_ends scope p m r un none first = record {
    some = λ calm. let t = first.some calm in record { trace = t.trace; runs = inr (t.runs, un); does = t.does };
    only = λ tr y p' e ran f ne st. ⊎_elim
        (λ k. let o = first.only k.2 k.4 k.1 (Leaves k.0) k.8 (fits_split k.2 k.3 m (subst (λ z. Fits m z) k.6 f)).0 leaves-ne-stopped (settled_early r.early y k.4 k.5 k.7 st) in absurd (none k.0 (sym o.1) k.9))
        (λ k. first.only tr y p' e k.0 f ne st)
        ran;
  }
    where
      settled_early : (a y x z : Bool) → y ≡ (x || z) → Settled one a y → Settled one a x
      settled_early a y x z e (inl h) = inl h
      settled_early a y x z e (inr (inl h)) = inr (inl (or_left x z (sym e ∙ h)))
      settled_early a y x z e (inr (inr h)) = inr (inr h)

  handles_taken : (scope : Scope Instance) (p : Path Instance) (m : Memory) (r : Result A) (x : Leave) → r.end ≡ Leaves x → takes x ≡ true → (Behaviours.handles b takes h).safe scope p
      → AgreesAt one (λ tr y p' e. b.runs scope p tr y p' e) m r
      → AgreesAt one (λ tr y p' e. (Behaviours.handles b takes h).runs scope p tr y p' e) m (continued r (i x scope r.path r.memory))
  handles_taken scope p m r x eq takes-x safe first =
      let s = i x scope r.path r.memory in
      record {
        some = λ calm.
            let t = first.some (or_left r.early s.early calm) in
            let ran = subst (λ z. b.runs scope p t.trace r.early r.path z) eq t.runs in
            let u = (agree x scope r.path r.memory (safe.1 x r.path t.trace r.early ran takes-x)).some (or_right r.early s.early calm) in
            some_continued m r s (λ tr y p' e. (Behaviours.handles b takes h).runs scope p tr y p' e) t.trace u.trace
            (inl (x, r.path, t.trace, u.trace, r.early, s.early, refl, refl, ran, takes-x, u.runs)) t.does u.does;
        only = λ tr y p' e ran' f ne st. ⊎_elim
            (λ k.
            let st' = subst (λ z. Settled one (r.early || s.early) z) k.7 st in
            let o = first.only k.2 k.4 k.1 (Leaves k.0) k.8 (fits_split k.2 k.3 m (subst (λ z. Fits m z) k.6 f)).0 leaves-ne-stopped (settled_left one r.early s.early k.4 k.5 st') in
            let same : k.0 ≡ x = leaves_inj (o.1 ∙ eq) in
            let ran2 = subst (λ z. (h x).runs scope z k.3 k.5 p' e) o.0 (subst (λ z. (h z).runs scope k.1 k.3 k.5 p' e) same k.10) in
            let safe2 = subst (λ z. (h x).safe scope z) o.0 (subst (λ z. (h z).safe scope k.1) same (safe.1 k.0 k.1 k.2 k.4 k.8 k.9)) in
            rest_agrees one (λ tr y p' e. (h x).runs scope r.path tr y p' e) m r s k.2 k.3 tr k.4 k.5 y p' e (agree x scope r.path r.memory safe2) o.3 o.2 ran2 k.6 k.7 f ne (settled_right one r.early s.early k.4 k.5 st'))
            (λ k. let o = first.only tr y p' e k.0 f ne (settled_first one r.early s.early y st) in absurd (true≢false (sym takes-x ∙ subst (λ z. Untaken takes z) (o.1 ∙ eq) k.1)))
            ran';
      }

  handles_at : (scope : Scope Instance) (p : Path Instance) (m : Memory) (r : Result A) (e : End A) → r.end ≡ e → (Behaviours.handles b takes h).safe scope p
      → AgreesAt one (λ tr y p' e. b.runs scope p tr y p' e) m r
      → AgreesAt one (λ tr y p' e. (Behaviours.handles b takes h).runs scope p tr y p' e) m (handled scope r e takes i)
  handles_at scope p m r (Gives a) eq safe first = handles_ends scope p m r (subst (λ z. Untaken takes z) (sym eq) tt) (λ x e t. gives-ne-leaves (sym eq ∙ e)) first
  handles_at scope p m r (Leaves x) eq safe first = go (takes x) refl
    where
      go : (c : Bool) → takes x ≡ c → AgreesAt one (λ tr y p' e. (Behaviours.handles b takes h).runs scope p tr y p' e) m (cond c (continued r (i x scope r.path r.memory)) r)
      go true t = handles_taken scope p m r x eq t safe first
      go false t = handles_ends scope p m r (subst (λ z. Untaken takes z) (sym eq) t) (λ y e u. true≢false (sym u ∙ ap takes (leaves_inj (sym e ∙ eq)) ∙ t)) first
  handles_at scope p m r Spent eq safe first = handles_ends scope p m r (subst (λ z. Untaken takes z) (sym eq) tt) (λ x e t. leaves-ne-spent (sym e ∙ eq)) first
  handles_at scope p m r Stopped eq safe first = handles_ends scope p m r (subst (λ z. Untaken takes z) (sym eq) tt) (λ x e t. leaves-ne-stopped (sym e ∙ eq)) first

pub handles_agrees : {A : Type 0} (one : Bool) (b : Behaviour Instance A) (g : Planned A) (takes : Leave → Bool) (h : Leave → Behaviour Instance A) (i : Leave → Planned A) → Agrees one b g → ((x : Leave) → Agrees one (h x) (i x)) → Agrees one (Behaviours.handles b takes h) (Planned.handles g takes i)
handles_agrees one b g takes h i first agree scope p m safe = handles_at one b takes h i agree scope p m (g scope p m) (g scope p m).end refl safe (first scope p m safe.0)

-- a thread

pub within_agrees : {A : Type 0} (one : Bool) (i : ℕ) (b : Behaviour Instance A) (g : Planned A) → Agrees one b g → Agrees one (Behaviours.within i b) (Planned.within i g)
within_agrees one i b g agree scope p m safe =
    let r = g scope (enter i p) m in
    let a = agree scope (enter i p) m safe in
    record {
      some = λ calm. let t = a.some calm in record { trace = t.trace; runs = (r.path, refl, t.runs); does = record { fits = t.does.fits; memory = t.does.memory; out = t.does.out } };
      only = λ tr y p' e ran f ne st.
          let o = a.only tr y ran.0 e ran.2 f ne st in
          (ran.1 ∙ ap (leave p) o.0, o.1, o.2, record { fits = o.3.fits; memory = o.3.memory; out = o.3.out });
    }

pub through_agrees : {A : Type 0} (one : Bool) (first size : ℕ) (a : A) (f : ℕ → A → Behaviour Instance A) (g : ℕ → A → Planned A) → ((i : ℕ) (b : A) → Agrees one (f i b) (g i b)) → Agrees one (through (Behaviours.doings Instance) first size a f) (through Planned.doings first size a g)
through_agrees one first zero a f g agree = ret_agrees one a
through_agrees one first (suc size) a f g agree = bind_agrees one (f first a) (g first a) (λ b. through (Behaviours.doings Instance) (suc first) size b f) (λ b. through Planned.doings (suc first) size b g) (agree first a) (λ b. through_agrees one (suc first) size b f g agree)

pub onto_agrees : (one : Bool) (a : ℤ) (more : List ℤ) (f : ℤ → ℤ → Behaviour Instance ℤ) (g : ℤ → ℤ → Planned ℤ) → ((b c : ℤ) → Agrees one (f b c) (g b c)) → Agrees one (onto (Behaviours.doings Instance) a more f) (onto Planned.doings a more g)
onto_agrees one a [] f g agree = ret_agrees one a
onto_agrees one a (b ∷ more) f g agree = bind_agrees one (f a b) (g a b) (λ c. onto (Behaviours.doings Instance) c more f) (λ c. onto Planned.doings c more g) (agree a b) (λ c. onto_agrees one c more f g agree)

-- a new instance

pub fillings_fit : (x : Instance) (i : ℕ) (vs : List ℤ) (rest : Trace Instance) (m : Memory) → Fits (put_all m x i vs) rest → Fits m (Behaviours.fillings x i vs ++ rest)
fillings_fit x i [] rest m f = f
fillings_fit x i (v ∷ vs) rest m f = (tt, fillings_fit x (suc i) vs rest (put m x i v) f)

pub rest_fits : (x : Instance) (i : ℕ) (vs : List ℤ) (rest : Trace Instance) (m : Memory) → Fits m (Behaviours.fillings x i vs ++ rest) → Fits (put_all m x i vs) rest
rest_fits x i [] rest m f = f
rest_fits x i (v ∷ vs) rest m f = rest_fits x (suc i) vs rest (put m x i v) f.1

pub after_fillings : (x : Instance) (i : ℕ) (vs : List ℤ) (rest : Trace Instance) (m : Memory) → after m (Behaviours.fillings x i vs ++ rest) ≡ after (put_all m x i vs) rest
after_fillings x i [] rest m = refl
after_fillings x i (v ∷ vs) rest m = after_fillings x (suc i) vs rest (put m x i v)

pub output_fillings : (x : Instance) (i : ℕ) (vs : List ℤ) (rest : Trace Instance) → output_of (Behaviours.fillings x i vs ++ rest) ≡ output_of rest
output_fillings x i [] rest = refl
output_fillings x i (v ∷ vs) rest = output_fillings x (suc i) vs rest

does_filled : {A : Type 0} (x : Instance) (vs : List ℤ) (rest : Trace Instance) (m : Memory) (r : Result A) → Does (put_all m x 0 vs) rest r → Does m (Behaviours.fillings x 0 vs ++ rest) r
does_filled x vs rest m r d = record { fits = fillings_fit x 0 vs rest m d.fits; memory = d.memory ∙ sym (after_fillings x 0 vs rest m); out = d.out ∙ sym (output_fillings x 0 vs rest) }

module _ (limit : ℕ) (cuts : ℕ → ℕ → List ℕ) (one : Bool) where
  pub elaborates_agree : {A : Type 0} (region : Region) (x : Entity) (vs : List ℤ) (b : Behaviour Instance A) (g : Planned A) → Agrees one b g → Agrees one (Behaviours.elaborates this region x vs b) (Planned.elaborates region x vs g)
  elaborates_agree region x vs b g agree scope p m safe =
      let l = here x p in
      let a = agree (declares region x l (length vs) scope) (one_elaboration region l p) (put_all m l 0 vs) safe in
      let r = Planned.elaborates region x vs g scope p m in
      record {
        some = λ calm. let t = a.some calm in record { trace = Behaviours.fillings l 0 vs ++ t.trace; runs = inl (t.trace, refl, t.runs); does = does_filled l vs t.trace m r t.does };
        only = λ tr y p' e ran f ne st. ⊎_elim
            (λ h.
            let f' : Fits m (Behaviours.fillings l 0 vs ++ h.0) = subst (λ z. Fits m z) h.1 f in
            let o = a.only h.0 y p' e h.2 (rest_fits l 0 vs h.0 m f') ne st in
            (o.0, o.1, o.2, subst (λ z. Does m z r) (sym h.1) (does_filled l vs h.0 m r o.3)))
            (λ h. absurd (ne h.2)) ran;
      }
