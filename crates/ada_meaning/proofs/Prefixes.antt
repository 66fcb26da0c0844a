-- What a run has put out up to some place in it is a prefix of what the planned run puts out, where no construct is left
-- early and no thread has a race.
use Rattle.std.proofs.Common.{◌≡◌, length, ℕ, ℤ, List, [], ◌∷◌, ◌++◌, ◌⊎◌, Option, inl, inr, ⊎_elim, Bool, true, false, cond, ◌||◌, refl, sym, subst, ap, ◌∙◌, true≢false}
use Rattle.std.proofs.lemmas.List.{append_assoc, append-nil}
use Rattle.typed_tree.specs.declared.expressions.Reducer.{Reducer}
use Rattle.typed_tree.specs.declared.expressions.Reducer.TheVariants.{Operator, Function}
use Rattle.typed_tree.specs.Syntax.{Program}
use Rattle.ada_base.specs.Input.{Held}
use Rattle.behaviours.specs.Doings.{onto}
use Rattle.behaviours.specs.Paths.{Leave, Entity, Region, Instance, End, Gives, Leaves, Spent, Stopped, Path, Scope, declares, apart_of, one_taken, one_elaboration}
use Rattle.behaviours.specs.Events.{Reads, Writes, Recalls, Keeps, Takes, Puts, Looks, Trace, output_of, Has, IsInputOutput}
use Rattle.behaviours.specs.Memory.{Memory, put_all, Fits}
use Rattle.behaviours.specs.Joins.{Site, deal}
use Rattle.behaviours.specs.Behaviours
use Rattle.behaviours.specs.Behaviours.{Behaviour, Did, asks_at_once}
use Rattle.ada_meaning.specs.Operations.{Cut, chunk_of, Operations, reduce, operate}
use Rattle.ada_meaning.specs.Meaning.{main}
use Rattle.ada_meaning.specs.Runs
use Rattle.ada_meaning.specs.Runs.{anything}
use Rattle.ada_meaning.specs.Programs.{this}
use Rattle.ada_meaning.specs.Planned
use Rattle.ada_meaning.specs.Planned.{Result, Planned, ending, continued, next, handled, here}
use Rattle.ada_meaning.specs.Law.{IsPrefix}
use Rattle.ada_meaning.specs.Nonblocking.{KeepsRule}
use Rattle.ada_meaning.proofs.Agrees.{Agrees, AgreesAt, Does, Settled, gives_inj, gives-ne-leaves, gives-ne-spent, gives-ne-stopped, leaves_inj, leaves-ne-spent, leaves-ne-stopped, or_left, settled_left, settled_right, settled_first, output_of_append, output_fillings, rest_fits}
use Rattle.ada_meaning.proofs.Quiet.{Quiet, has_front, ret_quiet, reads_quiet, writes_quiet, turn_quiet, checks_quiet, leaves_quiet, spent_quiet, emits_quiet}
use Rattle.ada_meaning.proofs.PlanLaw
use Rattle.ada_meaning.proofs.PlanLaw.{AgreesIn}
use Rattle.ada_meaning.proofs.Induction
use Rattle.ada_meaning.proofs.Induction.{Relates}
use Rattle.behaviours.proofs.Shuffle.{fits_split}

-- prefixes

tails : {A : Type 0} {a b : A} {t u : List A} → a ∷ t ≡ b ∷ u → t ≡ u
tails e = cc

heads : {A : Type 0} {a b : A} {t u : List A} → a ∷ t ≡ b ∷ u → a ≡ b
heads e = cc

-- where two lists joined are two others joined, the first ends in the first of those, or behind it
split : {A : Type 0} (front back t u : List A) → front ++ back ≡ t ++ u → ((rest : List A) × (t ≡ front ++ rest)) ⊎ ((rest : List A) × (front ≡ t ++ rest) × (u ≡ rest ++ back))
split [] back t u e = inl (t, refl)
split (a ∷ front) back [] u e = inr (a ∷ front, refl, sym e)
split {A} (a ∷ front) back (b ∷ t) u e =
    let one : a ≡ b = heads e in
    ⊎_elim (λ h. inl (h.0, ap (λ (z : A). z ∷ t) (sym one) ∙ ap (λ (z : List A). a ∷ z) h.1)) (λ h. inr (h.0, ap (λ (z : A). z ∷ front) one ∙ ap (λ (z : List A). b ∷ z) h.1, h.2))
    (split front back t u (tails e))

prefix_none : (w : List ℕ) → IsPrefix [] w
prefix_none w = (w, refl)

prefix_longer : (o w u : List ℕ) → IsPrefix o w → IsPrefix o (w ++ u)
prefix_longer o w u (rest, e) = (rest ++ u, ap (λ z. z ++ u) e ∙ append_assoc o rest u)

prefix_behind : (o w u : List ℕ) → IsPrefix o u → IsPrefix (w ++ o) (w ++ u)
prefix_behind o w u (rest, e) = (rest, ap (λ z. w ++ z) e ∙ sym (append_assoc w o rest))

pub prefix_shorter : (o u w : List ℕ) → IsPrefix (o ++ u) w → IsPrefix o w
prefix_shorter o u w (rest, e) = (u ++ rest, e ∙ append_assoc o u rest)

prefix_nothing : (o w : List ℕ) → IsPrefix o [] → IsPrefix o w
prefix_nothing [] w h = prefix_none w
prefix_nothing (a ∷ o) w (rest, e) = absurd cc

front_puts : (front back tr : Trace Instance) → front ++ back ≡ tr → IsPrefix (output_of front) (output_of tr)
front_puts front back tr e = (output_of back, ap output_of (sym e) ∙ output_of_append front back)

no_output : (tr : Trace Instance) → (Has IsInputOutput tr → ⊥) → output_of tr ≡ []
no_output [] none = refl
no_output (Reads x i v ∷ tr) none = no_output tr (λ h. none (inr h))
no_output (Writes x i v ∷ tr) none = no_output tr (λ h. none (inr h))
no_output (Recalls h ∷ tr) none = no_output tr (λ h. none (inr h))
no_output (Keeps h ∷ tr) none = no_output tr (λ h. none (inr h))
no_output (Takes n b ∷ tr) none = no_output tr (λ h. none (inr h))
no_output (Puts piece ∷ tr) none = absurd (none (inl tt))
no_output (Looks ∷ tr) none = no_output tr (λ h. none (inr h))

-- a front of a run, consistent up to there, whether the rest is or isn't
abbrev pub BeginsAt : {A : Type 0} → Bool → (Trace Instance → Bool → Path Instance → End A → Type 0) → Memory → Result A → Type 0
BeginsAt {A} one F m r = (front back : Trace Instance) (y : Bool) (p' : Path Instance) (e : End A) → F (front ++ back) y p' e → Fits m front → Settled one r.early y → IsPrefix (output_of front) r.output

abbrev pub Begins : {A : Type 0} → Bool → Behaviour Instance A → Planned A → Type 0
Begins one b g = (scope : Scope Instance) (p : Path Instance) (m : Memory) → b.safe scope p → BeginsAt one (λ tr y p' e. b.runs scope p tr y p' e) m (g scope p m)

quiet_begins : {A : Type 0} (one : Bool) (b : Behaviour Instance A) (g : Planned A) → Quiet b → Begins one b g
quiet_begins one b g quiet scope p m safe front back y p' e ran f st =
    subst (λ z. IsPrefix z (g scope p m).output) (sym (no_output front (λ h. quiet scope p (front ++ back) y p' e ran (has_front IsInputOutput front back h)))) (prefix_none (g scope p m).output)

-- what is done at once

did_begins : {A : Type 0} (p : Path Instance) (act : Trace Instance) (q : Path Instance) (end : End A) (front back : Trace Instance) (y : Bool) (p' : Path Instance) (e : End A) (w : List ℕ) → output_of act ≡ w
    → Did p act q end (front ++ back) y p' e → IsPrefix (output_of front) w
did_begins p act q end front back y p' e w is (z, inl d) = subst (λ z. IsPrefix (output_of front) z) is (front_puts front back act d.0)
did_begins p act q end front back y p' e w is (z, inr d) = prefix_nothing (output_of front) w (front_puts front back [] d.0)

puts_begins : (one : Bool) (piece : List ℕ) → Begins one (Behaviours.emits (Puts piece)) (Planned.puts piece)
puts_begins one piece scope p m safe front back y p' e ran f st = did_begins p (Puts piece ∷ []) p (Gives tt) front back y p' e piece (append-nil piece) ran

keeps_begins : (one : Bool) (h : Held) → Begins one (Behaviours.emits (Keeps h)) (Planned.keeps h)
keeps_begins one h scope p m safe front back y p' e ran f st = did_begins p (Keeps h ∷ []) p (Gives tt) front back y p' e [] refl ran

recalls_begins : (one : Bool) → Begins one Behaviours.recalls Planned.recalls
recalls_begins one scope p m safe front back y p' e ran f st = did_begins p (Recalls ran.0 ∷ []) p (Gives ran.0) front back y p' e [] refl ran.1

takes_begins : (one : Bool) → Begins one Behaviours.takes Planned.takes
takes_begins one scope p m safe front back y p' e ran f st = did_begins p (Takes p.taken ran.0 ∷ []) (one_taken p) (Gives ran.0) front back y p' e [] refl ran.1

-- one thing and then another

settled_before : (one a y x z : Bool) → y ≡ (x || z) → Settled one a y → Settled one a x
settled_before one a y x z e (inl h) = inl h
settled_before one a y x z e (inr (inl h)) = inr (inl (or_left x z (sym e ∙ h)))
settled_before one a y x z e (inr (inr h)) = inr (inr h)

settled_both : (one a b y x z : Bool) → y ≡ (x || z) → Settled one (a || b) y → Settled one a x × Settled one b z
settled_both one a b y x z e st =
    let st' = subst (λ w. Settled one (a || b) w) e st in
    (settled_left one a b x z st', settled_right one a b x z st')

-- a front that ends in a part, or behind one that is the result's
within_begins : {A B : Type 0} (one : Bool) (F : Trace Instance → Bool → Path Instance → End A → Type 0) (m : Memory) (r : Result A) (s : Result B) (t rest front : Trace Instance) (x : Bool) (p' : Path Instance) (e : End A)
    → BeginsAt one F m r → F t x p' e → t ≡ front ++ rest → Fits m front → Settled one r.early x → IsPrefix (output_of front) (continued r s).output
within_begins one F m r s t rest front x p' e begun ran is fits st = prefix_longer (output_of front) r.output s.output (begun front rest x p' e (subst (λ z. F z x p' e) is ran) fits st)

rest_begins : {A B : Type 0} (one : Bool) (F : Trace Instance → Bool → Path Instance → End B → Type 0) (m : Memory) (r : Result A) (s : Result B) (t u rest front back : Trace Instance) (z : Bool) (p' : Path Instance) (e : End B)
    → BeginsAt one F r.memory s → Does m t r → F u z p' e → front ≡ t ++ rest → u ≡ rest ++ back → Fits m front → Settled one s.early z → IsPrefix (output_of front) (continued r s).output
rest_begins one F m r s t u rest front back z p' e begun d ran is behind fits st =
    let f = (fits_split t rest m (subst (λ w. Fits m w) is fits)).1 in
    let h = begun rest back z p' e (subst (λ w. F w z p' e) behind ran) (subst (λ w. Fits w rest) (sym d.memory) f) st in
    subst (λ w. IsPrefix w (r.output ++ s.output)) (ap (λ w. w ++ output_of rest) d.out ∙ sym (output_of_append t rest) ∙ ap output_of (sym is)) (prefix_behind (output_of rest) r.output s.output h)

module _ {A B : Type 0} (one : Bool) (b : Behaviour Instance A) (k : A → Behaviour Instance B) (l : A → Planned B) (begin : (a : A) → Begins one (k a) (l a)) where
  -- where the first ends without a value
  bind_ends : (scope : Scope Instance) (p : Path Instance) (m : Memory) (r : Result A) (end : End B) → ((a : A) → r.end ≡ Gives a → ⊥)
      → AgreesAt one (λ tr y p' e. b.runs scope p tr y p' e) m r → BeginsAt one (λ tr y p' e. b.runs scope p tr y p' e) m r
      → BeginsAt one (λ tr y p' e. (Behaviours.◌>>=◌ b k).runs scope p tr y p' e) m (ending r end)
  bind_ends scope p m r end none first begun front back y p' e ran f st = ⊎_elim
      (λ h.
      let st' = settled_before one r.early y h.4 h.5 h.7 st in
      ⊎_elim
      (λ c. begun front c.0 h.4 h.1 (Gives h.0) (subst (λ z. b.runs scope p z h.4 h.1 (Gives h.0)) c.1 h.8) f st')
      (λ c. let o = first.only h.2 h.4 h.1 (Gives h.0) h.8 (fits_split h.2 c.0 m (subst (λ z. Fits m z) c.1 f)).0 gives-ne-stopped st' in absurd (none h.0 (sym o.1)))
      (split front back h.2 h.3 h.6))
      (λ h. begun front back y p' h.0 h.2 f st)
      ran

  bind_at : (scope : Scope Instance) (p : Path Instance) (m : Memory) (r : Result A) (end : End A) → r.end ≡ end → (Behaviours.◌>>=◌ b k).safe scope p
      → AgreesAt one (λ tr y p' e. b.runs scope p tr y p' e) m r → BeginsAt one (λ tr y p' e. b.runs scope p tr y p' e) m r
      → BeginsAt one (λ tr y p' e. (Behaviours.◌>>=◌ b k).runs scope p tr y p' e) m (next scope r end l)
  bind_at scope p m r (Gives a) eq safe first begun = λ front back y p' e ran f st. ⊎_elim
      (λ h.
      let st' = settled_both one r.early (l a scope r.path r.memory).early y h.4 h.5 h.7 st in
      ⊎_elim
      (λ c. within_begins one (λ tr y p' e. b.runs scope p tr y p' e) m r (l a scope r.path r.memory) h.2 c.0 front h.4 h.1 (Gives h.0) begun h.8 c.1 f st'.0)
      (λ c.
      let o = first.only h.2 h.4 h.1 (Gives h.0) h.8 (fits_split h.2 c.0 m (subst (λ z. Fits m z) c.1 f)).0 gives-ne-stopped st'.0 in
      let same : h.0 ≡ a = gives_inj (o.1 ∙ eq) in
      let ran2 = subst (λ z. (k a).runs scope z h.3 h.5 p' e) o.0 (subst (λ z. (k z).runs scope h.1 h.3 h.5 p' e) same h.9) in
      let safe2 = subst (λ z. (k a).safe scope z) o.0 (subst (λ z. (k z).safe scope h.1) same (safe.1 h.0 h.1 h.2 h.4 h.8)) in
      rest_begins one (λ tr y p' e. (k a).runs scope r.path tr y p' e) m r (l a scope r.path r.memory) h.2 h.3 c.0 front back h.5 p' e (begin a scope r.path r.memory safe2) o.3 ran2 c.1 c.2 f st'.1)
      (split front back h.2 h.3 h.6))
      (λ h. prefix_longer (output_of front) r.output (l a scope r.path r.memory).output (begun front back y p' h.0 h.2 f (settled_first one r.early (l a scope r.path r.memory).early y st)))
      ran
  bind_at scope p m r (Leaves x) eq safe first begun = bind_ends scope p m r (Leaves x) (λ a g. gives-ne-leaves (sym g ∙ eq)) first begun
  bind_at scope p m r Spent eq safe first begun = bind_ends scope p m r Spent (λ a g. gives-ne-spent (sym g ∙ eq)) first begun
  bind_at scope p m r Stopped eq safe first begun = bind_ends scope p m r Stopped (λ a g. gives-ne-stopped (sym g ∙ eq)) first begun

bind_begins : {A B : Type 0} (one : Bool) (b : Behaviour Instance A) (g : Planned A) (k : A → Behaviour Instance B) (l : A → Planned B) → Agrees one b g → Begins one b g → ((a : A) → Begins one (k a) (l a)) → Begins one (Behaviours.◌>>=◌ b k) (Planned.◌>>=◌ g l)
bind_begins one b g k l agrees begins begin scope p m safe = bind_at one b k l begin scope p m (g scope p m) (g scope p m).end refl safe (agrees scope p m safe.0) (begins scope p m safe.0)

onto_begins : (one : Bool) (a : ℤ) (more : List ℤ) (f : ℤ → ℤ → Behaviour Instance ℤ) (g : ℤ → ℤ → Planned ℤ) → ((b c : ℤ) → Agrees one (f b c) (g b c)) → ((b c : ℤ) → Begins one (f b c) (g b c)) → Begins one (onto (Behaviours.doings Instance) a more f) (onto Planned.doings a more g)
onto_begins one a [] f g agrees begins = quiet_begins one (Behaviours.ret a) (Planned.ret a) (ret_quiet a)
onto_begins one a (b ∷ more) f g agrees begins =
    bind_begins one (f a b) (g a b) (λ c. onto (Behaviours.doings Instance) c more f) (λ c. onto Planned.doings c more g) (agrees a b) (begins a b) (λ c. onto_begins one c more f g agrees begins)

-- what is left in some way

module _ {A : Type 0} (one : Bool) (b : Behaviour Instance A) (takes : Leave → Bool) (h : Leave → Behaviour Instance A) (i : Leave → Planned A) (begin : (x : Leave) → Begins one (h x) (i x)) where
  -- where nothing is taken
  handles_ends : (scope : Scope Instance) (p : Path Instance) (m : Memory) (r : Result A) → ((x : Leave) → r.end ≡ Leaves x → takes x ≡ true → ⊥)
      → AgreesAt one (λ tr y p' e. b.runs scope p tr y p' e) m r → BeginsAt one (λ tr y p' e. b.runs scope p tr y p' e) m r
      → BeginsAt one (λ tr y p' e. (Behaviours.handles b takes h).runs scope p tr y p' e) m r
  handles_ends scope p m r none first begun front back y p' e ran f st = ⊎_elim
      (λ k.
      let st' = settled_before one r.early y k.4 k.5 k.7 st in
      ⊎_elim
      (λ c. begun front c.0 k.4 k.1 (Leaves k.0) (subst (λ z. b.runs scope p z k.4 k.1 (Leaves k.0)) c.1 k.8) f st')
      (λ c. let o = first.only k.2 k.4 k.1 (Leaves k.0) k.8 (fits_split k.2 c.0 m (subst (λ z. Fits m z) c.1 f)).0 leaves-ne-stopped st' in absurd (none k.0 (sym o.1) k.9))
      (split front back k.2 k.3 k.6))
      (λ k. begun front back y p' e k.0 f st)
      ran

  handles_taken : (scope : Scope Instance) (p : Path Instance) (m : Memory) (r : Result A) (x : Leave) → r.end ≡ Leaves x → (Behaviours.handles b takes h).safe scope p
      → AgreesAt one (λ tr y p' e. b.runs scope p tr y p' e) m r → BeginsAt one (λ tr y p' e. b.runs scope p tr y p' e) m r
      → BeginsAt one (λ tr y p' e. (Behaviours.handles b takes h).runs scope p tr y p' e) m (continued r (i x scope r.path r.memory))
  handles_taken scope p m r x eq safe first begun front back y p' e ran f st = ⊎_elim
      (λ k.
      let st' = settled_both one r.early (i x scope r.path r.memory).early y k.4 k.5 k.7 st in
      ⊎_elim
      (λ c. within_begins one (λ tr y p' e. b.runs scope p tr y p' e) m r (i x scope r.path r.memory) k.2 c.0 front k.4 k.1 (Leaves k.0) begun k.8 c.1 f st'.0)
      (λ c.
      let o = first.only k.2 k.4 k.1 (Leaves k.0) k.8 (fits_split k.2 c.0 m (subst (λ z. Fits m z) c.1 f)).0 leaves-ne-stopped st'.0 in
      let same : k.0 ≡ x = leaves_inj (o.1 ∙ eq) in
      let ran2 = subst (λ z. (h x).runs scope z k.3 k.5 p' e) o.0 (subst (λ z. (h z).runs scope k.1 k.3 k.5 p' e) same k.10) in
      let safe2 = subst (λ z. (h x).safe scope z) o.0 (subst (λ z. (h z).safe scope k.1) same (safe.1 k.0 k.1 k.2 k.4 k.8 k.9)) in
      rest_begins one (λ tr y p' e. (h x).runs scope r.path tr y p' e) m r (i x scope r.path r.memory) k.2 k.3 c.0 front back k.5 p' e (begin x scope r.path r.memory safe2) o.3 ran2 c.1 c.2 f st'.1)
      (split front back k.2 k.3 k.6))
      (λ k. prefix_longer (output_of front) r.output (i x scope r.path r.memory).output (begun front back y p' e k.0 f (settled_first one r.early (i x scope r.path r.memory).early y st)))
      ran

  handles_at : (scope : Scope Instance) (p : Path Instance) (m : Memory) (r : Result A) (end : End A) → r.end ≡ end → (Behaviours.handles b takes h).safe scope p
      → AgreesAt one (λ tr y p' e. b.runs scope p tr y p' e) m r → BeginsAt one (λ tr y p' e. b.runs scope p tr y p' e) m r
      → BeginsAt one (λ tr y p' e. (Behaviours.handles b takes h).runs scope p tr y p' e) m (handled scope r end takes i)
  handles_at scope p m r (Gives a) eq safe first begun = handles_ends scope p m r (λ x e t. gives-ne-leaves (sym eq ∙ e)) first begun
  handles_at scope p m r (Leaves x) eq safe first begun = go (takes x) refl
    where
      go : (c : Bool) → takes x ≡ c → BeginsAt one (λ tr y p' e. (Behaviours.handles b takes h).runs scope p tr y p' e) m (cond c (continued r (i x scope r.path r.memory)) r)
      go true t = handles_taken scope p m r x eq safe first begun
      go false t = handles_ends scope p m r (λ y e u. true≢false (sym u ∙ ap takes (leaves_inj (sym e ∙ eq)) ∙ t)) first begun
  handles_at scope p m r Spent eq safe first begun = handles_ends scope p m r (λ x e t. leaves-ne-spent (sym e ∙ eq)) first begun
  handles_at scope p m r Stopped eq safe first begun = handles_ends scope p m r (λ x e t. leaves-ne-stopped (sym e ∙ eq)) first begun

handles_begin : {A : Type 0} (one : Bool) (b : Behaviour Instance A) (g : Planned A) (takes : Leave → Bool) (h : Leave → Behaviour Instance A) (i : Leave → Planned A) → Agrees one b g → Begins one b g → ((x : Leave) → Begins one (h x) (i x)) → Begins one (Behaviours.handles b takes h) (Planned.handles g takes i)
handles_begin one b g takes h i agrees begins begin scope p m safe = handles_at one b takes h i begin scope p m (g scope p m) (g scope p m).end refl safe (agrees scope p m safe.0) (begins scope p m safe.0)

-- a new instance

elaborates_begin : {A : Type 0} (one : Bool) (region : Region) (x : Entity) (vs : List ℤ) (b : Behaviour Instance A) (g : Planned A) → Begins one b g → Begins one (Behaviours.elaborates this region x vs b) (Planned.elaborates region x vs g)
elaborates_begin {A} one region x vs b g begins scope p m safe front back y p' e ran f st = ⊎_elim
    (λ h. ⊎_elim
    (λ c. filling front c.0 (sym c.1))
    (λ c. subst (λ z. IsPrefix z r.output) (sym (ap output_of c.1 ∙ output_fillings l 0 vs c.0))
    (begins (declares region x l (length vs) scope) (one_elaboration region l p) (put_all m l 0 vs) safe c.0 back y p' e
    (subst (λ z. b.runs (declares region x l (length vs) scope) (one_elaboration region l p) z y p' e) c.2 h.2)
    (rest_fits l 0 vs c.0 m (subst (λ z. Fits m z) c.1 f)) st))
    (split front back (Behaviours.fillings l 0 vs) h.0 h.1))
    (λ h. filling front (back ++ h.3.0) (sym (h.3.1 ∙ append_assoc front back h.3.0)))
    ran
  where
    l : Instance
    l = here x p

    r : Result A
    r = Planned.elaborates region x vs g scope p m

    nothing : output_of (Behaviours.fillings l 0 vs) ≡ []
    nothing = ap output_of (sym (append-nil (Behaviours.fillings l 0 vs))) ∙ output_fillings l 0 vs []

    filling : (front rest : Trace Instance) → front ++ rest ≡ Behaviours.fillings l 0 vs → IsPrefix (output_of front) r.output
    filling front rest is = prefix_nothing (output_of front) r.output (subst (λ z. IsPrefix (output_of front) z) nothing (front_puts front rest (Behaviours.fillings l 0 vs) is))

-- programs

module _ (limit : ℕ) (cuts : ℕ → ℕ → List ℕ) (one : Bool) where
  abbrev runs : Operations {1}
  runs = Runs.operations Instance this anything asks_at_once limit cuts one

  abbrev plans : Operations {0}
  plans = Planned.operations limit cuts

  abbrev same : Relates {1, 0, 0} runs plans
  same = PlanLaw.agree limit cuts one

  record BeginsIn {A : Type 0} (w : Bool) (b : Behaviour Instance A) (g : Planned A) : Type 0 where
    pub agrees : AgreesIn limit cuts one w b g
    pub begins : Begins one b g

  quietly : {A : Type 0} (w : Bool) (b : Behaviour Instance A) (g : Planned A) → AgreesIn limit cuts one w b g → Quiet b → BeginsIn w b g
  quietly w b g a quiet = record { agrees = a; begins = quiet_begins one b g quiet }

  step_begins : (w : Bool) (by : Reducer) (at : ℕ) (f : ℤ → ℤ → Behaviour Instance ℤ) (g : ℤ → ℤ → Planned ℤ) → ((a b : ℤ) → BeginsIn w (f a b) (g a b)) → (a b : ℤ) → Begins one (reduce runs.doings runs.checks by at f a b) (reduce plans.doings plans.checks by at g a b)
  step_begins w (Operator t op class) at f g r a b = quiet_begins one (operate runs.doings runs.checks op at class a b) (operate plans.doings plans.checks op at class a b) (PlanLaw.operates limit cuts one op at class a b).quiet
  step_begins w (Function t s x y) at f g r a b = (r a b).begins

  combined_begins : (f : ℤ → ℤ → Behaviour Instance ℤ) (g : ℤ → ℤ → Planned ℤ) → ((a b : ℤ) → Agrees one (f a b) (g a b)) → ((a b : ℤ) → Begins one (f a b) (g a b)) → (v : ℤ) (values : List ℤ)
      → Begins one (Runs.combined Instance this anything asks_at_once limit cuts one v values f) (Planned.combined limit cuts v values g)
  combined_begins f g agrees begins v [] = quiet_begins one (runs.ret v) (plans.ret v) (ret_quiet v)
  combined_begins f g agrees begins v (a ∷ more) = onto_begins one a more f g agrees begins

  reduces_begin : (w : Bool) (site : Site) (cut : Cut) (by : Reducer) (at : ℕ) (v : ℤ) (f : ℕ → ℕ → Behaviour Instance (Option ℤ)) (g : ℕ → ℕ → Planned (Option ℤ)) (c c' : ℤ → ℤ → Behaviour Instance ℤ) (d d' : ℤ → ℤ → Planned ℤ)
      → ((j i : ℕ) → BeginsIn false (f j i) (g j i)) → ((a b : ℤ) → BeginsIn false (c a b) (d a b)) → ((a b : ℤ) → BeginsIn w (c' a b) (d' a b)) → Begins one (runs.reduces site cut by at v f c c') (plans.reduces site cut by at v g d d')
  reduces_begin w site cut by at v f g c c' d d' r t u =
      let js = deal 0 0 (Runs.sizes_of Instance this anything asks_at_once limit cuts one cut) in
      let m = Behaviours.par asks_at_once one site js (Runs.fold_thread by at v (λ j. f (chunk_of cut j)) c) in
      let n = Planned.par js (Planned.fold_thread by at v (λ j. g (chunk_of cut j)) d) in
      let k = λ (values : List ℤ). Runs.combined Instance this anything asks_at_once limit cuts one v values (reduce runs.doings runs.checks by at c') in
      let l = λ (values : List ℤ). Planned.combined limit cuts v values (reduce plans.doings plans.checks by at d') in
      let a = PlanLaw.accumulators limit cuts one by at v (λ j. f (chunk_of cut j)) (λ j. g (chunk_of cut j)) c d
      (λ j i. PlanLaw.silent limit cuts one (r (chunk_of cut j) i).agrees) (λ x y. PlanLaw.silent limit cuts one (t x y).agrees) site js in
      bind_begins one m n k l a.agrees (quiet_begins one m n a.quiet) (λ values. combined_begins (reduce runs.doings runs.checks by at c') (reduce plans.doings plans.checks by at d')
      (λ x y. (PlanLaw.step_in limit cuts one w by at c' d' (λ a b. (u a b).agrees) x y).agrees) (step_begins w by at c' d' u) v values)

  begin : Relates {1, 0, 0} runs plans
  unfolding PlanLaw.agree
  begin = record {
    World = Bool;
    Open = λ w. w ≡ true;
    inner = λ w. false;
    R = λ {A} w b g. BeginsIn w b g;
    ret = λ w a. quietly w (runs.ret a) (plans.ret a) (same.ret w a) (ret_quiet a);
    bind = λ {A} {B} w {m} {n} {k} {l} r s. record { agrees = same.bind w r.agrees (λ a. (s a).agrees); begins = bind_begins one m n k l r.agrees.agrees r.begins (λ a. (s a).begins) };
    reads = λ w x i cell. quietly w (runs.reads x i cell) (plans.reads x i cell) (same.reads w x i cell) (reads_quiet x i cell);
    writes = λ w x i v. quietly w (runs.writes x i v) (plans.writes x i v) (same.writes w x i v) (writes_quiet x i v);
    elaborates = λ {A} w region u x vs {m} {n} r. record { agrees = same.elaborates w region u x vs r.agrees; begins = elaborates_begin one region x vs m n r.begins };
    apart = λ {A} w {m} {n} r. record { agrees = same.apart w r.agrees; begins = λ scope. r.begins (apart_of scope) };
    turn = λ w. quietly w runs.turn plans.turn (same.turn w) (turn_quiet limit);
    look = λ w. quietly w runs.look plans.look (same.look w) (emits_quiet Looks (λ z. z));
    checks = λ w kind at holds. quietly w (runs.checks kind at holds) (plans.checks kind at holds) (same.checks w kind at holds) (checks_quiet kind at holds);
    leaves = λ {A} w x. quietly w (runs.leaves x) (plans.leaves x) (same.leaves w x) (leaves_quiet x);
    spent = λ {A} w. quietly w runs.spent plans.spent (same.spent w) spent_quiet;
    handles = λ {A} w {m} {n} takes {h} {g} r s. record { agrees = same.handles w takes r.agrees (λ x. (s x).agrees); begins = handles_begin one m n takes h g r.agrees.agrees r.begins (λ x. (s x).begins) };
    puts = λ w allowed bytes. record { agrees = same.puts w allowed bytes; begins = puts_begins one bytes };
    recalls = λ w allowed. record { agrees = same.recalls w allowed; begins = recalls_begins one };
    keeps = λ w allowed h. record { agrees = same.keeps w allowed h; begins = keeps_begins one h };
    takes = λ w allowed. record { agrees = same.takes w allowed; begins = takes_begins one };
    loops = λ w site cut {f} {g} r. quietly w (runs.loops site cut f) (plans.loops site cut g) (same.loops w site cut (λ j i. (r j i).agrees)) ((same.loops false site cut (λ j i. (r j i).agrees)).quiet refl);
    reduces = λ w site cut by at v {f} {g} {c} {c'} {d} {d'} r t u. record {
      agrees = same.reduces w site cut by at v (λ j i. (r j i).agrees) (λ a b. (t a b).agrees) (λ a b. (u a b).agrees);
      begins = reduces_begin w site cut by at v f g c c' d d' r t u;
    };
  }

  -- whatever a program put out up to some place, the planned run puts out first
  pub program_begins : (program : Program) → KeepsRule program → Begins one (main runs limit program) (main plans limit program)
  unfolding begin
  program_begins program keeps = (Induction.main begin limit program keeps true refl).begins
