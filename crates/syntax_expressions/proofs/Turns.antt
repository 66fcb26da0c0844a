-- The turns of a loop.
use Rattle.std.proofs.Common.{◌≡◌, ℕ, suc, ◌+◌, ◌-◌, ◌<◌, ◌≤◌, Bool, true, false, if◌then◌else◌, sym, subst, ap, ◌∙◌, arith, List, ◌∷◌, Result, Ok, Err}
use Rattle.ada_base.specs.Symbols.{Symbol, next_kind, is_member}
use Rattle.syntax_readers.specs.Readers.{Reader, Answer, Found, Refused, TooDeep, read_on, pure, ◌>>=◌}
use Rattle.syntax_readers.specs.Loops.{turns, chain}
use Rattle.syntax_readers.specs.declared.failure.Failure.{Failure}
use Rattle.syntax_readers.specs.declared.failure.Failure.TheVariants as failure
use Rattle.syntax_nodes.specs.Parts.{TreePart, Nothing, IsPart, IsClosed}
use Rattle.syntax_nodes.specs.Rooted.{top, pop, second}
use Rattle.syntax_nodes.specs.Stack.{Joins, Closes}
use Rattle.syntax_nodes.specs.declared.lists.ListKind.{ListKind}
use Rattle.syntax_expressions.specs.Reading.{Reads}

module _ {A : Type 0} (ks : List ℕ) (p : A → Reader A) (end turn : ℕ) (a : A) (ts : List Symbol) where
  abbrev one_turn : Bool → Answer A × List Symbol → Answer A × List Symbol
  one_turn b x = if b then read_on x.0 (turns (end - (turn + 1)) ks p) x.1 else (Found a, ts)

  this_turn : turn < end → turns (end - turn) ks p a ts ≡ one_turn (is_member ks (next_kind ts)) (p a ts)
  this_turn lt = ap (λ n. turns n ks p a ts) (let e : end - turn ≡ suc (end - (turn + 1)) = omega (arith, lt) in e)

  pub turn_taken : turn < end → is_member ks (next_kind ts) ≡ true → (x : Answer A × List Symbol) → p a ts ≡ x → turns (end - turn) ks p a ts ≡ one_turn true x
  turn_taken lt on x e = this_turn lt ∙ ap (λ b. one_turn b (p a ts)) on ∙ ap (one_turn true) e

  pub turn_found : turn < end → is_member ks (next_kind ts) ≡ true → (x : A) (us : List Symbol) → p a ts ≡ (Found x, us) → turns (end - turn) ks p a ts ≡ turns (end - (turn + 1)) ks p x us
  turn_found lt on x us e = turn_taken lt on (Found x, us) e

  -- the turn's fault is the loop's
  pub turn_fault : turn < end → is_member ks (next_kind ts) ≡ true → (the : TreePart → A) (Is : TreePart → Type 0) (b d : List TreePart) (us : List Symbol) (ps : List TreePart) (whole : Answer A × List Symbol)
      → turns (end - turn) ks p a ts ≡ whole → (e : Failure) → Reads {U = Unit {0}} the Is b (p a ts) (Err e) us ps → Reads {U = Unit {0}} the Is d whole (Err e) us ps
  turn_fault lt on the Is b d us ps whole w failure.Unexpected h = sym w ∙ turn_taken lt on (Refused, us) h
  turn_fault lt on the Is b d us ps whole w failure.TooDeep h = sym w ∙ turn_taken lt on (TooDeep, us) h
  turn_fault lt on the Is b d us ps whole w failure.OutOfMemory h = tt

  -- no turn follows
  pub turn_ends : turn < end → is_member ks (next_kind ts) ≡ false → turns (end - turn) ks p a ts ≡ (Found a, ts)
  turn_ends lt stops = this_turn lt ∙ ap (λ b. one_turn b (p a ts)) stops

  -- no turn is left
  pub turns_end : end ≤ turn → turns (end - turn) ks p a ts ≡ (Found a, ts)
  turns_end le = ap (λ n. turns n ks p a ts) (let e : end - turn ≡ 0 = omega (arith, le) in e)

-- an item that was read goes behind those before it
pub link_joined : {V X : Type 0} (p : Reader X) (and : V → X → V) (so_far : TreePart → V) (the_item : TreePart → X) (ts us : List Symbol) (old ps new : List TreePart) (also : TreePart) (result : Result (Unit {0}) Failure)
    → so_far also ≡ and (so_far (second ps)) (the_item (top ps)) → p ts ≡ (Found (the_item (top ps)), us) → pop ps ≡ old → Joins result new (also ∷ pop (pop ps))
    → Reads so_far IsPart (pop old) ((p >>= λ x. pure (and (so_far (top old)) x)) ts) result us new
link_joined p and so_far the_item ts us old ps new also (Ok u) e found back h = (
  ap (λ z. read_on z.0 (λ x. pure (and (so_far (top old)) x)) z.1) found
      ∙ ap (λ z. (Found z, us)) (ap (λ o. and (so_far (top o)) (the_item (top ps))) (sym back) ∙ sym e ∙ ap (λ z. so_far (top z)) (sym h)),
  ap pop h ∙ ap pop back,
  tt,
)
link_joined p and so_far the_item ts us old ps new also (Err failure.Unexpected) e found back h = absurd h
link_joined p and so_far the_item ts us old ps new also (Err failure.TooDeep) e found back h = absurd h
link_joined p and so_far the_item ts us old ps new also (Err failure.OutOfMemory) e found back h = tt

module _ {V : Type 0} (ks : List ℕ) (q : V → Reader V) (so_far the : TreePart → V) (none : V) (ts : List Symbol) (old begun : List TreePart) (e : begun ≡ Nothing ∷ old) (empty : so_far Nothing ≡ none) where
  from_none : chain ks q none ts ≡ chain ks q (so_far (top begun)) ts
  from_none = ap (λ v. chain ks q v ts) (sym empty ∙ ap (λ z. so_far (top z)) (sym e))

  -- a list that grew is whole
  pub list_closed : (us : List Symbol) (ps new : List TreePart) (k : ListKind) (result : Result (Unit {0}) Failure)
      → (IsClosed k (top new) (top ps) → the (top new) ≡ so_far (top ps)) → chain ks q (so_far (top begun)) ts ≡ (Found (so_far (top ps)), us) → pop ps ≡ pop begun
      → Closes result k new ps → Reads the IsPart old (chain ks q none ts) result us new
  list_closed us ps new k (Ok u) closed found back h =
      (from_none ∙ found ∙ ap (λ z. (Found z, us)) (sym (closed h.1)), h.0 ∙ back ∙ ap pop e, tt)
  list_closed us ps new k (Err failure.Unexpected) closed found back h = absurd h
  list_closed us ps new k (Err failure.TooDeep) closed found back h = absurd h
  list_closed us ps new k (Err failure.OutOfMemory) closed found back h = tt

  -- a fault in it is the list's
  pub list_fault : (us : List Symbol) (b ps ps' : List TreePart) (f : Failure) → Reads {U = Unit {0}} so_far IsPart b (chain ks q (so_far (top begun)) ts) (Err f) us ps → Reads {U = Unit {0}} the IsPart old (chain ks q none ts) (Err f) us ps'
  list_fault us b ps ps' failure.Unexpected h = from_none ∙ h
  list_fault us b ps ps' failure.TooDeep h = from_none ∙ h
  list_fault us b ps ps' failure.OutOfMemory h = tt

-- the same of another answer and other parts that are equal
pub reads_as : {A U : Type 0} (the : TreePart → A) (Is : TreePart → Type 0) {b d : List TreePart} {x y : Answer A × List Symbol} (r : Result U Failure) (ts : List Symbol) (ps : List TreePart)
    → b ≡ d → x ≡ y → Reads the Is b x r ts ps → Reads the Is d y r ts ps
reads_as {A} {U} the Is {b} {d} {x} {y} r ts ps e f h = subst (λ z. Reads the Is d z r ts ps) f (subst (λ z. Reads the Is z x r ts ps) e h)
