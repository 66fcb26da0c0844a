-- A run may be stopped between any two of its deeds.
use Rattle.std.proofs.Common.{◌≡◌, ℕ, suc, ◌+◌, min, List, [], ◌∷◌, ◌++◌, length, Option, Bool, refl, sym, subst, ap, ap₂, ◌∙◌, arith, append_assoc}
use Rattle.typed_tree.specs.Syntax.{Program}
use Rattle.ada_base.specs.Cuts.{cuts_of}
use Rattle.behaviours.specs.Paths.{Instance, End, Stopped, Path, start, nothing_visible}
use Rattle.behaviours.specs.Events.{Event, Reads, Writes, Recalls, Keeps, Takes, Puts, Looks, Trace, output_of}
use Rattle.behaviours.specs.Memory.{Fits, empty, after}
use Rattle.behaviours.specs.Behaviours.{asks_at_once}
use Rattle.ada_meaning.specs.Runs.{anything}
use Rattle.ada_meaning.specs.Programs.{this, Setting, input_of, finals}
use Rattle.ada_meaning.specs.Nonblocking.{KeepsRule}
use Rattle.ada_meaning.specs.Law.{Ending, NoMemory, ReadFault, WriteFault, BeginsRun, EndsAs, behaviour}
use Rattle.ada_meaning.specs.Deeds.{Deed, Asked, PutOut, takes_in, output_in, deed_of, deeds_of, PrefixLaw, Permits, StopsBetween}
use Rattle.behaviours.proofs.Shuffle.{fits_split}
use Rattle.ada_meaning.proofs.Fronts.{Numbered, numbered_taken, Fronts, program_fronts}

tails : {A : Type 0} {a b : A} {t u : List A} → a ∷ t ≡ b ∷ u → t ≡ u
tails e = cc

heads : {A : Type 0} {a b : A} {t u : List A} → a ∷ t ≡ b ∷ u → a ≡ b
heads e = cc

nil-ne-cons : {A : Type 0} {a : A} {t : List A} → ◌≡◌ {A = List A} [] (a ∷ t) → ⊥
nil-ne-cons e = absurd (cc)

asked-ne-put : {piece : List ℕ} → ◌≡◌ {A = Deed} Asked (PutOut piece) → ⊥
asked-ne-put e = absurd (cc)

put_inj : {p q : List ℕ} → ◌≡◌ {A = Deed} (PutOut p) (PutOut q) → p ≡ q
put_inj e = cc

output_in_deeds : (t : Trace Instance) → output_of t ≡ output_in (deeds_of t)
output_in_deeds [] = refl
output_in_deeds (Reads x i v ∷ t) = output_in_deeds t
output_in_deeds (Writes x i v ∷ t) = output_in_deeds t
output_in_deeds (Recalls h ∷ t) = output_in_deeds t
output_in_deeds (Keeps h ∷ t) = output_in_deeds t
output_in_deeds (Takes n b ∷ t) = output_in_deeds t
output_in_deeds (Puts piece ∷ t) = ap (λ z. piece ++ z) (output_in_deeds t)
output_in_deeds (Looks ∷ t) = output_in_deeds t

-- the byte that is asked for next has the number of those before
next_number : (t : Trace Instance) (n m i : ℕ) (b : Option ℕ) (rest : Trace Instance) → Numbered n (t ++ (Takes i b ∷ rest)) m → i ≡ n + takes_in (deeds_of t)
next_number [] n m i b rest e = let z = e.0 in omega arith
next_number (Reads x j v ∷ t) n m i b rest e = next_number t n m i b rest e
next_number (Writes x j v ∷ t) n m i b rest e = next_number t n m i b rest e
next_number (Recalls h ∷ t) n m i b rest e = next_number t n m i b rest e
next_number (Keeps h ∷ t) n m i b rest e = next_number t n m i b rest e
next_number (Takes k c ∷ t) n m i b rest e = let z = next_number t (suc n) m i b rest e.1 in omega arith
next_number (Puts piece ∷ t) n m i b rest e = next_number t n m i b rest e
next_number (Looks ∷ t) n m i b rest e = next_number t n m i b rest e

-- the rest of a trace begins with this deed
abbrev Next : List Deed → Trace Instance → Type 0
Next [] u = Unit {0}
Next (Asked ∷ ds) u = (n : ℕ) × (b : Option ℕ) × (rest : Trace Instance) × (u ≡ Takes n b ∷ rest)
Next (PutOut piece ∷ ds) u = (rest : Trace Instance) × (u ≡ Puts piece ∷ rest)

-- a trace is parted where its deeds are
abbrev Parted : Trace Instance → List Deed → List Deed → Type 0
Parted tr front back = (t : Trace Instance) × (u : Trace Instance) × (tr ≡ t ++ u) × (deeds_of t ≡ front) × Next back u

longer : (a : Event Instance) (tr : Trace Instance) (front back : List Deed) → deed_of a ≡ [] → Parted tr front back → Parted (a ∷ tr) front back
longer a tr front back e (t, u, is, ds, next) = (a ∷ t, u, ap (λ z. a ∷ z) is, ap (λ z. z ++ deeds_of t) e ∙ ds, next)

parted : (tr : Trace Instance) (front back : List Deed) → deeds_of tr ≡ front ++ back → Parted tr front back
parted [] [] [] e = ([], [], refl, refl, tt)
parted [] [] (d ∷ back) e = absurd (nil-ne-cons e)
parted [] (d ∷ front) back e = absurd (nil-ne-cons e)
parted (Reads x i v ∷ tr) front back e = longer (Reads x i v) tr front back refl (parted tr front back e)
parted (Writes x i v ∷ tr) front back e = longer (Writes x i v) tr front back refl (parted tr front back e)
parted (Recalls h ∷ tr) front back e = longer (Recalls h) tr front back refl (parted tr front back e)
parted (Keeps h ∷ tr) front back e = longer (Keeps h) tr front back refl (parted tr front back e)
parted (Looks ∷ tr) front back e = longer Looks tr front back refl (parted tr front back e)
parted (Takes n b ∷ tr) [] [] e = absurd (nil-ne-cons (sym e))
parted (Takes n b ∷ tr) [] (Asked ∷ back) e = ([], Takes n b ∷ tr, refl, refl, (n, b, tr, refl))
parted (Takes n b ∷ tr) [] (PutOut piece ∷ back) e = absurd (asked-ne-put (heads e))
parted (Takes n b ∷ tr) (d ∷ front) back e =
    let h = parted tr front back (tails e) in
    (Takes n b ∷ h.0, h.1, ap (λ z. Takes n b ∷ z) h.2, ap₂ (λ y z. y ∷ z) (heads e) h.3, h.4)
parted (Puts piece ∷ tr) [] [] e = absurd (nil-ne-cons (sym e))
parted (Puts piece ∷ tr) [] (Asked ∷ back) e = absurd (asked-ne-put (sym (heads e)))
parted (Puts piece ∷ tr) [] (PutOut other ∷ back) e = ([], Puts piece ∷ tr, refl, refl, (tr, ap (λ z. Puts z ∷ tr) (put_inj (heads e))))
parted (Puts piece ∷ tr) (d ∷ front) back e =
    let h = parted tr front back (tails e) in
    (Puts piece ∷ h.0, h.1, ap (λ z. Puts piece ∷ z) h.2, ap₂ (λ y z. y ∷ z) (heads e) h.3, h.4)

module _ (program : Program) (set : Setting) (keeps : KeepsRule program) where
  abbrev From : Trace Instance → Bool → Path Instance → End (Unit {0}) → Type 0
  From tr y q e = (behaviour program set).runs nothing_visible start tr y q e

  abbrev ProgramFronts : Type 0
  ProgramFronts = Fronts Instance this anything asks_at_once set.limit (cuts_of set.plan) set.one {A = Unit {0}} Bool.true (behaviour program set)

  fronts : ProgramFronts
  fronts = program_fronts Instance this anything asks_at_once set.limit (cuts_of set.plan) set.one program keeps

  stopped_at : (t u : Trace Instance) (early : Bool) (path : Path Instance) (end : End (Unit {0})) → From (t ++ u) early path end → (z : Bool) × (there : Path Instance) × From t z there Stopped × (there.taken ≡ takes_in (deeds_of t))
  stopped_at t u early path end run =
      let d = fronts.fronts nothing_visible start (t ++ u) early path end run t u refl in
      let k : d.1.taken ≡ 0 + takes_in (deeds_of t) = numbered_taken t 0 d.1.taken (fronts.counts nothing_visible start t d.0 d.1 Stopped d.2) in
      (d.0, d.1, d.2, (let z : d.1.taken ≡ takes_in (deeds_of t) = omega arith in z))

  module _ (input : List ℕ) (t u : Trace Instance) (early : Bool) (path : Path Instance) (end : End (Unit {0})) (run : From (t ++ u) early path end) (fits : Fits (empty (input_of input)) (t ++ u)) (front : List Deed) (same : deeds_of t ≡ front) where
    permits : (ending : Ending) (output : List ℕ) → ((there : Path Instance) → there.taken ≡ takes_in (deeds_of t) → EndsAs program set t there Stopped output ending) → Permits program set input output (takes_in front) ending
    permits ending output ends =
        let d = stopped_at t u early path end run in (
          d.0,
          finals program (after (empty (input_of input)) t) d.1.globals,
          record {
            trace = t;
            path = d.1;
            end = Stopped;
            run = d.2;
            fits = (fits_split t u (empty (input_of input)) fits).0;
            ends = ends d.1 d.3;
            taken = ap (λ z. min z (length input)) (ap takes_in (sym same) ∙ sym d.3);
            finals = refl;
          },
        )

    begins : (a : Event Instance) (rest : Trace Instance) → u ≡ a ∷ rest → BeginsRun program set (t ++ (a ∷ []))
    begins a rest is = record {
      rest = rest;
      early = early;
      path = path;
      end = end;
      run = subst (λ z. From z early path end) (ap (λ z. t ++ z) is ∙ sym (append_assoc t (a ∷ []) rest)) run;
    }

    out : output_in front ≡ output_of t
    out = ap output_in (sym same) ∙ sym (output_in_deeds t)

    for_memory : Permits program set input (output_in front) (takes_in front) NoMemory
    for_memory = permits NoMemory (output_in front) (λ there taken. (refl, out))

    same_number : (n m : ℕ) → n ≡ 0 + takes_in (deeds_of t) → m ≡ takes_in (deeds_of t) → n ≡ m
    same_number n m e f = omega arith

    stops : (back : List Deed) → Next back u → StopsBetween program set input front back
    stops [] next = for_memory
    stops (Asked ∷ back) (n, b, rest, is) =
        let number : n ≡ 0 + takes_in (deeds_of t) = next_number t 0 path.taken n b rest (subst (λ z. Numbered 0 z path.taken) (ap (λ z. t ++ z) is) (fronts.counts nothing_visible start (t ++ u) early path end run)) in
        (for_memory, permits ReadFault (output_in front) (λ there taken. (refl, out, (b, begins (Takes there.taken b) rest (is ∙ ap (λ k. Takes k b ∷ rest) (same_number n there.taken number taken))))))
    stops (PutOut piece ∷ back) (rest, is) =
        (for_memory, λ passed more split. permits WriteFault (output_in front ++ passed) (λ there taken. (refl, (passed, more, ap (λ z. z ++ passed) out, begins (Puts (passed ++ more)) rest (is ∙ ap (λ z. Puts z ∷ rest) split)))))

  -- between any two deeds of a run that fits an input
  pub between : (input : List ℕ) (tr : Trace Instance) (early : Bool) (path : Path Instance) (end : End (Unit {0})) → From tr early path end → Fits (empty (input_of input)) tr → (front back : List Deed) → deeds_of tr ≡ front ++ back → StopsBetween program set input front back
  between input tr early path end run fits front back e =
      let h = parted tr front back e in
      stops input h.0 h.1 early path end (subst (λ z. From z early path end) h.2 run) (subst (λ z. Fits (empty (input_of input)) z) h.2 fits) front h.3 back h.4

pub prefix_law : PrefixLaw
prefix_law program set keeps front back early path end run = stopped_at program set keeps front back early path end run
