-- What was read of the machine's cells has the values of the main procedure's variables.
use Rattle.std.proofs.Common.{◌≡◌, ◌<◌, ◌≤◌, ℕ, zero, suc, ◌+◌, ℤ, pos, List, [], ◌∷◌, length, refl, sym, ap, ◌∙◌, subst, arith}
use Rattle.std.specs.Prelude.{get_or, take, drop, min, max, replicate, slice_set}
use Rattle.std.proofs.Math.Seq.{take-nil}
use Rattle.std.proofs.lemmas.List.{drop-replicate, take_all}
use Rattle.std.proofs.lemmas.List.Elements.{All-more}
use Rattle.ada_base.specs.Cells.{Cell, Gone, Seen, Mine}
use Rattle.ada_meaning.specs.Meaning.{object_layout}
use Rattle.ada_meaning.specs.Stored.{filled, finals_of}
use Rattle.ada_meaning.specs.declared.slots.Variable.{Variable}
use Rattle.cell_memory.specs.Sight.{value_of}
use Rattle.typed_tree.specs.Syntax.{Program}
use Rattle.run_machine_laws.specs.Telling.{number, numbers}
use Rattle.driver.specs.Kept.{AreWithin, read_over}

pub length_over : (ks : List ℤ) (cs : List Cell) → length (read_over ks cs) ≡ length ks
length_over [] cs = refl
length_over (k ∷ ks) [] = refl
length_over (k ∷ ks) (c ∷ cs) = ap suc (length_over ks cs)

pub nothing_over : (ks : List ℤ) → read_over ks [] ≡ ks
nothing_over [] = refl
nothing_over (k ∷ ks) = refl

-- one more cell is read
pub read_more : (ks : List ℤ) (cs : List Cell) (at : ℕ) → at < length ks → at < length cs → slice_set (read_over ks (take at cs)) at (value_of (get_or cs at Gone)) ≡ read_over ks (take (suc at) cs)
read_more [] cs at l m = absurd (omega (arith, l))
read_more (k ∷ ks) [] at l m = absurd (omega (arith, m))
read_more (k ∷ ks) (c ∷ cs) zero l m = ap (λ (vs : List ℤ). value_of c ∷ vs) (sym (nothing_over ks))
read_more (k ∷ ks) (c ∷ cs) (suc at) l m = ap (λ (vs : List ℤ). value_of c ∷ vs) (read_more ks cs at (omega (arith, l)) (omega (arith, m)))

-- all that there is room for is read
pub read_all : (ks : List ℤ) (cs : List Cell) (n : ℕ) → n ≡ min (length ks) (length cs) → read_over ks (take n cs) ≡ read_over ks cs
read_all [] cs n e = refl
read_all (k ∷ ks) [] n e = ap (read_over (k ∷ ks)) (take-nil n)
read_all (k ∷ ks) (c ∷ cs) zero e = absurd (omega (arith, e))
read_all (k ∷ ks) (c ∷ cs) (suc n) e = ap (λ (vs : List ℤ). value_of c ∷ vs) (read_all ks cs n (omega (arith, e)))

-- what the loop that reads keeps: the next cell is there, and then it is read
pub next_there : (ks over : List ℤ) (cs : List Cell) (at count n m : ℕ) → n ≡ length ks → m ≡ length cs → count ≡ min n m → at < count → over ≡ read_over ks (take at cs) → (at < length over) × ((at < length ks) × (at < length cs))
next_there ks over cs at count n m a b e l is =
    let k : at < length ks = omega (arith, a, b, e, l) in
    (subst (λ (z : ℕ). at < z) (sym (ap length is ∙ length_over ks (take at cs))) k, (k, omega (arith, a, b, e, l)))

pub next_read : (ks over new : List ℤ) (cs : List Cell) (at : ℕ) (v : ℤ) → at < length ks → at < length cs → over ≡ read_over ks (take at cs) → v ≡ value_of (get_or cs at Gone) → new ≡ slice_set over at v → new ≡ read_over ks (take (at + 1) cs)
next_read ks over new cs at v l m is same e =
    let on : suc at ≡ at + 1 = omega arith in
    e ∙ (λ i. slice_set (is i) at (same i)) ∙ read_more ks cs at l m ∙ ap (λ (n : ℕ). read_over ks (take n cs)) on

-- ---- room

-- one more variable has its cells within
pub within_more : (size next end : ℕ) (vs : List Variable) (i : ℕ) (d : Variable) → i < length vs → AreWithin size (take i vs) → end ≡ (get_or vs i d).address + (get_or vs i d).cells → next ≡ max size end → AreWithin next (take (i + 1) vs)
within_more size next end vs i d less within is same =
    All-more (λ (v : Variable). v.address + v.cells ≤ next) vs i d less (λ k e l. let h = within k e l in omega (arith, h, same)) (omega (arith, is, same))

pub within_all : (size : ℕ) (vs : List Variable) (i : ℕ) → length vs ≤ i → AreWithin size (take i vs) → AreWithin size vs
within_all size vs i all within = subst (AreWithin size) (take_all i vs all) within

-- ---- the values

same_value : (c : Cell) → value_of c ≡ number c
same_value Gone = refl
same_value (Seen v) = refl
same_value (Mine v) = refl

zeros_taken : (k c n : ℕ) → filled k (take c (replicate n (pos 0))) ≡ filled k []
zeros_taken zero c n = refl
zeros_taken (suc k) zero n = refl
zeros_taken (suc k) (suc c) zero = refl
zeros_taken (suc k) (suc c) (suc n) = ap (λ (vs : List ℤ). pos 0 ∷ vs) (zeros_taken k c n)

-- zeros are what is filled with zeros
zeros_filled : (k a c n : ℕ) → filled k (take c (drop a (replicate n (pos 0)))) ≡ filled k (take c [])
zeros_filled k a c n = ap (λ (vs : List ℤ). filled k (take c vs)) (drop-replicate a n (pos 0)) ∙ zeros_taken k c _ ∙ sym (ap (filled k) (take-nil c))

front_read : (k c n : ℕ) (cs : List Cell) → c ≤ n → filled k (take c (read_over (replicate n (pos 0)) cs)) ≡ filled k (take c (numbers cs))
front_read zero c n cs l = refl
front_read (suc k) zero n cs l = refl
front_read (suc k) (suc c) zero cs l = absurd (omega (arith, l))
front_read (suc k) (suc c) (suc n) [] l = zeros_taken (suc k) (suc c) (suc n)
front_read (suc k) (suc c) (suc n) (d ∷ cs) l = λ i. same_value d i ∷ front_read k c n cs (omega (arith, l)) i

part_read : (k a c n : ℕ) (cs : List Cell) → a + c ≤ n → filled k (take c (drop a (read_over (replicate n (pos 0)) cs))) ≡ filled k (take c (drop a (numbers cs)))
part_read k zero c n cs l = front_read k c n cs (omega (arith, l))
part_read k (suc a) c zero cs l = absurd (omega (arith, l))
part_read k (suc a) c (suc n) [] l = zeros_filled k (suc a) c (suc n)
part_read k (suc a) c (suc n) (d ∷ cs) l = part_read k a c n cs (omega (arith, l))

-- variables have in what was read the values that they have in the cells
pub finals_read : (p : Program) (n : ℕ) (vs : List Variable) (cs : List Cell) → AreWithin n vs → finals_of p (read_over (replicate n (pos 0)) cs) vs ≡ finals_of p (numbers cs) vs
finals_read p n [] cs within = refl
finals_read p n (v ∷ vs) cs within =
    λ i. part_read (length (object_layout p v.object)) v.address v.cells n cs (within 0 v (omega arith)) i ∷ finals_read p n vs cs (λ k d less. within (suc k) d (omega (arith, less))) i
