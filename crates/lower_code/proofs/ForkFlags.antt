-- Which constructs have a fork, by one instruction after another.
use Rattle.std.proofs.Common.{◌≡◌, ◌+◌, ◌∙◌, ◌≤◌, ℕ, List, ◌∷◌, [], drop, length, refl, sym, ap}
use Rattle.std.specs.Prelude.{Bool, true, cond, slice_get, slice_set, Some, None}
use Rattle.std.proofs.lemmas.Bool.{ne_eqb}
use Rattle.std.proofs.Math.ListN.{drop_of_length-le}
use Rattle.stack_code.specs.declared.instr.Instr.TheVariants.{Fork}
use Rattle.lower_emission.specs.declared.types.Placed.{Placed}
use Rattle.lower_code.specs.BodyTables.{each, flagging, flag_after}
use Rattle.lower_code.proofs.Each.{Alone, each_all, each_set, each_none, each_each}
use Rattle.lower_code.proofs.Grown.{forks_by, forks_none, same_number}

abbrev flagging_by : Bool → Bool → Bool
flagging_by b x = cond x true b

flag_alone : (p : Placed) (j : ℕ) → p.instr ≡ Fork j → Alone (λ k b. flagging p k b) j
flag_alone p j e n b h = ap (flagging_by b) (forks_by j n p.instr e ∙ ne_eqb n j h)

pub flag_set : (p : Placed) (bs : List Bool) (j : ℕ) (b : Bool) → p.instr ≡ Fork j → slice_get bs j ≡ Some b → slice_set bs j true ≡ each (λ k b. flagging p k b) 0 bs
flag_set p bs j b e g =
    let z : flagging p j b ≡ true = ap (flagging_by b) (forks_by j j p.instr e ∙ same_number j) in
    sym (each_set (λ k b. flagging p k b) j bs b (flag_alone p j e) g ∙ ap (slice_set bs j) z)

pub flag_none : (p : Placed) (bs : List Bool) (j : ℕ) → p.instr ≡ Fork j → slice_get bs j ≡ None → each (λ k b. flagging p k b) 0 bs ≡ bs
flag_none p bs j e g = each_none (λ k b. flagging p k b) j bs (flag_alone p j e) g

pub flag_other : (p : Placed) (bs : List Bool) → ((n : ℕ) → p.instr ≡ Fork n → ⊥) → each (λ k b. flagging p k b) 0 bs ≡ bs
flag_other p bs h = each_all (λ k b. flagging p k b) bs (λ n b. ap (flagging_by b) (forks_none n p.instr h))

pub flags_kept : (c : List Placed) (at : ℕ) (p : Placed) (old new all : List Bool) → drop at c ≡ p ∷ drop (at + 1) c → new ≡ each (λ k b. flagging p k b) 0 old →
    each (λ k b. flag_after (drop at c) k b) 0 old ≡ all → each (λ k b. flag_after (drop (at + 1) c) k b) 0 new ≡ all
flags_kept c at p old new all e f g =
    ap (each (λ k b. flag_after (drop (at + 1) c) k b) 0) f
    ∙ (each_each (λ k b. flag_after (drop (at + 1) c) k b) (λ k b. flagging p k b) 0 old ∙ (ap (λ l. each (λ k b. flag_after l k b) 0 old) (sym e) ∙ g))

pub flags_end : (c : List Placed) (at : ℕ) (bs : List Bool) → length c ≤ at → each (λ k b. flag_after (drop at c) k b) 0 bs ≡ bs
flags_end c at bs e = ap (λ l. each (λ k b. flag_after l k b) 0 bs) (drop_of_length-le c e) ∙ each_all (λ k b. flag_after [] k b) bs (λ n b. refl)
