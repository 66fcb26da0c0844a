-- The main frame before a run.
use Rattle.std.proofs.Common.{◌≡◌, ◌<◌, ℕ, zero, suc, ℤ, pos, List, [], ◌∷◌, map, length, false, None, refl, sym, ap, ◌∙◌, subst, arith}
use Rattle.std.specs.Prelude.{get_or, replicate}
use Rattle.std.proofs.lemmas.List.{length-map, length-replicate}
use Rattle.ada_base.specs.Cells.{Cell, Gone, Mine}
use Rattle.cell_memory.specs.Sight.{OwnThere, Sight, Store, is_gone, main_sight}

-- a main view of so many cells of 0, all of them there
pub record IsFramed (v : Sight) (size : ℕ) : Type 0 where
  pub main : v.held ≡ None
  pub there : OwnThere v
  pub long : length v.cells ≡ size
  pub zeroed : v.cells ≡ replicate (length v.cells) (Mine (pos 0))

mine_zeros : (n : ℕ) → map Mine (replicate n (pos 0)) ≡ replicate n (Mine (pos 0))
mine_zeros zero = refl
mine_zeros (suc n) = ap (λ (cs : List Cell). Mine (pos 0) ∷ cs) (mine_zeros n)

mine_there : (vs : List ℤ) (x : ℕ) → x < length (map Mine vs) → is_gone (get_or (map Mine vs) x Gone) ≡ false
mine_there [] x less = absurd (omega (arith, less))
mine_there (v ∷ vs) zero less = refl
mine_there (v ∷ vs) (suc x) less = mine_there vs x (omega (arith, less))

sight_framed : (m : Store) (size : ℕ) → m.values ≡ replicate size (pos 0) → IsFramed (main_sight m) size
sight_framed m size zeros =
    let long : length (map Mine m.values) ≡ size = length-map m.values Mine ∙ ap length zeros ∙ length-replicate size (pos 0) in
    record {
      main = refl;
      there = λ x low less. mine_there m.values x less;
      long = long;
      zeroed = ap (map Mine) zeros ∙ mine_zeros size ∙ ap (λ n. replicate n (Mine (pos 0))) (sym long);
    }

-- the view over such a memory
pub framed : (m : Store) (size : ℕ) (v : Sight) → m.values ≡ replicate size (pos 0) → v ≡ main_sight m → IsFramed v size
framed m size v zeros is = subst (λ (x : Sight). IsFramed x size) (sym is) (sight_framed m size zeros)
