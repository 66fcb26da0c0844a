-- The table of all leases gives each construct its own.
use Rattle.std.proofs.Common.{◌≡◌, ℕ, zero, suc, ◌+◌, ◌<◌, List, [], ◌∷◌, length, refl, ap, ap₂, ◌∙◌, arith}
use Rattle.std.specs.Prelude.{get_or}
use Rattle.typed_tree.specs.declared.program.Site.{Site}
use Rattle.stack_code.specs.declared.code.Code.{Code}
use Rattle.stack_code.specs.declared.code.CodeSite.{CodeSite}
use Rattle.stack_code.specs.declared.code.Lease as code
use Rattle.lower_emission.specs.declared.types.Placed.{Placed}
use Rattle.lower_emission.specs.Programs.{code_of, code_site, code_sites, placed_code}
use Rattle.ada_lower.specs.Places.{all_leases, leases_at, leases_from}
use Rattle.lower_leases.specs.Law.{TableLaw}

row : (leases : ℕ → List code.Lease) (n : ℕ) (xs : List Site) (k : ℕ) → k < length xs → get_or (leases_from leases n xs) k [] ≡ leases (n + k)
row leases n [] k lt = absurd (let z : k < 0 = lt in omega (arith, z))
row leases n (x ∷ xs) zero lt = ap leases (let z : n ≡ n + 0 = omega arith in z)
row leases n (x ∷ xs) (suc k) lt = row leases (n + 1) xs k (let w : suc k < suc (length xs) = lt in omega (arith, w)) ∙ ap leases (let z : n + 1 + k ≡ n + suc k = omega arith in z)

sites_same : (c : List Placed) (f g : ℕ → List code.Lease) (n : ℕ) (xs : List Site) → ((k : ℕ) → k < length xs → f (n + k) ≡ g (n + k)) → code_sites c f n xs ≡ code_sites c g n xs
sites_same c f g n [] same = refl
sites_same c f g n (x ∷ xs) same =
    let first : f n ≡ g n = ap f (let z : n ≡ n + 0 = omega arith in z) ∙ same 0 (let w : 0 < suc (length xs) = omega arith in w) ∙ ap g (let z : n + 0 ≡ n = omega arith in z) in
    let rest = sites_same c f g (n + 1) xs (λ k lt. ap f (let z : n + 1 + k ≡ n + suc k = omega arith in z) ∙ same (suc k) (let w : suc k < suc (length xs) = omega (arith, lt) in w) ∙ ap g (let z : n + suc k ≡ n + 1 + k = omega arith in z)) in
    ap₂ (λ (s : CodeSite) (ss : List CodeSite). s ∷ ss) (ap (λ (ls : List code.Lease). site ls) first) rest
  where
    site : List code.Lease → CodeSite
    site ls = record (code_site c (λ k. ls) n) { leases = ls }

pub table_law : TableLaw
table_law program granted =
    ap (λ (rows : List CodeSite). with_sites rows) (sites_same (placed_code program) (λ site. get_or (all_leases program granted) site []) (leases_at program granted) 0 program.sites (λ k lt. ap (λ (j : ℕ). get_or (all_leases program granted) j []) (let z : 0 + k ≡ k = omega arith in z) ∙ row (leases_at program granted) 0 program.sites k lt))
  where
    with_sites : List CodeSite → Code
    with_sites rows = record (code_of program (leases_at program granted)) { sites = rows }
