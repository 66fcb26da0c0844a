-- The heights of forks that no run comes to fit.
use Rattle.std.proofs.Common.{◌≡◌, ℕ, ◌+◌, ◌≤◌, List, [], ◌∷◌, Some, None, Bool, true, false, cond, slice_get, refl, sym, ap, ◌∙◌, arith}
use Rattle.std.proofs.lemmas.Option.{none-some}
use Rattle.typed_tree.specs.declared.program.Site.{Site}
use Rattle.stack_code.specs.declared.code.Around.TheVariants as body
use Rattle.stack_code.specs.declared.code.Code.{Code}
use Rattle.stack_code.specs.declared.code.SiteKind.TheVariants as kind
use Rattle.stack_code.specs.declared.instr.Instr.TheVariants as i
use Rattle.stack_code.specs.Operands.{answered_by, is_reduction}
use Rattle.stack_code.proofs.Standing.{has_one}
use Rattle.stack_code.proofs.Lists.{has_map}
use Rattle.lower_emission.specs.declared.types.Placed.{Placed}
use Rattle.lower_emission.specs.Scope.{none}
use Rattle.lower_emission.specs.Bodies.{main_scope}
use Rattle.lower_emission.specs.Programs.{has_fork, idle_fork, idle_forks}
use Rattle.ada_lower.proofs.Heights.{Place, Here, Behind, Nowhere, up, Told, Kept, Firm}

-- where the first of those that are missing in a listing stands
abbrev pub idle_at : List Placed → ℕ → List Site → Place
idle_at ps n [] = Nowhere
idle_at ps n (x ∷ more) = cond (has_fork n ps) (idle_at ps (n + 1) more) (Here (body.Sub 0) 5 1)

module _ (c : Code) (text : List ℕ → ℕ) where
  abbrev nowhere : ℕ → Place → Type 0
  nowhere n P = ⊥

  unheld : (Q : Place) (e : ℕ) → None ≡ Some e → nowhere e Q
  unheld Q e z = absurd (none-some e z)

  firm_one : (site : ℕ) (Q : Place) → Told c (body.Sub 0) kind.Loop (i.Fork site) → Firm c nowhere (idle_fork (main_scope text) site) (Here (body.Sub 0) 5 1) Q
  firm_one site Q told =
      let (s, is, (around, four, loop)) = has_one (slice_get c.sites site) (λ s. (s.around ≡ body.Sub 0) × (4 ≤ s.frame) × (s.kind ≡ kind.Loop)) told in
      let e : answered_by (slice_get c.sites site) ≡ 2 = ap answered_by is ∙ ap (λ k. cond (is_reduction k) 1 2) loop in (
        Behind site (body.Sub 0) 2 1,
        record {
          here = refl;
          marked = unheld Nowhere;
          base = 0;
          operands = refl;
          begun = omega arith;
          ways = ap (λ n. Behind site (body.Sub 0) (up 0 n) 1) (sym e);
          belongs = λ q. has_map (slice_get c.sites site) (λ s. (s.around ≡ body.Sub 0) × (4 ≤ s.frame) × (s.kind ≡ kind.Loop)) (λ s. s.around ≡ body.Sub 0) (λ s f. f.0) told;
        },
        (
          Here (body.Sub 0) 2 1,
          (site, refl, unheld Nowhere, refl, record { here = refl; marked = unheld Nowhere; base = 0; operands = refl; begun = omega arith; ways = tt; belongs = λ q. tt }),
          record { here = refl; marked = unheld Nowhere; base = 2; operands = refl; begun = omega arith; ways = tt; belongs = λ q. tt },
        ),
      )

  -- those that are missing in a listing, from a number on
  pub firm_idle : (ps : List Placed) (n : ℕ) (sites : List Site) → Kept c (idle_forks (main_scope text) ps n sites) → Firm c nowhere (idle_forks (main_scope text) ps n sites) (idle_at ps n sites) Nowhere
  firm_idle ps n [] w = refl
  firm_idle ps n (x ∷ more) w = (idle_at ps (n + 1) more, go (has_fork n ps) w.0, firm_idle ps (n + 1) more w.1)
    where
      next : Place
      next = idle_at ps (n + 1) more

      go : (b : Bool) → Kept c (cond b none (idle_fork (main_scope text) n)) → Firm c nowhere (cond b none (idle_fork (main_scope text) n)) (cond b next (Here (body.Sub 0) 5 1)) next
      go true w = refl
      go false w = firm_one n next w.0.1
