-- The whole code of a program has the tables that its instructions need.
use Rattle.std.proofs.Common.{◌≡◌, ℕ, zero, suc, ◌+◌, ◌<◌, ◌≤◌, List, [], ◌∷◌, length, slice_get, Some, Bool, true, false, cond, refl, sym, ap, ap₂, ◌∙◌, subst, arith, le_refl, eqb-true}
use Rattle.std.specs.Prelude.{IsSomeAnd}
use Rattle.std.proofs.lemmas.Option.{none-some}
use Rattle.std.proofs.lemmas.Bool.{eq-eqb}
use Rattle.ada_meaning.proofs.Cells.{some_same}
use Rattle.ada_meaning.specs.Meaning.{sub_at}
use Rattle.typed_tree.specs.declared.program.Site.{Site as Row}
use Rattle.typed_tree.specs.Syntax.{Sub, Program}
use Rattle.stack_code.specs.declared.code.Around.{Around}
use Rattle.stack_code.specs.declared.code.Around.TheVariants as body
use Rattle.stack_code.specs.declared.code.Lease.{Lease}
use Rattle.stack_code.specs.declared.instr.Instr.{Instr}
use Rattle.stack_code.specs.declared.instr.Instr.TheVariants.{Fork as Forks, Words}
use Rattle.stack_code.specs.Valid.{HasFrame, HasStack}
use Rattle.lower_emission.specs.declared.types.Fork.{Fork}
use Rattle.lower_emission.specs.declared.types.Need.{Need}
use Rattle.lower_emission.specs.declared.types.Placed.{Placed}
use Rattle.lower_emission.specs.Emission.{shapes, shapes_cells}
use Rattle.lower_emission.specs.Programs.{is_body, at_least, raised, needed, is_fork, fork_at, fork_from, no_fork, code_site, code_sites, has_result, code_sub, code_subs, all_subs, text_in, placed_code, code_of}
use Rattle.ada_lower.specs.ProgramCode.{IsCodeOf}
use Rattle.ada_lower.specs.HasTables.{HasTables, IsBody, HasForks, LeasesFit}
use Rattle.ada_lower.proofs.Sited.{IsSited}
use Rattle.ada_lower.proofs.Declared.{length_in}
use Rattle.ada_lower.proofs.NamedCode.{IsBehind, Names, listed_names}

-- ---- what the instructions of a body need

body_self : (b : Around) → is_body b b ≡ true
body_self (body.Sub k) = eq-eqb k k refl
body_self (body.Site k) = eq-eqb k k refl

-- at least this
abbrev Most : Need → Need → Type 0
Most n m = (n.cells ≤ m.cells) × (n.height ≤ m.height)

needed_keeps : (b : Around) (n : Need) (ps : List Placed) → Most n (needed b n ps)
needed_keeps b n [] = (le_refl n.cells, le_refl n.height)
needed_keeps b n (p ∷ ps) = go (is_body b p.body) (needed_keeps b (cond (is_body b p.body) (raised n p) n) ps)
  where
    go : (t : Bool) → Most (cond t (raised n p) n) (needed b (cond (is_body b p.body) (raised n p) n) ps) → Most n (needed b (cond (is_body b p.body) (raised n p) n) ps)
    go true (c, h) = (omega (arith, c), omega (arith, h))
    go false w = w

needed_has : (b : Around) (n : Need) (ps : List Placed) (q : ℕ) (p : Placed) → slice_get ps q ≡ Some p → p.body ≡ b → (p.cells ≤ (needed b n ps).cells) × (p.height ≤ (needed b n ps).height)
needed_has b n [] q p e is = absurd (none-some p e)
needed_has b n (x ∷ ps) zero p e is =
    let same : x ≡ p = some_same x p e in
    let own : is_body b x.body ≡ true = subst (λ y. is_body b y ≡ true) (sym (ap (λ p. p.body) same ∙ is)) (body_self b) in
    let (c, h) = needed_keeps b (raised n x) ps in
    subst (λ t. (p.cells ≤ (needed b (cond t (raised n x) n) ps).cells) × (p.height ≤ (needed b (cond t (raised n x) n) ps).height)) (sym own)
    (subst (λ p. (p.cells ≤ (needed b (raised n x) ps).cells) × (p.height ≤ (needed b (raised n x) ps).height)) same (omega (arith, c), omega (arith, h)))
needed_has b n (x ∷ ps) (suc q) p e is = needed_has b (cond (is_body b x.body) (raised n x) n) ps q p e is

-- ---- forks

fork_is : (site : ℕ) (i : Instr) → is_fork site i ≡ true → i ≡ Forks site
fork_is site (Forks k) e = ap Forks (sym (eqb-true site k e))
fork_is site i e = absurd (false_true e)
  where
    only : Bool → Type 0
    only true = ⊥
    only false = Unit {0}

    false_true : false ≡ true → ⊥
    false_true e = subst only e tt

is_fork_of : (site : ℕ) (i : Instr) → i ≡ Forks site → is_fork site i ≡ true
is_fork_of site i e = ap (is_fork site) e ∙ eq-eqb site site refl

-- no fork of the construct is among them
abbrev NoFork : ℕ → List Placed → Type 0
NoFork site ps = (k : ℕ) (p : Placed) → slice_get ps k ≡ Some p → p.instr ≡ Forks site → ⊥

stays : (site : ℕ) (f : Fork) (at : ℕ) (ps : List Placed) → NoFork site ps → fork_from site f at ps ≡ f
stays site f at [] no_more = refl
stays site f at (x ∷ ps) no_more = go (is_fork site x.instr) refl (stays site f (at + 1) ps (λ k p e. no_more (suc k) p e))
  where
    go : (b : Bool) → is_fork site x.instr ≡ b → fork_from site f (at + 1) ps ≡ f → fork_from site (cond (is_fork site x.instr) (fork_at at x) f) (at + 1) ps ≡ f
    go true e again = absurd (no_more 0 x refl (fork_is site x.instr e))
    go false e again = ap (λ b. fork_from site (cond b (fork_at at x) f) (at + 1) ps) e ∙ again

-- the only one is found
found : (site : ℕ) (f : Fork) (at : ℕ) (ps : List Placed) (k : ℕ) (p : Placed) → slice_get ps k ≡ Some p → p.instr ≡ Forks site → ((j : ℕ) (x : Placed) → slice_get ps j ≡ Some x → x.instr ≡ Forks site → j ≡ k) → fork_from site f at ps ≡ fork_at (at + k) p
found site f at [] k p e is once = absurd (none-some p e)
found site f at (x ∷ ps) zero p e is once =
    let same : x ≡ p = some_same x p e in
    let own : is_fork site x.instr ≡ true = is_fork_of site x.instr (ap (λ p. p.instr) same ∙ is) in
    let z : at ≡ at + 0 = omega arith in
    ap (λ b. fork_from site (cond b (fork_at at x) f) (at + 1) ps) own ∙ stays site (fork_at at x) (at + 1) ps (λ j y ey iy. let w : suc j ≡ 0 = once (suc j) y ey iy in omega (arith, w)) ∙ ap₂ fork_at z same
found site f at (x ∷ ps) (suc k) p e is once =
    let z : at + 1 + k ≡ at + suc k = omega arith in
    found site (cond (is_fork site x.instr) (fork_at at x) f) (at + 1) ps k p e is (λ j y ey iy. let w : suc j ≡ suc k = once (suc j) y ey iy in omega (arith, w)) ∙ ap (λ n. fork_at n p) z

-- ---- rows of tables

site_row : (c : List Placed) (leases : ℕ → List Lease) (n : ℕ) (rows : List Row) (k : ℕ) → k < length rows → slice_get (code_sites c leases n rows) k ≡ Some (code_site c leases (n + k))
site_row c leases n [] k lt = absurd (let z : k < 0 = lt in omega (arith, z))
site_row c leases n (x ∷ rows) zero lt = let z : n ≡ n + 0 = omega arith in ap (λ m. Some (code_site c leases m)) z
site_row c leases n (x ∷ rows) (suc k) lt = let z : n + 1 + k ≡ n + suc k = omega arith in site_row c leases (n + 1) rows k (let w : suc k < suc (length rows) = lt in omega (arith, w)) ∙ ap (λ m. Some (code_site c leases m)) z

sites_length : (c : List Placed) (leases : ℕ → List Lease) (n : ℕ) (rows : List Row) → length (code_sites c leases n rows) ≡ length rows
sites_length c leases n [] = refl
sites_length c leases n (x ∷ rows) = ap suc (sites_length c leases (n + 1) rows)

sub_below : (us : List Sub) (k : ℕ) → k < length us → (unit : Sub) × (sub_at us k ≡ Some unit)
sub_below [] k lt = absurd (let z : k < 0 = lt in omega (arith, z))
sub_below (u ∷ us) zero lt = (u, refl)
sub_below (u ∷ us) (suc k) lt = sub_below us k (let w : suc k < suc (length us) = lt in omega (arith, w))

module _ (program : Program) (text : List ℕ → ℕ) (c : List Placed) where
  sub_row : (n : ℕ) (us : List Sub) (k : ℕ) (unit : Sub) → sub_at us k ≡ Some unit → slice_get (code_subs program text c n us) k ≡ Some (code_sub program text c (n + k) unit)
  sub_row n [] k unit e = absurd (none-some unit e)
  sub_row n (u ∷ us) zero unit e = let z : n ≡ n + 0 = omega arith in ap₂ (λ m u. Some (code_sub program text c m u)) z (some_same u unit e)
  sub_row n (u ∷ us) (suc k) unit e = let z : n + 1 + k ≡ n + suc k = omega arith in sub_row (n + 1) us k unit e ∙ ap (λ m. Some (code_sub program text c m unit)) z

  subs_length : (n : ℕ) (us : List Sub) → length (code_subs program text c n us) ≡ length us
  subs_length n [] = refl
  subs_length n (u ∷ us) = ap suc (subs_length (n + 1) us)

-- ---- the code

module _ (program : Program) (leases : ℕ → List Lease) where
  abbrev ps : List Placed
  ps = placed_code program

  abbrev text : List ℕ → ℕ
  text = text_in program

  unit_row : (k : ℕ) (unit : Sub) → sub_at program.subs k ≡ Some unit → slice_get (code_of program leases).subs (k + 1) ≡ Some (code_sub program text ps k unit)
  unit_row k unit e =
      let z : suc k ≡ k + 1 = omega arith in
      let w : 0 + k ≡ k = omega arith in
      subst (λ m. slice_get (all_subs program text ps) m ≡ Some (code_sub program text ps k unit)) z (sub_row program text ps 0 program.subs k unit e ∙ ap (λ m. Some (code_sub program text ps m unit)) w)

  pub construct_row : (k : ℕ) → k < length program.sites → slice_get (code_of program leases).sites k ≡ Some (code_site ps leases k)
  construct_row k lt = let w : 0 + k ≡ k = omega arith in site_row ps leases 0 program.sites k lt ∙ ap (λ m. Some (code_site ps leases m)) w

  -- an instruction's body is there
  housed : (q : ℕ) (p : Placed) → slice_get ps q ≡ Some p → (b : Around) → p.body ≡ b → IsBody program b → HasFrame (code_of program leases) b (λ cells. p.cells < cells) × HasStack (code_of program leases) b (λ most. p.height ≤ most)
  housed q p e (body.Sub zero) is w = let (c, h) = needed_has (body.Sub 0) (at_least 0) ps q p e is in (omega (arith, c), h)
  housed q p e (body.Sub (suc k)) is w =
      let (unit, there) = sub_below program.subs k w in
      let z : suc k ≡ k + 1 = omega arith in
      let (c, h) = needed_has (body.Sub (k + 1)) (at_least (shapes_cells (shapes program unit.formals))) ps q p e (is ∙ ap body.Sub z) in
      let row : slice_get (code_of program leases).subs (suc k) ≡ Some (code_sub program text ps k unit) = subst (λ m. slice_get (code_of program leases).subs m ≡ Some (code_sub program text ps k unit)) (sym z) (unit_row k unit there) in
      (subst (λ o. IsSomeAnd o (λ s. p.cells < s.frame)) (sym row) (omega (arith, c)), subst (λ o. IsSomeAnd o (λ s. p.height ≤ s.stack)) (sym row) h)
  housed q p e (body.Site k) is w =
      let (c, h) = needed_has (body.Site k) (at_least 4) ps q p e is in
      let row : slice_get (code_of program leases).sites k ≡ Some (code_site ps leases k) = construct_row k w in
      (subst (λ o. IsSomeAnd o (λ s. p.cells < s.frame)) (sym row) (omega (arith, c)), subst (λ o. IsSomeAnd o (λ s. p.height ≤ s.stack)) (sym row) h)

  pub code_is : IsCodeOf program text (code_of program leases)
  code_is = record {
    lists = record { instrs = refl; unwind = refl };
    subs = λ k unit e.
        let (c, h) = needed_keeps (body.Sub (k + 1)) (at_least (shapes_cells (shapes program unit.formals))) ps in
        (code_sub program text ps k unit, unit_row k unit e, refl, omega (arith, c));
  }

  -- the row of a construct whose fork stands there
  pub row_of : HasForks program → (q site : ℕ) (p : Placed) → slice_get ps q ≡ Some p → p.instr ≡ Forks site → fork_from site no_fork 0 ps ≡ fork_at q p
  row_of counted q site p e is = let z : 0 + q ≡ q = omega arith in found site no_fork 0 ps q p e is (λ j x ex ix. counted.once j q site x p ex e ix is) ∙ ap (λ n. fork_at n p) z

  module _ (sited : IsSited program) (counted : HasForks program) (leased : LeasesFit program leases) where
    named : (q : ℕ) (p : Placed) (i : Instr) → slice_get ps q ≡ Some p → p.instr ≡ i → Names program p.body p.kind i
    named q p i e is = subst (λ i. Names program p.body p.kind i) is (listed_names program sited q p e).1

    behind : (b : Around) (site outer : ℕ) → b ≡ body.Site outer → IsBehind program b site → outer < site
    behind b site outer e w = subst (λ b. IsBehind program b site) e w

    pub tables_are : HasTables program text (code_of program leases)
    tables_are = record {
      spots = refl;
      cells = λ q p e. (housed q p e p.body refl (listed_names program sited q p e).0).0;
      heights = λ q p e. (housed q p e p.body refl (listed_names program sited q p e).0).1;
      main = (refl, refl);
      subs = λ k unit e. subst (λ o. IsSomeAnd o (λ s. (s.takes ≡ 0) × (s.gives ≡ has_result unit.result))) (sym (unit_row k unit e)) (refl, refl);
      no_more = λ k s e.
          let z : k + 1 ≡ suc k = omega arith in
          let e' : slice_get (code_subs program text ps 0 program.subs) k ≡ Some s = subst (λ m. slice_get (all_subs program text ps) m ≡ Some s) z e in
          let lt : k < length (code_subs program text ps 0 program.subs) = length_in (code_subs program text ps 0 program.subs) k s e' in
          let same : length (code_subs program text ps 0 program.subs) ≡ length program.subs = subs_length program text ps 0 program.subs in
          sub_below program.subs k (omega (arith, lt, same));
      forks = λ q site p e is.
          let row = row_of counted q site p e is in
          let (least, h) = needed_keeps (body.Site site) (at_least 4) ps in
          let two : q + 2 ≡ q + 1 + 1 = omega arith in
          subst (λ o. IsSomeAnd o (λ s. (s.entry ≡ q + 1 + 1) × (4 ≤ s.frame) × (s.around ≡ p.body) × (s.kind ≡ p.kind))) (sym (construct_row site (named q p (Forks site) e is).0))
          (ap (λ f. f.place + 2) row ∙ two, omega (arith, least), ap (λ f. f.around) row, ap (λ f. f.kind) row);
      folds = λ q site p e is. (named q p (Forks site) e is).2;
      sites = λ site s e.
          let lt = length_in (code_of program leases).sites site s e in
          let same = sites_length ps leases 0 program.sites in
          counted.each site (omega (arith, lt, same));
      earlier = λ site outer s e is.
          let lt = length_in (code_of program leases).sites site s e in
          let same = sites_length ps leases 0 program.sites in
          let inside : site < length program.sites = omega (arith, lt, same) in
          let (q, p, at_q, fork) = counted.each site inside in
          let row = row_of counted q site p at_q fork in
          let there : code_site ps leases site ≡ s = some_same (code_site ps leases site) s (sym (construct_row site inside) ∙ e) in
          behind p.body site outer (sym (ap (λ f. f.around) row) ∙ ap (λ s. s.around) there ∙ is) (named q p (Forks site) at_q fork).1;
      leases = λ site s e. leased site s e;
      texts = λ q k p e is. named q p (Words k) e is;
    }
