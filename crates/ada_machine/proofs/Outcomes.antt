-- A class of instructions does what each of its instructions does.
use Rattle.std.proofs.Common.{◌≡◌, ◌+◌, ℕ, ℤ, pos, List, replicate, reverse, refl, sym, ap, ◌∙◌, subst}
use Rattle.stack_code.specs.declared.instr.Instr.{Instr}
use Rattle.ada_base.specs.Cells.{Cell}
use Rattle.stack_code.specs.declared.code.Code.{Code}
use Rattle.stack_code.specs.declared.instr.Instr.TheVariants.{Fill, Reraise, SetL, USetL}
use Rattle.stack_code.specs.Deeds.{if_among, Deed, deed_of, GoesOn, on_one, stores_all, if_between, stored}
use Rattle.ada_machine.specs.declared.operands.Computed.{Computed}
use Rattle.ada_machine.specs.declared.operands.Computed.TheVariants.{To, Failed, Beyond, Other}
use Rattle.ada_machine.specs.Played.{Computes, ComputesOr, Plays, Outcome, IsClear, plays}

module _ (d : Deed) (i : Instr) (cells : List Cell) where
  pub outcome : (r : Computed) (old new : List ℤ) → Computes d r new → Outcome d i r old new cells cells
  outcome (To q) old new h = ap (λ d. plays d cells) h
  outcome (Failed r) old new h = ap (λ d. plays d cells) h
  outcome Beyond old new h = absurd h
  outcome Other old new h = absurd h

  pub outcome_plays : (cells' : List Cell) (r : Computed) (old new : List ℤ) → Plays d r new cells cells' → Outcome d i r old new cells cells'
  outcome_plays cells' (To q) old new h = h
  outcome_plays cells' (Failed r) old new h = h
  outcome_plays cells' Beyond old new h = absurd h
  outcome_plays cells' Other old new h = absurd h

outcome_or : (c : Code) (pc base : ℕ) (outward : List ℕ) (cells : List Cell) (r : Computed) (old new : List ℤ) → ComputesOr (deed_of c pc (reverse old) base outward Reraise) r old new → Outcome (deed_of c pc (reverse old) base outward Reraise) Reraise r old new cells cells
outcome_or c pc base outward cells (To q) old new h = ap (λ d. plays d cells) h
outcome_or c pc base outward cells (Failed r) old new h = ap (λ d. plays d cells) h
outcome_or c pc base outward cells Beyond old new h = (h.0, h.1, refl)
outcome_or c pc base outward cells Other old new h = absurd h

-- an arm of the table: the instruction is that one, and its class does what it does
module _ (c : Code) (pc base : ℕ) (outward : List ℕ) (r : Computed) (old new : List ℤ) (cells : List Cell) where
  in_arm : (cells' : List Cell) {i j : Instr} → i ≡ j → Outcome (deed_of c pc (reverse old) base outward j) j r old new cells cells' → Outcome (deed_of c pc (reverse old) base outward i) i r old new cells cells'
  in_arm cells' is h = subst (λ i. Outcome (deed_of c pc (reverse old) base outward i) i r old new cells cells') (sym is) h

  pub computes : {i j : Instr} → i ≡ j → Computes (deed_of c pc (reverse old) base outward j) r new → Outcome (deed_of c pc (reverse old) base outward i) i r old new cells cells
  computes {i} {j} is h = in_arm cells is (outcome _ j cells r old new h)

  pub computes_or : {i : Instr} → i ≡ Reraise → ComputesOr (deed_of c pc (reverse old) base outward Reraise) r old new → Outcome (deed_of c pc (reverse old) base outward i) i r old new cells cells
  computes_or {i} is h = in_arm cells is (outcome_or c pc base outward cells r old new h)

  pub does : (cells' : List Cell) {i j : Instr} → i ≡ j → Plays (deed_of c pc (reverse old) base outward j) r new cells cells' → Outcome (deed_of c pc (reverse old) base outward i) i r old new cells cells'
  does cells' {i} {j} is h = in_arm cells' is (outcome_plays _ j cells cells' r old new h)

-- operands that are signed numbers
module _ (c : Code) (pc base : ℕ) (outward : List ℕ) (i : Instr) (cells : List Cell) (r : Computed) (old new : List ℤ) where
  pub fill_ready : (n : ℕ) (v v' : ℤ) → i ≡ Fill n v → v' ≡ v → IsClear (deed_of c pc (reverse old) base outward i) cells → IsClear (on_one (reverse old) (λ a st. stores_all (replicate n v') a (GoesOn (pc + 1) st))) cells
  fill_ready n v v' e f h = subst (λ w. IsClear (on_one (reverse old) (λ a st. stores_all (replicate n w) a (GoesOn (pc + 1) st))) cells) (sym f) (subst (λ j. IsClear (deed_of c pc (reverse old) base outward j) cells) e h)

  same_setting : (n n' : ℕ) (lo hi lo' hi' : ℤ) → n' ≡ n → lo' ≡ lo → hi' ≡ hi → on_one (reverse old) (λ v st. stored pc (pos (base + n')) (if_between lo' hi' v) st) ≡ deed_of c pc (reverse old) base outward (SetL n lo hi)
  same_setting n n' lo hi lo' hi' a f g = ap (λ n'. on_one (reverse old) (λ v st. stored pc (pos (base + n')) (if_between lo' hi' v) st)) a ∙ ap (λ l. on_one (reverse old) (λ v st. stored pc (pos (base + n)) (if_between l hi' v) st)) f ∙ ap (λ u. on_one (reverse old) (λ v st. stored pc (pos (base + n)) (if_between lo u v) st)) g

  pub set_ready : (n n' : ℕ) (lo hi lo' hi' : ℤ) → i ≡ SetL n lo hi → n' ≡ n → lo' ≡ lo → hi' ≡ hi → IsClear (deed_of c pc (reverse old) base outward i) cells → IsClear (on_one (reverse old) (λ v st. stored pc (pos (base + n')) (if_between lo' hi' v) st)) cells
  set_ready n n' lo hi lo' hi' e a f g h = subst (λ d. IsClear d cells) (sym (same_setting n n' lo hi lo' hi' a f g)) (subst (λ j. IsClear (deed_of c pc (reverse old) base outward j) cells) e h)

  same_number : (n n' : ℕ) (lo hi lo' hi' : ℤ) → n' ≡ n → lo' ≡ lo → hi' ≡ hi → on_one (reverse old) (λ v st. stored pc (pos (base + n')) (if_among lo' hi' v) st) ≡ deed_of c pc (reverse old) base outward (USetL n lo hi)
  same_number n n' lo hi lo' hi' a f g = ap (λ n'. on_one (reverse old) (λ v st. stored pc (pos (base + n')) (if_among lo' hi' v) st)) a ∙ ap (λ l. on_one (reverse old) (λ v st. stored pc (pos (base + n)) (if_among l hi' v) st)) f ∙ ap (λ u. on_one (reverse old) (λ v st. stored pc (pos (base + n)) (if_among lo u v) st)) g

  pub number_ready : (n n' : ℕ) (lo hi lo' hi' : ℤ) → i ≡ USetL n lo hi → n' ≡ n → lo' ≡ lo → hi' ≡ hi → IsClear (deed_of c pc (reverse old) base outward i) cells → IsClear (on_one (reverse old) (λ v st. stored pc (pos (base + n')) (if_among lo' hi' v) st)) cells
  number_ready n n' lo hi lo' hi' e a f g h = subst (λ d. IsClear d cells) (sym (same_number n n' lo hi lo' hi' a f g)) (subst (λ j. IsClear (deed_of c pc (reverse old) base outward j) cells) e h)
