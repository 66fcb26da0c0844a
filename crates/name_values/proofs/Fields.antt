-- The component that an identifier names, from a place in the record on.
use Rattle.std.proofs.Common.{◌≡◌, refl, ◌∙◌, ℕ, ◌+◌, ◌==◌, List, ◌∷◌, Option, Some, None, true, false, drop, arith}
use Rattle.std.specs.Prelude.{slice_get}
use Rattle.std.proofs.lemmas.Bool.Decides.{nat_tests}
use Rattle.typed_tree.specs.Decoded.{TypedPart}
use Rattle.typed_tree.specs.Decoded as part
use Rattle.typed_tree.specs.Syntax as typed
use Rattle.typed_tree.specs.Latest.{top, pop}
use Rattle.name_rules.specs.Judging.{fault, some}
use Rattle.name_rules.specs.Found.{Denoted, denote}
use Rattle.name_rules.specs.Names.{field_from, part_place}
use Rattle.name_rules.specs.Symbols.{symbol}
use Rattle.name_rules.specs.TypedParts.{also}
use Rattle.name_rules.specs.declared.found.ObjectName.{ObjectName}
use Rattle.name_rules.specs.declared.log.Field.{Field}
use Rattle.name_rules.specs.declared.log.Log.{Log}
use Rattle.name_rules.specs.declared.log.Rule.TheVariants.{Unknown}
use Rattle.name_rules.specs.declared.scope.Names.{Names}
use Rattle.name_values.proofs.Lists.{drop_get, drop_none}

eq-true : (a b : ℕ) → a ≡ b → (a == b) ≡ true
eq-true a b e = grind (arith, nat_tests)

eq-false : (a b : ℕ) → (a ≡ b → ⊥) → (a == b) ≡ false
eq-false a b e = grind (arith, nat_tests)

pub field_found : (names : Names) (p : ObjectName) (ss : TypedPart) (at i : ℕ) (fs : List Field) (f : Field) (log : Log)
    → slice_get fs i ≡ Some f → (f.symbol == symbol names at) ≡ true
    → field_from names p ss at i (drop i fs) log ≡ some (denote (part_place p f.subtype) (also ss (part.ASelection (typed.Field i f.offset)))) log
field_found names p ss at i fs f log e h = rw (drop_get fs i f e) (rw h refl)

pub field_next : (names : Names) (p : ObjectName) (ss : TypedPart) (at i : ℕ) (fs : List Field) (f : Field) (log : Log)
    → slice_get fs i ≡ Some f → (f.symbol == symbol names at) ≡ false
    → field_from names p ss at i (drop i fs) log ≡ field_from names p ss at (i + 1) (drop (i + 1) fs) log
field_next names p ss at i fs f log e h = rw (drop_get fs i f e) (rw h refl)

pub field_none : (names : Names) (p : ObjectName) (ss : TypedPart) (at i : ℕ) (fs : List Field) (log : Log)
    → slice_get fs i ≡ None → field_from names p ss at i (drop i fs) log ≡ fault at Unknown log
field_none names p ss at i fs log e = rw (drop_none fs i e) refl

-- what is shown where the component is found at a place, and where the loop goes on or ends
pub found_shows : (names : Names) (p : ObjectName) (at i : ℕ) (fs : List Field) (f : Field) (log : Log) (old mid new : List TypedPart) (whole : Option Denoted × Log)
    → whole ≡ field_from names p (top old) at i (drop i fs) log → slice_get fs i ≡ Some f → f.symbol ≡ symbol names at → mid ≡ old
    → new ≡ also (top mid) (part.ASelection (typed.Field i f.offset)) ∷ pop mid
    → (whole ≡ (Some (record { known = part_place p f.subtype; part = top new }), log)) × (pop new ≡ pop old)
found_shows names p at i fs f log old mid new whole w e h same is =
    rw (is, same) (w ∙ field_found names p (top old) at i fs f log e (eq-true f.symbol (symbol names at) h), refl)

pub next_shows : (names : Names) (p : ObjectName) (ss : TypedPart) (at i : ℕ) (fs : List Field) (f : Field) (log : Log)
    → slice_get fs i ≡ Some f → (f.symbol ≡ symbol names at → ⊥)
    → field_from names p ss at i (drop i fs) log ≡ field_from names p ss at (i + 1) (drop (i + 1) fs) log
next_shows names p ss at i fs f log e h = field_next names p ss at i fs f log e (eq-false f.symbol (symbol names at) h)
