-- The parts of the code of a program, on the way to the whole.
use Rattle.std.specs.Prelude.{◌≡◌, ℕ, List, [], ◌∷◌, None, false, length}
use Rattle.typed_tree.specs.Syntax.{Program}
use Rattle.stack_code.specs.declared.code.Code.{Code}
use Rattle.stack_code.specs.declared.code.Lease.{Lease}
use Rattle.lower_emission.specs.Bodies.{main_scope}
use Rattle.lower_emission.specs.Emits.{listed}
use Rattle.lower_emission.specs.Programs.{at_least, whole_code}
use Rattle.lower_emission.specs.Tables.{instrs_from, spots_from, unwinds_from}
use Rattle.lower_emission.specs.Texts.{place}
use Rattle.lower_code.specs.BodyTables.{site_table, sub_table}
use Rattle.lower_code.specs.Starts.{main_starts}
use Rattle.lower_code.specs.declared.lowering.Laid.{Laid}

-- the instructions that are listed, with the subprograms that begin in them
abbrev pub Lays : Program → List (List ℕ) → Laid → Type 0
Lays program texts laid =
    (laid.code ≡ listed (whole_code program (λ bytes. place texts bytes)) 0)
    × (laid.subs ≡ record { entry = 0; need = at_least 0; gives = false } ∷ main_starts program (main_scope (λ bytes. place texts bytes)) program.body.decls [])

-- with their tables
abbrev pub tabled : Program → Laid → List (List ℕ) → List (List Lease) → Code
tabled program laid texts leases = record {
  instrs = instrs_from laid.code 0 laid.code;
  spots = spots_from None 0 laid.code;
  unwind = unwinds_from laid.code None 0 laid.code;
  sites = site_table laid.code leases (length program.sites);
  subs = sub_table laid.code laid.subs;
  texts = texts;
}
