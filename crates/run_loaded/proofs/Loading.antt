-- The parts of loaded code, from the laws that give them.
use Rattle.std.proofs.Common.{◌≡◌, ℕ, List, Option, Some, None}
use Rattle.std.specs.Prelude.{IsSomeAnd, slice_get}
use Rattle.stack_code.specs.declared.code.Around.TheVariants.{Sub}
use Rattle.stack_code.specs.declared.code.Code.{Code}
use Rattle.stack_code.specs.declared.code.CodeSub.{CodeSub}
use Rattle.stack_code.specs.declared.code.Lease.{Lease}
use Rattle.ada_lower.specs.Places.{leases_at}
use Rattle.ada_lower.proofs.Housed.{homes_law}
use Rattle.ada_lower.proofs.Local.{local_law}
use Rattle.lower_laws.specs.Granted.{granted_by}
use Rattle.lower_laws.proofs.Deep.{fit_law}
use Rattle.lower_laws.proofs.Leases.{granted_law}
use Rattle.lower_laws.proofs.SeenWrites.{seen_law}
use Rattle.lower_laws.proofs.Told.{leased_law}
use Rattle.lower_emission.specs.Programs.{behind_main, code_of, text_in}
use Rattle.typed_scopes.specs.Scopes.{behind, outset}
use Rattle.ada_lower.proofs.WholeLaws.{tables_law, valid_law}
use Rattle.lower_laws.specs.CodeLaw.{frame_of}
use Rattle.lower_laws.specs.Rooms.{frames_of, seen_names}
use Rattle.lower_laws.proofs.Codes.{lowered_law, ready_law}
use Rattle.lower_quiet.specs.Law.{quiet_in}
use Rattle.lower_quiet.proofs.Hushing.{quiet_law}
use Rattle.run_rooms.proofs.Rooms.{room_law}
use Rattle.run_loaded.specs.Law.{AcceptedLaw, LoadedLaw}

-- the main procedure begins at the first instruction
first_entry : (o : Option CodeSub) → IsSomeAnd o (λ s. (s.entry ≡ 0) × (s.takes ≡ 0)) → IsSomeAnd o (λ s. s.entry ≡ 0)
first_entry None h = h
first_entry (Some s) h = h.0

pub loaded_law : LoadedLaw
loaded_law program shown granted accepted rule named are countable =
    let leases : ℕ → List Lease = leases_at program granted in
    let c : Code = code_of program leases in
    let text = text_in program in
    let lowered = lowered_law program shown leases accepted.formed named.filled named.scoped named.stays named.distinct named.rows named.nested in
    let fits = fit_law program shown granted accepted.formed named.filled named.scoped named.stays named.distinct named.rows named.nested in
    let frames : ℕ → ℕ = frames_of (frame_of program) in
    let frame : ℕ = frame_of program (Sub 0) in
    let sees = seen_law program shown c text frames frame lowered.0 (local_law program named.objects) named.distinct named.scoped lowered.1 in
    let leased = leased_law program shown granted text frames frame lowered.0 (homes_law program named.objects) named.distinct named.scoped are sees in
    let tables = tables_law program leases named.distinct named.rows named.nested fits in
    let ready = ready_law program shown accepted.formed named.filled named.scoped in
    let hushed = quiet_law program text c tables.0 tables.1 rule in
    let room = room_law program in (
      room.0,
      record {
        accepted = accepted;
        globals = seen_names shown (behind_main program text).object;
        mains = (behind outset program.body.decls).taken;
        texts = c.texts;
        text = text;
        frames = frames;
        depth = lowered.0;
        lowered = lowered.1;
        leased = leased;
        valid = valid_law program text c tables.0 tables.1 ready.0 ready.1;
        countable = countable;
        begins = first_entry (slice_get c.subs 0) tables.1.main;
        later = hushed.1;
        quiet = quiet_in program;
        hushed = hushed.0;
        room = room.1;
      },
    )

pub accepted_law : AcceptedLaw
accepted_law program shown grants accepted rule named are countable = loaded_law program shown (granted_by grants) accepted rule named (granted_law program grants are) countable
