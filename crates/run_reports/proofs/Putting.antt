-- What is put piece by piece.
use Rattle.std.proofs.Common.{ℕ, List, [], ◌++◌, Err, refl, sym, ◌∙◌, subst, append_assoc}
use Rattle.std.proofs.lemmas.List.{append-nil}
use Rattle.ada_port.proofs.Growth.{Grows-none, Grows-append, GrowsByPrefix-append, GrowsByPrefix-longer, Breaks-append, Breaks-longer}
use Rattle.ada_port.specs.Ports.{Stream, Grows, GrowsByPrefix, Breaks}
use Rattle.run_reports.specs.Puts.{Puts, Putting}
use Rattle.run_reports.specs.declared.vars.Unput.{Unput}
use Rattle.run_reports.specs.declared.vars.Unput.TheVariants as unput

pub put_begun : (whole : List ℕ) (s : Stream) → Putting whole s s whole
put_begun whole s = record { bytes = []; grown = Grows-none; parts = refl }

pub put_more : (whole : List ℕ) (old now later : Stream) (line rest : List ℕ) → Putting whole old now (line ++ rest) → Grows now later line → Putting whole old later rest
put_more whole old now later line rest p g = record {
  bytes = p.bytes ++ line;
  grown = Grows-append p.grown g;
  parts = p.parts ∙ sym (append_assoc p.bytes line rest);
}

pub put_done : (whole : List ℕ) (old now : Stream) → Putting whole old now [] → Grows old now whole
put_done whole old now p = subst (Grows old now) (sym (p.parts ∙ append-nil p.bytes)) p.grown

pub put_stops : (whole : List ℕ) (old now later : Stream) (line rest : List ℕ) (e : Unput) → Putting whole old now (line ++ rest) → Puts line (Err e) now later → Puts whole (Err e) old later
put_stops whole old now later line rest unput.Failed p broke =
    subst (Breaks old later) (sym (p.parts ∙ sym (append_assoc p.bytes line rest))) (Breaks-longer rest (Breaks-append p.grown broke))
put_stops whole old now later line rest unput.OutOfMemory p front =
    subst (GrowsByPrefix old later) (sym (p.parts ∙ sym (append_assoc p.bytes line rest))) (GrowsByPrefix-longer rest (GrowsByPrefix-append p.grown front))
