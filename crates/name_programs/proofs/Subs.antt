-- Subprograms of what was found of them.
use Rattle.std.proofs.Common.{◌≡◌, refl, ℕ, Bool, true, false, Option, Some, None, List, [], ◌∷◌, ◌++◌}
use Rattle.std.proofs.lemmas.List.{reverse-append}
use Rattle.std.specs.Prelude.{option_map, reverse, ◌&&◌}
use Rattle.typed_tree.specs.Decoded.{TypedPart}
use Rattle.typed_tree.specs.Syntax.{Sub as TypedSub}
use Rattle.typed_tree.specs.Latest.{pop, second, top}
use Rattle.name_programs.specs.Forms.{sub_if, subs_if, whole_by}
use Rattle.name_programs.specs.SubprogramSteps as step
use Rattle.name_rules.specs.Judges.{part_if}
use Rattle.name_rules.specs.Judging.{joined}
use Rattle.name_rules.specs.Programs.{Profiled, returned_body, sub_where, whole}
use Rattle.name_tables.specs.Heads.{headed, subs_back, subs_of}
use Rattle.name_tables.specs.declared.heads.Head.{Head}

pub sub_joined : (p : Profiled) (n : Option ℕ) (z b : Bool) (x : TypedPart) → joined (sub_where p z) n (part_if b x) ≡ sub_if p.takes p.gives (step.sub_where n z b) x
sub_joined p None z true x = refl
sub_joined p None z false x = refl
sub_joined p (Some n) z true x = refl
sub_joined p (Some n) z false x = refl

pub sub_returned : (p : Profiled) (n : Option ℕ) (z b : Bool) (x : TypedPart) → joined (sub_where p z) n (option_map returned_body (part_if b x)) ≡ sub_if p.takes p.gives (step.sub_where n z b) (returned_body x)
sub_returned p None z true x = refl
sub_returned p None z false x = refl
sub_returned p (Some n) z true x = refl
sub_returned p (Some n) z false x = refl

pub main_joined : (z s held subs : Bool) (hs : List Head) (ps : List TypedPart) → joined (whole z s) (part_if held (top ps)) (subs_if subs hs (pop ps)) ≡ whole_by (held && subs) hs z s ps
main_joined z s true true hs ps = refl
main_joined z s true false hs ps = refl
main_joined z s false true hs ps = refl
main_joined z s false false hs ps = refl

-- what stands behind what was gathered so far stays there
back_more : (hs : List Head) (ps : List TypedPart) (done more : List TypedSub) → subs_back hs ps (done ++ more) ≡ subs_back hs ps done ++ more
back_more [] ps done more = refl
back_more (h ∷ hs) ps done more = back_more hs (pop (pop ps)) (headed h (second ps) (top ps) ∷ done) more

-- one more subprogram
pub subs_also : (hs : List Head) (h : Head) (ps : List TypedPart) → subs_of (hs ++ h ∷ []) ps ≡ subs_of hs (pop (pop ps)) ++ headed h (second ps) (top ps) ∷ []
unfolding subs_of
subs_also hs h ps = rw (reverse-append hs (h ∷ [])) (back_more (reverse hs) (pop (pop ps)) [] (headed h (second ps) (top ps) ∷ []))
