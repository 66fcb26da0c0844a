-- A number that is read is the one of the stored run.
use Rattle.std.proofs.Common.{◌≡◌, ℕ, ◌+◌, ℤ, List, [], ◌++◌, length, drop, Option, None, true, refl, sym, ap, subst, ◌∙◌, append_assoc, length-append}
use Rattle.std.proofs.Math.Seq.{drop-append_seam}
use Rattle.ada_base.specs.Cuts.{One, cuts_of}
use Rattle.ada_base.specs.Input.{Held}
use Rattle.ada_io.specs.declared.input.GetEnd.{GetEnd}
use Rattle.ada_io.specs.declared.input.GetEnd.TheVariants as get
use Rattle.ada_io.specs.declared.input.Got.{Got}
use Rattle.ada_io.specs.Gets.{Last, Open, AtEnd, Broken, EndsHeld, ReaderState, last_of, met_end}
use Rattle.ada_meaning.specs.Deeds.{Deed}
use Rattle.ada_meaning.specs.Stored.{State, Stored, Computes}
use Rattle.run_outside.specs.Outside.{Outside, Faults, HasGot, GetCauses, Follows, Came}
use Rattle.run_store.specs.Shows.{Image, Shows, Answers, Causes, outside_of, facing}
use Rattle.run_store.specs.Input.{got, number_of, read_to}
use Rattle.run_store.proofs.StoredGet.{IsRest, end_of, stored_get}

shows_as : (m : Stored ℤ) (e : GetEnd) (s t : State) → Computes m s (end_of 0 (cuts_of One) e) t → Answers (λ a. a) m (number_of e) s t
shows_as m (get.Number v) s t h = h
shows_as m (get.Raise r) s t h = h
shows_as m get.ReadFault s t h = h
shows_as m get.Spent s t h = h

causes_as : (e : GetEnd) (f g : Faults) → GetCauses e f g → Causes (number_of e) f g
causes_as (get.Number v) f g h = h
causes_as (get.Raise r) f g h = h
causes_as get.ReadFault f g h = h
causes_as get.Spent f g h = h

rest_of : (last : Last) (after : Held) (more : List ℕ) → EndsHeld last after → (met_end after ≡ true → more ≡ []) → IsRest 0 (cuts_of One) last more
rest_of Open after more h none = tt
rest_of AtEnd after more h none = none h
rest_of Broken after more h none = tt

pub get_shows : {Tells : List ℕ → Outside → Type 0} (limit left : ℕ) (s : Image) (o : Outside) (r : Got) → s.state.done ≡ None → s.state.taken ≡ length s.state.input → s.state.turns + left ≡ limit → HasGot Tells left r (outside_of s) o → Shows Tells (got limit) (number_of r.end) s (read_to s r o)
get_shows {Tells = Tells} limit left s o r unkept counted e h = (causes_as r.end s.faults o.faults h.cause, h.keeps, λ w told. shown w (h.follows w told) h.came)
  where
    shown : (w : List ℕ) → Follows w o → Came left r (outside_of s) o → Answers (λ a. a) (got limit) (number_of r.end) (facing w s.state) (facing w (read_to s r o).state)
    shown w f c =
        let g = c.gets in
        let before : ReaderState = record { held = s.state.held; came = s.state.input } in
        let after : ReaderState = record { held = o.held; came = o.came } in
        let front : drop (length s.state.input) w ≡ g.bytes ++ f.more = ap (drop (length s.state.input)) (f.whole ∙ ap (λ bs. bs ++ f.more) g.log ∙ append_assoc s.state.input g.bytes f.more) ∙ drop-append_seam s.state.input (g.bytes ++ f.more) in
        let over : drop (length o.came) w ≡ f.more = ap (drop (length o.came)) f.whole ∙ drop-append_seam o.came f.more in
        let taken : s.state.taken + r.came ≡ length o.came = ap (λ n. n + r.came) counted ∙ ap (λ n. length s.state.input + n) g.came ∙ sym (length-append s.state.input g.bytes) ∙ ap length (sym g.log) in
        let ends : IsRest 0 (cuts_of One) (last_of r.end g.ended) f.more = rest_of (last_of r.end g.ended) o.held f.more g.ends f.none in
        let c = stored_get limit (cuts_of One) c.old c.new before after left r g (facing w s.state) f.more unkept refl e front ends in
        let c = subst (λ (o' : Option (List Deed)). Computes (got limit) (facing w s.state) (end_of 0 (cuts_of One) r.end) (record (s.state) { held = o.held; input = f.more; turns = s.state.turns + r.took; taken = s.state.taken + r.came; done = o' })) (sym unkept) c in
        let d = subst (λ bs. Computes (got limit) (facing w s.state) (end_of 0 (cuts_of One) r.end) (record (s.state) { held = o.held; input = f.more; turns = s.state.turns + r.took; taken = s.state.taken + r.came; output = bs })) (sym h.put) c in
        let d = subst (λ bs. Computes (got limit) (facing w s.state) (end_of 0 (cuts_of One) r.end) (record (s.state) { held = o.held; input = bs; turns = s.state.turns + r.took; taken = s.state.taken + r.came; output = o.put })) (sym over) d in
        let d = subst (λ n. Computes (got limit) (facing w s.state) (end_of 0 (cuts_of One) r.end) (record (s.state) { held = o.held; input = drop (length o.came) w; turns = s.state.turns + r.took; taken = n; output = o.put })) taken d in
        shows_as (got limit) r.end (facing w s.state) (facing w (read_to s r o).state) d
