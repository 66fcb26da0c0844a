-- Threads of a team in a run by notes share no cell that one of them writes, where the program's runs have no races.
use Rattle.std.proofs.Common.{◌≡◌, ℕ, ◌<◌, List, [], ◌∷◌, inl, inr, Bool, true, false, sym, subst, ap, ◌∙◌}
use Rattle.behaviours.specs.Paths.{Instance}
use Rattle.behaviours.specs.Events.{Reads, Writes, Recalls, Keeps, Takes, Puts, Looks, Trace, Cell, Has, Touches, WritesTo, Apart}
use Rattle.behaviours.specs.Joins.{Share}
use Rattle.behaviours.specs.Behaviours.{ThreadApart, ThreadsApart, asks_apart}
use Rattle.ada_meaning.specs.Stored.{State, Address, Touch, Thread}
use Rattle.ada_meaning.specs.Touched.{Before, WrittenIn, TouchedIn, IsAmong, IsApart, ApartLaw}
use Rattle.ada_meaning.proofs.Lays.{Tie, place, Tied, place_inj}
use Rattle.ada_meaning.proofs.Simulates.{Acts, AllShow}
use Rattle.ada_meaning.proofs.Visits.{IsShare, Known, AllKnown, LawFor, program_visits}

-- an action at a cell of an instance

acts_writes : (l : Instance) (i : ℕ) (tr : Trace Instance) → Has (Acts true l i) tr → WritesTo tr (Cell l i)
acts_writes l i [] h = absurd h
acts_writes l i (a ∷ tr) (inr h) = inr (acts_writes l i tr h)
acts_writes l i (Writes x n v ∷ tr) (inl (e, f)) = inl (ap (λ z. Cell z n) e ∙ ap (λ z. Cell l z) f)
acts_writes l i (Reads x n v ∷ tr) (inl h) = absurd h
acts_writes l i (Recalls x ∷ tr) (inl h) = absurd h
acts_writes l i (Keeps x ∷ tr) (inl h) = absurd h
acts_writes l i (Takes n x ∷ tr) (inl h) = absurd h
acts_writes l i (Puts x ∷ tr) (inl h) = absurd h
acts_writes l i (Looks ∷ tr) (inl h) = absurd h

acts_touches : (w : Bool) (l : Instance) (i : ℕ) (tr : Trace Instance) → Has (Acts w l i) tr → Touches tr (Cell l i)
acts_touches w l i [] h = absurd h
acts_touches w l i (a ∷ tr) (inr h) = inr (acts_touches w l i tr h)
acts_touches true l i (Writes x n v ∷ tr) (inl (e, f)) = inl (ap (λ z. Cell z n) e ∙ ap (λ z. Cell l z) f)
acts_touches false l i (Reads x n v ∷ tr) (inl (e, f)) = inl (ap (λ z. Cell z n) e ∙ ap (λ z. Cell l z) f)
acts_touches false l i (Writes x n v ∷ tr) (inl h) = absurd h
acts_touches true l i (Reads x n v ∷ tr) (inl h) = absurd h
acts_touches true l i (Recalls x ∷ tr) (inl h) = absurd h
acts_touches true l i (Keeps x ∷ tr) (inl h) = absurd h
acts_touches true l i (Takes n x ∷ tr) (inl h) = absurd h
acts_touches true l i (Puts x ∷ tr) (inl h) = absurd h
acts_touches true l i (Looks ∷ tr) (inl h) = absurd h
acts_touches false l i (Recalls x ∷ tr) (inl h) = absurd h
acts_touches false l i (Keeps x ∷ tr) (inl h) = absurd h
acts_touches false l i (Takes n x ∷ tr) (inl h) = absurd h
acts_touches false l i (Puts x ∷ tr) (inl h) = absurd h
acts_touches false l i (Looks ∷ tr) (inl h) = absurd h

-- what was touched

abbrev Shown : List Tie → List Tie → Trace Instance → Bool → Address → Type 0
Shown ls gs tr w a = (c : Tie) × (i : ℕ) × Tied ls gs c × (i < c.cells) × (a ≡ place c i) × Has (Acts w c.instance i) tr

module _ (ls gs : List Tie) (s : State) (tr : Trace Instance) (a : Address) (before : Before s a) where
  show_written : (ts : List Touch) → AllShow ls gs s tr ts → WrittenIn ts a → Shown ls gs tr true a
  show_written [] h w = absurd w
  show_written (t ∷ ts) h (inr w) = show_written ts h.1 w
  show_written (t ∷ ts) h (inl (writes, at)) =
      let k = h.0 (subst (λ z. Before s z) (sym at) before) in
      (k.0, k.1, k.2, k.3, sym at ∙ k.4, subst (λ z. Has (Acts z (k.0).instance k.1) tr) writes k.5)

  show_touched : (ts : List Touch) → AllShow ls gs s tr ts → TouchedIn ts a → (w : Bool) × Shown ls gs tr w a
  show_touched [] h w = absurd w
  show_touched (t ∷ ts) h (inr w) = show_touched ts h.1 w
  show_touched (t ∷ ts) h (inl at) =
      let k = h.0 (subst (λ z. Before s z) (sym at) before) in
      (t.writes, (k.0, k.1, k.2, k.3, sym at ∙ k.4, k.5))

-- two of the threads

flipped : (t u : Trace Instance) → Apart t u → Apart u t
flipped t u h = record { forth = λ y w k. h.back y k w; back = λ y k w. h.forth y w k }

one_apart : (may : Share → Trace Instance → Type 0) (j k : Share) (js : List Share) → ThreadApart may j js → IsShare k js → (t u : Trace Instance) → may j t → may k u → Apart t u
one_apart may j k [] h i t u m n = absurd i
one_apart may j k (l ∷ js) h (inl e) t u m n = h.0 t u m (subst (λ z. may z u) e n)
one_apart may j k (l ∷ js) h (inr i) t u m n = one_apart may j k js h.1 i t u m n

two_apart : (may : Share → Trace Instance → Type 0) (j k : Share) (js : List Share) → ThreadsApart may js → IsShare j js → IsShare k js → (j ≡ k → ⊥) → (t u : Trace Instance) → may j t → may k u → Apart t u
two_apart may j k [] h a b ne t u m n = absurd a
two_apart may j k (l ∷ js) h (inl e) (inl f) ne t u m n = absurd (ne (e ∙ sym f))
two_apart may j k (l ∷ js) h (inl e) (inr b) ne t u m n = one_apart may l k js h.0 b t u (subst (λ z. may z t) e m) n
two_apart may j k (l ∷ js) h (inr a) (inl f) ne t u m n = flipped u t (one_apart may l j js h.0 a u t (subst (λ z. may z u) f n) m)
two_apart may j k (l ∷ js) h (inr a) (inr b) ne t u m n = two_apart may j k js h.1 a b ne t u m n

known_among : (ls gs : List Tie) (s : State) (may : Share → Trace Instance → Type 0) (js : List Share) (bs : List Thread) (b : Thread) → AllKnown ls gs s may js bs → IsAmong b bs → Known ls gs s may js b
known_among ls gs s may js [] b h i = absurd i
known_among ls gs s may js (c ∷ bs) b h (inl e) = subst (λ z. Known ls gs s may js z) (sym e) h.0
known_among ls gs s may js (c ∷ bs) b h (inr i) = known_among ls gs s may js bs b h.1 i

apart_law_for : (input : List ℕ) → LawFor input asks_apart IsApart
apart_law_for input m ls gs s t p n v h ordered site js may asked bs known u b c i j ne a before writes touches =
    let kb = known_among ls gs s may js bs b known i in
    let kc = known_among ls gs s may js bs c known j in
    let w = show_written ls gs s kb.1.0 a before b.touches kb.1.2 writes in
    let o = show_touched ls gs s kc.1.0 a before c.touches kc.1.2 touches in
    conflict kb.1.0 kc.1.0 o.0 (two_apart may b.share c.share js asked kb.0 kc.0 ne kb.1.0 kc.1.0 kb.1.1 kc.1.1) w o.1
  where
    conflict : (tr tu : Trace Instance) (k : Bool) → Apart tr tu → Shown ls gs tr true a → Shown ls gs tu k a → ⊥
    conflict tr tu k apart (d, x, td, lt, at, acts) (e, y, te, lu, bt, bcts) =
        let same : d ≡ e = h.one d e td te (h.apart d e x y td te lt lu (sym at ∙ bt)) in
        let cell : x ≡ y = place_inj d.kept d.base x y (sym at ∙ bt ∙ ap (λ z. place z y) (sym same)) in
        apart.forth (Cell d.instance x) (acts_writes d.instance x tr acts)
        (subst (λ z. Touches tu z) (ap (λ (z : Tie). Cell z.instance y) (sym same) ∙ ap (λ z. Cell d.instance z) (sym cell)) (acts_touches k e.instance y tu bcts))

pub apart_law : ApartLaw
apart_law program set slots input before notes keeps free alone = program_visits program set slots input before notes asks_apart IsApart (apart_law_for input) keeps alone (free set)
