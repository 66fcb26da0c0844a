-- As far as a Get has come: what the source gave, and what is left to do.
use Rattle.std.proofs.Common.{◌≡◌, ◌⊎◌, inl, inr, ℕ, suc, ◌+◌, ◌-◌, ◌<◌, ◌≤◌, List, [], ◌∷◌, ◌++◌, length, Option, Some, None, is_some, Result, Ok, Err, Bool, true, false, cond, ℤ, refl, sym, ap, subst, ◌∙◌, arith, true≢false, length-append}
use Rattle.std.proofs.lemmas.List.{append_assoc, append-nil}
use Rattle.ada_base.specs.declared.reason.Reason.{Reason}
use Rattle.ada_base.specs.Input.{Held, Symbol}
use Rattle.ada_base.specs.Input as input
use Rattle.ada_io.specs.declared.input.Holding.{Holding}
use Rattle.ada_io.specs.declared.input.Holding.TheVariants as holding
use Rattle.ada_io.specs.declared.phases.Phase.{Phase}
use Rattle.ada_io.specs.declared.phases.Phase.TheVariants.{Blanks}
use Rattle.ada_io.specs.declared.phases.Next.TheVariants.{Asks, Gives, Raises}
use Rattle.ada_io.specs.declared.asking.Looked.TheVariants.{At, ReadFault, Spent}
use Rattle.ada_io.specs.declared.input.GetEnd.{GetEnd}
use Rattle.ada_io.specs.declared.input.Got.{Got}
use Rattle.ada_io.specs.declared.input.GetEnd.TheVariants as end
use Rattle.ada_io.specs.Plain.{Feed, Byte, fed, State, Stop, Raised, Failed, TurnsSpent, After, at, Doing, next, given, asked, then, plain}
use Rattle.ada_io.specs.Gets.{ReaderState, Last, Open, AtEnd, Gave, MayFollow, askings, met_end, EndsHeld, Gets}
use Rattle.ada_io.specs.Phases.{rest, Takes, held_of}
use Rattle.ada_io.specs.Looks.{Looks, IsAsked, came_with}
use Rattle.ada_io.proofs.Enough.{asked_same, skip_same, read_same}
use Rattle.ada_port.specs.Ports.{Stream, GivesUntil}
use Rattle.ada_port.specs.Ports as port
use Rattle.ada_port.proofs.Asked.{Gives-none, Gives-append, GivesAll-append, GivesUntil-append}

abbrev pub state : Held → Feed → ℕ → ℕ → State
state h feed turns taken = record { held = h; feed = feed; turns = turns; taken = taken }

abbrev pub got_of : GetEnd → ℕ → ℕ → Got
got_of e took came = record { end = e; took = took; came = came }

abbrev pub so : Bool → Last
so ended = cond ended AtEnd Open

-- a source, and the log of what came
pub record Point : Type 0 where
  pub source : Stream
  pub log : List ℕ

abbrev pub point : Stream → List ℕ → Point
point source log = record { source = source; log = log }

abbrev pub state_of : Held → List ℕ → ReaderState
state_of held log = record { held = held; came = log }

pub record Reaches (old now : Point) (before : Held) (turns took came : ℕ) (ended : Bool) (todo : Doing ℤ) : Type 0 where
  pub bytes : List ℕ
  pub gave : Gave (so ended) old.source now.source bytes
  pub logged : now.log ≡ old.log ++ bytes
  pub counted : took ≡ askings (so ended) bytes
  pub arrived : came ≡ length bytes
  pub within : took ≤ turns
  pub same : (more : Feed) → MayFollow (so ended) more → (taken : ℕ) → input.got plain turns (state before (fed bytes more) turns taken) ≡ todo (state before more (turns - took) (taken + length bytes))

-- what is left to do in a phase, from what is held or the next byte on
abbrev pub from : Phase → Holding → Doing ℤ
from phase held = then (input.first_symbol plain (held_of held)) (rest phase)

-- before something is looked at, and after
pub record Going (old now : Point) (before : Holding) (turns took came : ℕ) (phase : Phase) (held : Holding) : Type 0 where
  pub ended : Bool
  pub last : ended ≡ true → held ≡ holding.Symbol None
  pub reaches : Reaches old now (held_of before) turns took came ended (from phase held)
  pub kept : met_end (held_of before) ≡ true → (held ≡ holding.Symbol None) × (reaches.bytes ≡ [])
  pub meets : held ≡ holding.Symbol None → (met_end (held_of before) ≡ true) ⊎ (ended ≡ true)

pub record Seeing (old now : Point) (before : Holding) (turns took came : ℕ) (phase : Phase) (symbol : Option ℕ) : Type 0 where
  pub ended : Bool
  pub last : ended ≡ true → symbol ≡ None
  pub reaches : Reaches old now (held_of before) turns took came ended (rest phase symbol)
  pub kept : met_end (held_of before) ≡ true → (symbol ≡ None) × (reaches.bytes ≡ [])
  pub meets : symbol ≡ None → (met_end (held_of before) ≡ true) ⊎ (ended ≡ true)

-- a reader that holds the end
end_held : (h : Holding) → met_end (held_of h) ≡ true → h ≡ holding.Symbol None
end_held holding.Nothing e = absurd (true≢false (sym e))
end_held (holding.Symbol None) e = refl
end_held (holding.Symbol (Some b)) e = absurd (true≢false (sym e))

end_seen : (symbol : Option ℕ) → met_end (Symbol symbol) ≡ true → symbol ≡ None
end_seen None e = refl
end_seen (Some b) e = absurd (true≢false (sym e))

-- ---- the beginning

begun : (t : State) (h : Holding) → then (input.first_symbol plain (held_of h)) (λ s. then (input.skip_blanks plain (suc t.turns) s) (input.number_read plain (suc t.turns))) t ≡ from Blanks h t
begun t (holding.Symbol s) = refl
begun t holding.Nothing =
    asked_same t t.turns _ _ (λ u v e. skip_same (suc t.turns) (suc v.turns) _ _ u v (omega arith) (omega arith) (λ x w h. read_same (suc t.turns) (suc v.turns) x w (omega arith) (omega arith)))

pub begins : (old : Point) (before : Holding) (turns : ℕ) → Going old old before turns 0 0 Blanks before
begins old before turns = record {
  ended = false;
  last = λ e. absurd (true≢false (sym e));
  reaches = record {
    bytes = [];
    gave = Gives-none;
    logged = sym (append-nil old.log);
    counted = refl;
    arrived = refl;
    within = omega arith;
    same = λ more follows taken. begun (state (held_of before) more turns taken) before ∙ settled more taken;
  };
  kept = λ e. (end_held before e, refl);
  meets = λ e. inl (ap (λ h. met_end (held_of h)) e);
}
  where
    settled : (more : Feed) (taken : ℕ) → from Blanks before (state (held_of before) more turns taken) ≡ from Blanks before (state (held_of before) more (turns - 0) (taken + 0))
    settled more taken =
        let d : turns ≡ turns - 0 = omega arith in
        let e : taken ≡ taken + 0 = omega arith in
        ap (λ n. from Blanks before (state (held_of before) more n taken)) d ∙ ap (λ n. from Blanks before (state (held_of before) more (turns - 0) n)) e

pub fewer : (old now : Point) (before : Holding) (turns took came : ℕ) (phase : Phase) (held : Holding) → Going old now before turns took came phase held → came ≤ took
fewer old now before turns took came phase held g = go g.ended g.reaches
  where
    go : (ended : Bool) → Reaches old now (held_of before) turns took came ended (from phase held) → came ≤ took
    go true r = omega (arith, r.counted, r.arrived)
    go false r = omega (arith, r.counted, r.arrived)

-- ---- looking

fed-append : (bytes : List ℕ) (b : ℕ) (more : Feed) → fed (bytes ++ b ∷ []) more ≡ fed bytes (Byte b more)
fed-append [] b more = refl
fed-append (c ∷ bytes) b more = ap (Byte c) (fed-append bytes b more)

-- with turns left an asking takes one
asked_at : (h : Held) (feed : Feed) (turns took taken : ℕ) (k : Option ℕ → Doing ℤ) → took < turns
    → (let r = asked (state h feed (turns - took) taken) (turns - took) in next r.state r.answer k) ≡ (let r = given (state h feed (turns - (took + 1)) taken) feed in next r.state r.answer k)
asked_at h feed turns took taken k lt =
    let e : turns - took ≡ suc (turns - (took + 1)) = omega arith in
    ap (λ n. let r = asked (state h feed n taken) n in next r.state r.answer k) e

not_ended : (old now : Point) (before : Held) (turns took came : ℕ) (ended : Bool) (todo : Doing ℤ) → (ended ≡ true → ⊥) → Reaches old now before turns took came ended todo → Reaches old now before turns took came false todo
not_ended old now before turns took came true todo h r = absurd (h refl)
not_ended old now before turns took came false todo h r = r

byte : (old now new : Point) (before : Held) (turns took came : ℕ) (phase : Phase) (b : ℕ) → took < turns → Reaches old now before turns took came false (from phase holding.Nothing) → port.Gives now.source new.source (b ∷ [])
    → new.log ≡ now.log ++ b ∷ [] → Reaches old new before turns (took + 1) (came + 1) false (rest phase (Some b))
byte old now new before turns took came phase b lt r g l = record {
  bytes = r.bytes ++ b ∷ [];
  gave = Gives-append r.gave g;
  logged = l ∙ ap (λ bs. bs ++ b ∷ []) r.logged ∙ append_assoc old.log r.bytes (b ∷ []);
  counted = omega (arith, r.counted, length-append r.bytes (b ∷ []));
  arrived = omega (arith, r.arrived, length-append r.bytes (b ∷ []));
  within = omega arith;
  same = λ more follows taken.
      ap (λ feed. input.got plain turns (state before feed turns taken)) (fed-append r.bytes b more)
      ∙ r.same (Byte b more) tt taken
      ∙ asked_at before (Byte b more) turns took (taken + length r.bytes) (rest phase) lt
      ∙ (let e : taken + length r.bytes + 1 ≡ taken + length (r.bytes ++ b ∷ []) = omega (arith, length-append r.bytes (b ∷ [])) in
      ap (λ n. rest phase (Some b) (state before more (turns - (took + 1)) n)) e);
}

ends : (old now new : Point) (before : Held) (turns took came : ℕ) (phase : Phase) → took < turns → Reaches old now before turns took came false (from phase holding.Nothing) → port.GivesAll now.source new.source []
    → new.log ≡ now.log → Reaches old new before turns (took + 1) came true (rest phase None)
ends old now new before turns took came phase lt r g l = record {
  bytes = r.bytes;
  gave = subst (λ bytes. port.GivesAll old.source new.source bytes) (append-nil r.bytes) (GivesAll-append r.gave g);
  logged = l ∙ r.logged;
  counted = omega (arith, r.counted);
  arrived = r.arrived;
  within = omega arith;
  same = λ more follows taken.
      let given_at : Feed → After ℤ = λ feed. let q = given (state before feed (turns - (took + 1)) (taken + length r.bytes)) feed in next q.state q.answer (rest phase) in
      r.same more tt taken
      ∙ asked_at before more turns took (taken + length r.bytes) (rest phase) lt
      ∙ ap given_at follows
      ∙ ap (λ feed. rest phase None (state before feed (turns - (took + 1)) (taken + length r.bytes))) (sym follows);
}

asked_for : (old now new : Point) (before : Holding) (turns took came : ℕ) (phase : Phase) (symbol : Option ℕ) → Reaches old now (held_of before) turns took came false (from phase holding.Nothing)
    → (met_end (held_of before) ≡ true → ⊥) → IsAsked now.source new.source turns took (took + 1) came (came_with came symbol) now.log new.log symbol
    → Seeing old new before turns (took + 1) (came_with came symbol) phase symbol
asked_for old now new before turns took came phase (Some b) r fresh l = record {
  ended = false;
  last = λ e. absurd (true≢false (sym e));
  reaches = byte old now new (held_of before) turns took came phase b l.left r l.takes l.bytes;
  kept = λ e. absurd (fresh e);
  meets = λ e. absurd (true≢false (ap is_some e));
}
asked_for old now new before turns took came phase None r fresh l = record {
  ended = true;
  last = λ e. refl;
  reaches = ends old now new (held_of before) turns took came phase l.left r l.takes l.bytes;
  kept = λ e. absurd (fresh e);
  meets = λ e. inr refl;
}

-- nothing is held, so the end wasn't met
open_at : (old now : Point) (before : Holding) (turns took came : ℕ) (phase : Phase) → Going old now before turns took came phase holding.Nothing → Reaches old now (held_of before) turns took came false (from phase holding.Nothing)
open_at old now before turns took came phase g = not_ended old now (held_of before) turns took came g.ended (from phase holding.Nothing) (λ e. let h = g.last e in cc) g.reaches

-- nor was it held at the beginning
fresh_at : (old now : Point) (before : Holding) (turns took came : ℕ) (phase : Phase) → Going old now before turns took came phase holding.Nothing → met_end (held_of before) ≡ true → ⊥
fresh_at old now before turns took came phase g e = let h = (g.kept e).0 in cc

pub looks : (old now : Point) (new : Stream) (log : List ℕ) (before : Holding) (turns took later came more : ℕ) (phase : Phase) (held : Holding) (symbol : Option ℕ) → Going old now before turns took came phase held
    → Looks now.source new held turns took later came more now.log log (At symbol) → Seeing old (point new log) before turns later more phase symbol
looks old now new log before turns took later came more phase (holding.Symbol s) symbol g l =
    let base : Seeing old now before turns took came phase s = record {
      ended = g.ended;
      last = λ e. let h = g.last e in cc;
      reaches = g.reaches;
      kept = λ e. let k = g.kept e in let h = k.0 in (cc, k.1);
      meets = λ e. g.meets (ap holding.Symbol e);
    } in
    subst (λ x. Seeing old (point x log) before turns later more phase symbol) (sym l.source)
    (subst (λ x. Seeing old (point now.source x) before turns later more phase symbol) (sym l.bytes)
    (subst (λ n. Seeing old now before turns n more phase symbol) (sym l.took)
    (subst (λ n. Seeing old now before turns took n phase symbol) (sym l.came)
    (subst (λ y. Seeing old now before turns took came phase y) (sym l.symbol) base))))
looks old now new log before turns took later came more phase holding.Nothing symbol g l =
    subst (λ n. Seeing old (point new log) before turns n more phase symbol) (sym l.took)
    (subst (λ n. Seeing old (point new log) before turns (took + 1) n phase symbol) (sym l.came)
    (asked_for old now (point new log) before turns took came phase symbol (open_at old now before turns took came phase g) (fresh_at old now before turns took came phase g) (record { left = l.left; took = refl; came = refl; bytes = l.bytes; takes = l.takes })))

pub faults : (old now : Point) (new : Stream) (log : List ℕ) (before : Holding) (turns took later came more : ℕ) (phase : Phase) (held : Holding) → Going old now before turns took came phase held
    → Looks now.source new held turns took later came more now.log log ReadFault → Gets old.source new (state_of (held_of before) old.log) (state_of (held_of before) log) turns (got_of end.ReadFault later more)
faults old now new log before turns took later came more phase (holding.Symbol s) g l = absurd l
faults old now new log before turns took later came more phase holding.Nothing g l =
    subst (λ n. Gets old.source new start over turns (got_of end.ReadFault n more)) (sym l.took)
    (subst (λ n. Gets old.source new start over turns (got_of end.ReadFault (took + 1) n)) (sym l.came) (failed (open_at old now before turns took came phase g)))
  where
    start : ReaderState
    start = state_of (held_of before) old.log

    over : ReaderState
    over = state_of (held_of before) log

    failed : Reaches old now (held_of before) turns took came false (from phase holding.Nothing) → Gets old.source new start over turns (got_of end.ReadFault (took + 1) came)
    failed r = record {
      bytes = r.bytes;
      ended = false;
      gave = subst (λ bytes. GivesUntil old.source new bytes) (append-nil r.bytes) (GivesUntil-append r.gave l.fails);
      within = let lt = l.left in omega (arith, lt);
      took = omega (arith, r.counted);
      came = r.arrived;
      log = l.bytes ∙ r.logged;
      spends = tt;
      ends = tt;
      kept = λ e. absurd (fresh_at old now before turns took came phase g e);
      meets = λ e. inl e;
      same = λ more follows taken.
          let h = held_of before in
          let given_at : Feed → After ℤ = λ feed. let q = given (state h feed (turns - (took + 1)) (taken + length r.bytes)) feed in next q.state q.answer (rest phase) in
          r.same more tt taken
          ∙ asked_at h more turns took (taken + length r.bytes) (rest phase) l.left
          ∙ ap given_at follows
          ∙ ap (λ feed. at (state h feed (turns - (took + 1)) (taken + length r.bytes)) (Err Failed)) (sym follows)
          ∙ ap (λ n. at (state h more (turns - (took + 1)) (taken + n)) (Err Failed)) (sym r.arrived);
    }

pub spends : (old now : Point) (new : Stream) (log : List ℕ) (before : Holding) (turns took later came more : ℕ) (phase : Phase) (held : Holding) → Going old now before turns took came phase held
    → Looks now.source new held turns took later came more now.log log Spent → Gets old.source new (state_of (held_of before) old.log) (state_of (held_of before) log) turns (got_of end.Spent later more)
spends old now new log before turns took later came more phase (holding.Symbol s) g l = absurd l
spends old now new log before turns took later came more phase holding.Nothing g l =
    subst (λ n. Gets old.source new start over turns (got_of end.Spent n more)) (sym l.took)
    (subst (λ n. Gets old.source new start over turns (got_of end.Spent took n)) (sym l.came) (spent (open_at old now before turns took came phase g)))
  where
    start : ReaderState
    start = state_of (held_of before) old.log

    over : ReaderState
    over = state_of (held_of before) log

    spent : Reaches old now (held_of before) turns took came false (from phase holding.Nothing) → Gets old.source new start over turns (got_of end.Spent took came)
    spent r = record {
      bytes = r.bytes;
      ended = false;
      gave = subst (λ x. port.Gives old.source x r.bytes) (sym l.source) r.gave;
      within = r.within;
      took = r.counted;
      came = r.arrived;
      log = l.bytes ∙ r.logged;
      spends = l.spent;
      ends = tt;
      kept = λ e. absurd (fresh_at old now before turns took came phase g e);
      meets = λ e. inl e;
      same = λ more follows taken.
          let h = held_of before in
          let none : turns - took ≡ 0 = let e = l.spent in omega arith in
          r.same more tt taken
          ∙ ap (λ n. let q = asked (state h more (turns - took) (taken + length r.bytes)) n in next q.state q.answer (rest phase)) none
          ∙ ap (λ n. at (state h more (turns - took) (taken + n)) (Err TurnsSpent)) (sym r.arrived);
    }

-- ---- what was looked at

pub asks : (old now : Point) (before : Holding) (turns took came : ℕ) (phase later : Phase) (symbol : Option ℕ) → Seeing old now before turns took came phase symbol → Takes phase symbol (Asks later) → Going old now before turns took came later holding.Nothing
asks old now before turns took came phase later symbol s takes =
    record {
      ended = false;
      last = λ e. absurd (true≢false (sym e));
      reaches = on (not_ended old now (held_of before) turns took came s.ended (rest phase symbol) (λ e. not_end (s.last e)) s.reaches);
      kept = λ e. absurd (not_end (s.kept e).0);
      meets = λ e. absurd (nothing_held e);
    }
  where
    not_end : symbol ≡ None → ⊥
    not_end e = true≢false (sym takes.0 ∙ ap is_some e)

    nothing_held : holding.Nothing ≡ holding.Symbol None → ⊥
    nothing_held e = cc

    on : Reaches old now (held_of before) turns took came false (rest phase symbol) → Reaches old now (held_of before) turns took came false (from later holding.Nothing)
    on r = record {
      bytes = r.bytes;
      gave = r.gave;
      logged = r.logged;
      counted = r.counted;
      arrived = r.arrived;
      within = r.within;
      same = λ more follows taken. r.same more follows taken ∙ takes.1.same (state (held_of before) more (turns - took) (taken + length r.bytes));
    }

answered : (old now : Point) (before : Holding) (turns took came : ℕ) (ended : Bool) (held : Held) (todo : Doing ℤ) (answer : Result ℤ Stop) → ((t : State) → todo t ≡ at (record t { held = held }) answer)
    → (r : Reaches old now (held_of before) turns took came ended todo) → (more : Feed) → MayFollow (so ended) more → (taken : ℕ)
    → input.got plain turns (state (held_of before) (fed r.bytes more) turns taken) ≡ at (state held more (turns - took) (taken + came)) answer
answered old now before turns took came ended held todo answer does r more follows taken =
    r.same more follows taken ∙ does (state (held_of before) more (turns - took) (taken + length r.bytes)) ∙ ap (λ n. at (state held more (turns - took) (taken + n)) answer) (sym r.arrived)

-- what is held at last, as far as it is the end
ends_held : (ended : Bool) (symbol : Option ℕ) → (ended ≡ true → symbol ≡ None) → EndsHeld (so ended) (Symbol symbol)
ends_held true symbol h = ap (λ s. met_end (Symbol s)) (h refl)
ends_held false symbol h = tt

met_or_told : (before : Held) (ended : Bool) → (met_end before ≡ true) ⊎ (ended ≡ true) → (met_end before ≡ true) ⊎ (so ended ≡ AtEnd)
met_or_told before ended (inl e) = inl e
met_or_told before ended (inr e) = inr (ap so e)

pub gives : (old now : Point) (before : Holding) (turns took came : ℕ) (phase : Phase) (symbol : Option ℕ) (v : ℤ) → Seeing old now before turns took came phase symbol → Takes phase symbol (Gives v)
    → Gets old.source now.source (state_of (held_of before) old.log) (state_of (Symbol symbol) now.log) turns (got_of (end.Number v) took came)
gives old now before turns took came phase symbol v s takes = let r = s.reaches in record {
  bytes = r.bytes;
  ended = s.ended;
  gave = r.gave;
  within = r.within;
  took = r.counted;
  came = r.arrived;
  log = r.logged;
  spends = tt;
  ends = ends_held s.ended symbol s.last;
  kept = λ e. let k = s.kept e in (k.1, ap (λ x. met_end (Symbol x)) k.0);
  meets = λ e. met_or_told (held_of before) s.ended (s.meets (end_seen symbol e));
  same = answered old now before turns took came s.ended (Symbol symbol) (rest phase symbol) (Ok v) takes r;
}

pub raises : (old now : Point) (before : Holding) (turns took came : ℕ) (phase : Phase) (symbol : Option ℕ) (reason : Reason) → Seeing old now before turns took came phase symbol → Takes phase symbol (Raises reason)
    → Gets old.source now.source (state_of (held_of before) old.log) (state_of (Symbol symbol) now.log) turns (got_of (end.Raise reason) took came)
raises old now before turns took came phase symbol reason s takes = let r = s.reaches in record {
  bytes = r.bytes;
  ended = s.ended;
  gave = r.gave;
  within = r.within;
  took = r.counted;
  came = r.arrived;
  log = r.logged;
  spends = tt;
  ends = ends_held s.ended symbol s.last;
  kept = λ e. let k = s.kept e in (k.1, ap (λ x. met_end (Symbol x)) k.0);
  meets = λ e. met_or_told (held_of before) s.ended (s.meets (end_seen symbol e));
  same = answered old now before turns took came s.ended (Symbol symbol) (rest phase symbol) (Err (Raised reason)) takes r;
}

pub still : {h k : Holding} {log : List ℕ} → h ≡ k → state_of (held_of h) log ≡ state_of (held_of k) log
still {log = log} e = ap (λ x. state_of (held_of x) log) e

-- a reader's state, as contracts see it
pub seen : (old now : Stream) (before later : ReaderState) (turns : ℕ) (result result' : Got) (h k : ReaderState) → before ≡ h → later ≡ k → result ≡ result' → Gets old now before later turns result → Gets old now h k turns result'
seen old now before later turns result result' h k d e f g =
    subst (λ x. Gets old now x k turns result') d (subst (λ y. Gets old now before y turns result') e (subst (λ z. Gets old now before later turns z) f g))
