-- The outside of a run, as contracts see it, and what is done to it.
use Rattle.std.specs.Prelude.{◌≡◌, ℕ, ◌≤◌, List, [], ◌++◌, Option, Some, None, true, false, Result, Ok, Err}
use Rattle.ada_base.specs.Input.{Held, Nothing}
use Rattle.ada_io.specs.declared.input.GetEnd.{GetEnd}
use Rattle.ada_io.specs.declared.input.GetEnd.TheVariants as get
use Rattle.ada_io.specs.declared.input.Got.{Got}
use Rattle.ada_io.specs.Gets.{Gets, ReaderState, met_end}
use Rattle.ada_port.specs.Counts.{Risen}
use Rattle.ada_port.specs.declared.ports.Failed.{Failed}
use Rattle.ada_port.specs.Ports.{Stream, bytes_of, bytes_told}

-- how often the input and the output have failed, up to the greatest u64
pub record Faults : Type 0 where
  pub input : ℕ
  pub output : ℕ

-- What a Get left for the next one; the bytes of input that came so far, and those that the source tells to be left; the
-- bytes of output that were put, with those before the run where the sink told them; and the counts of faults.
pub record Outside : Type 0 where
  pub held : Held
  pub came : List ℕ
  pub coming : List ℕ
  pub put : List ℕ
  pub faults : Faults

-- what a sink holds that told at the outset what it held, and of one that didn't the pieces that were put
abbrev pub put_of : Option (List ℕ) → Option (List ℕ) → List ℕ → List ℕ
put_of None told pieces = pieces
put_of (Some before) told pieces = bytes_told told

-- where these streams are, of which the sink began so, and these pieces were put
abbrev pub opened : ReaderState → Stream → Stream → Stream → List ℕ → Outside
opened reader source begun sink pieces = record {
  held = reader.held;
  came = reader.came;
  coming = bytes_of source;
  put = put_of begun.told sink.told pieces;
  faults = record { input = source.faults; output = sink.faults };
}

-- an outside of which nothing came, and to which nothing was put
abbrev pub fresh : Stream → Stream → Outside
fresh source sink = record { held = Nothing; came = []; coming = bytes_of source; put = bytes_of sink; faults = record { input = source.faults; output = sink.faults } }

-- the streams that an outside leaves, where such sources and such sinks tell; a source that told its end has nothing left
pub record Leaves (InTells OutTells : Type 0) (o : Outside) (source sink : Stream) : Type 0 where
  pub coming : bytes_of source ≡ o.coming
  pub over : InTells → met_end o.held ≡ true → o.coming ≡ []
  pub put : OutTells → bytes_of sink ≡ o.put
  pub input : source.faults ≡ o.faults.input
  pub output : sink.faults ≡ o.faults.output

-- ---- the whole input

-- These bytes may be the whole input: what came, and what may follow it, nothing where a Get has met the end. Where the
-- source tells what it has left, that follows.
unfoldable pub MayBe : Type 0 → List ℕ → Outside → Type 0
MayBe InTells w o = (more : List ℕ) × ((w ≡ o.came ++ more) × ((met_end o.held ≡ true → more ≡ []) × (InTells → met_end o.held ≡ false → more ≡ o.coming)))

-- an input that may be the whole one then may have been it before
pub record Keeps (Tells : List ℕ → Outside → Type 0) (s t : Outside) : Type 0 where
  pub back : (w : List ℕ) → Tells w t → Tells w s

-- an input that may be the whole one is what came and what follows, which is nothing behind the end
pub record Follows (w : List ℕ) (o : Outside) : Type 0 where
  pub more : List ℕ
  pub whole : w ≡ o.came ++ more
  pub none : met_end o.held ≡ true → more ≡ []

-- ---- what is done to the outside

-- the input failed where the Get says so, and nowhere else
abbrev pub GetCauses : GetEnd → Faults → Faults → Type 0
GetCauses (get.Number v) f g = g ≡ f
GetCauses (get.Raise r) f g = g ≡ f
GetCauses get.ReadFault f g = Risen f.input g.input × (g.output ≡ f.output)
GetCauses get.Spent f g = g ≡ f

-- A Get of some streams, of which the bytes came. Which bytes a source that tells gave is said by `keeps`.
pub record Came (turns : ℕ) (got : Got) (s t : Outside) : Type 0 where
  pub old : Stream
  pub new : Stream
  pub gets : Gets old new (record { held = s.held; came = s.came }) (record { held = t.held; came = t.came }) turns got

-- a number was read
pub record HasGot (Tells : List ℕ → Outside → Type 0) (turns : ℕ) (got : Got) (s t : Outside) : Type 0 where
  pub cause : GetCauses got.end s.faults t.faults
  pub within : got.took ≤ turns
  pub fewer : got.came ≤ got.took
  pub keeps : Keeps Tells s t
  pub follows : (w : List ℕ) → Tells w t → Follows w t
  pub came : Came turns got s t
  pub put : t.put ≡ s.put

-- a piece of output was put: all of it, or where the sink failed a part in front
abbrev pub HasPut : (List ℕ → Outside → Type 0) → List ℕ → Result (Unit {0}) Failed → Outside → Outside → Type 0
HasPut Tells piece (Ok u) s t = (t.faults ≡ s.faults) × Keeps Tells s t × (t.held ≡ s.held) × (t.came ≡ s.came) × (t.coming ≡ s.coming) × (t.put ≡ s.put ++ piece)
HasPut Tells piece (Err e) s t =
    ((t.faults.input ≡ s.faults.input) × Risen s.faults.output t.faults.output)
    × Keeps Tells s t × (t.held ≡ s.held) × (t.came ≡ s.came) × (t.coming ≡ s.coming)
    × ((passed : List ℕ) × (rest : List ℕ) × (piece ≡ passed ++ rest) × (t.put ≡ s.put ++ passed))
