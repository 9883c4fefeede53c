-- A sink before and after a run, with what its trait tells of it.
use Rattle.std.specs.Prelude.{◌≡◌, ℕ, List, Option}
use Rattle.gx_io.specs.Faults.{Rose}
use Rattle.gx_io.specs.Put.{GrowsBy, GrowsByPrefix}

pub record SinkUse : Type 1 where
  pub Sink : Type 0
  pub before : Sink
  pub after : Sink
  pub written : Sink → Option (List ℕ)
  pub faults : Sink → ℕ
  pub was_put : Sink → List ℕ → Sink → Type 0

abbrev pub sink_use : {Sink : Type 0} → (Sink → Option (List ℕ)) → (Sink → ℕ) → (Sink → List ℕ → Sink → Type 0) → Sink → Sink → SinkUse
sink_use {Sink} written faults was_put before after =
    record { Sink = Sink; before = before; after = after; written = written; faults = faults; was_put = was_put }

-- nothing was put to it
abbrev pub IsUntouched : SinkUse → Type 0
IsUntouched sink = sink.after ≡ sink.before

-- one put was made, of this whole piece
abbrev pub PutOnce : SinkUse → List ℕ → Type 0
PutOnce sink piece = sink.was_put sink.before piece sink.after

-- it has grown by these bytes
abbrev pub Grew : SinkUse → List ℕ → Type 0
Grew sink bytes = GrowsBy (sink.written sink.before) (sink.written sink.after) bytes

-- it has grown by a prefix of these bytes
abbrev pub GrewByPrefix : SinkUse → List ℕ → Type 0
GrewByPrefix sink bytes = GrowsByPrefix (sink.written sink.before) (sink.written sink.after) bytes

-- its count of faults rose
abbrev pub SinkFailed : SinkUse → Type 0
SinkFailed sink = Rose (sink.faults sink.before) (sink.faults sink.after)

-- one put was made, of this whole piece, and the piece is there
abbrev pub Took : SinkUse → List ℕ → Type 0
Took sink piece = PutOnce sink piece × Grew sink piece

-- one put was made, of this whole piece, and a prefix of the piece is there
abbrev pub TookPart : SinkUse → List ℕ → Type 0
TookPart sink piece = PutOnce sink piece × GrewByPrefix sink piece
