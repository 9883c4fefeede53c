-- A sink in memory.
use Rattle.std.specs.Prelude.{◌≡◌, ◌⊎◌, [], ℕ, List, ◌++◌, length, Bool, ◌&&◌, ◌==◌, nat_lt, if◌then◌else◌}
use Rattle.std.specs.List.{list_any}
use Rattle.gx_io.specs.Faults.{one_more}

-- the bytes written, the numbers of the puts that fail, how many puts were made, and how many of them failed
pub record SinkState : Type 0 where
  pub bytes : List ℕ
  pub failing : List ℕ
  pub calls : ℕ
  pub faults : ℕ

-- the next put fails: it was told to, and the piece is not empty
abbrev pub put_fails : SinkState → List ℕ → Bool
put_fails sink piece = nat_lt 0 (length piece) && list_any (λ number. number == one_more sink.calls) sink.failing

-- the sink after a put that writes these bytes
abbrev pub after_put : SinkState → List ℕ → List ℕ → SinkState
after_put sink piece bytes = record sink {
  bytes = sink.bytes ++ bytes;
  calls = one_more sink.calls;
  faults = if put_fails sink piece then one_more sink.faults else sink.faults;
}

-- the sink after a put, which writes the whole piece or nothing
abbrev pub IsAfterPut : SinkState → List ℕ → SinkState → Type 0
IsAfterPut before piece after = (after ≡ after_put before piece piece) ⊎ (after ≡ after_put before piece [])
