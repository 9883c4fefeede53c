-- The characters of bytes in UTF-8, and the place where bytes are none.
use Rattle.std.specs.Prelude.{ℕ, List, ◌++◌, ◌≡◌, true, length, encode_utf8_all}
use Rattle.std.specs.Str.{IsValidUpTo, all_scalars}
use Rattle.gx_base.specs.declared.place.Place.{Place}
use Rattle.gx_grammar.specs.declared.decode.DecodeError.{DecodeError}
use Rattle.gx_grammar.specs.declared.decode.DecodeError.TheVariants.{NotUtf8, Memory}
use Rattle.gx_grammar.specs.Places.{place_at}

-- The bytes begin with these characters, and no longer front of the bytes is UTF-8. The place is that
-- behind them.
pub record IsUnreadableAt (bytes : List ℕ) (place : Place) : Type 0 where
  pub front : List ℕ
  pub rest : List ℕ
  pub characters : all_scalars front ≡ true
  pub whole : bytes ≡ encode_utf8_all front ++ rest
  pub longest : IsValidUpTo bytes (length (encode_utf8_all front))
  pub behind : place ≡ place_at front (length front)

abbrev pub IsFault : List ℕ → DecodeError → Type 0
IsFault bytes (NotUtf8 place) = IsUnreadableAt bytes place
IsFault bytes Memory = Unit {0}
