-- Integers of 128 bits as the two halves of their two's complement form.
use Rattle.std.specs.Prelude.{◌+◌, ◌*◌, ◌/◌, ◌%◌, ◌^◌, ℕ, ℤ}
use Rattle.std.specs.Int.{w128, cast_signed, cast_unsigned}

-- the integer whose two's complement form has these halves of 64 bits, and the halves of an integer's
abbrev pub integer_of_halves : ℕ → ℕ → ℤ
integer_of_halves high low = cast_signed w128 (high * 2 ^ 64 + low)

abbrev pub high_half : ℤ → ℕ
high_half i = cast_unsigned w128 i / 2 ^ 64

abbrev pub low_half : ℤ → ℕ
low_half i = cast_unsigned w128 i % 2 ^ 64
