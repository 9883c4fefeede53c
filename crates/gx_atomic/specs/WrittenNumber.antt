-- What is hashed of a number.
use Rattle.std.specs.Prelude.{ℤ, pos, int_div, if◌then◌else◌}
use Rattle.std.specs.Hash as fed
use Rattle.std.specs.Hash.{HashWrites}
use Rattle.gx_num.specs.Number.{fits_decimal}

-- a number by its units of 10^-6, or by its integer where it is too large for a decimal
abbrev pub written_number : ℤ → HashWrites
written_number u = if fits_decimal u then fed.i64 u else fed.i128 (int_div u (pos 1000000))
