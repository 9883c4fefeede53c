-- White space (XML 1.0, section 2.3).
use Rattle.std.specs.Prelude.{ℕ, Bool, ◌==◌, ◌||◌}

-- a space, a tab, a line feed or a carriage return
abbrev pub is_white_space : ℕ → Bool
is_white_space c = (c == 32 || c == 9) || (c == 10 || c == 13)
