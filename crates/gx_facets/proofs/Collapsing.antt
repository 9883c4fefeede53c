-- Collapsing white space in one pass, as far as it has come.
use Rattle.std.proofs.Common.{ℕ, Bool, true, false, List, [], ◌∷◌, ◌++◌}
use Rattle.std.specs.Prelude.{if◌then◌else◌}
use Rattle.gx_base.specs.WhiteSpace.{is_white_space}

-- what follows a character that stays; the flag says that white space waits for the next
abbrev pub collapsed_behind : Bool → List ℕ → List ℕ
collapsed_behind gap [] = []
collapsed_behind gap (c ∷ cs) =
    if is_white_space c then collapsed_behind true cs
    else (if gap then 32 ∷ c ∷ collapsed_behind false cs else c ∷ collapsed_behind false cs)

-- white space at the front goes
abbrev pub in_one_pass : List ℕ → List ℕ
in_one_pass [] = []
in_one_pass (c ∷ cs) = if is_white_space c then in_one_pass cs else c ∷ collapsed_behind false cs

-- what is done, and then what is left
abbrev pub resumed : List ℕ → Bool → List ℕ → List ℕ
resumed [] gap rest = in_one_pass rest
resumed (d ∷ ds) gap rest = (d ∷ ds) ++ collapsed_behind gap rest

-- what is left where a character has stayed, and where none has
abbrev pub left_to_collapse : Bool → Bool → List ℕ → List ℕ
left_to_collapse true gap rest = collapsed_behind gap rest
left_to_collapse false gap rest = in_one_pass rest
