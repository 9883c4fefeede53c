-- What is seen of words.
use Rattle.std.proofs.Common.{◌≡◌, ℕ, ◌≤◌, ◌||◌, false, true, Bool, List, [], ◌∷◌, length, min, refl, ap, ◌∙◌, Option, Some, None, is_some, arith}
use Rattle.gx_grammar.specs.Words.{scan_one_of, seen_one_of}
use Rattle.gx_parse_grammar.specs.declared.word.Word.{Word}
use Rattle.gx_parse_grammar.specs.Nodes.{Made}
use Rattle.gx_parse_grammar.specs.Tokens.{entries}

pub seen_bounded : (ws : List Word) (x : List ℕ) → seen_one_of (entries ws) x ≤ length x
seen_bounded [] x = omega arith
seen_bounded (w ∷ ws) x = omega (arith, seen_bounded ws x)
