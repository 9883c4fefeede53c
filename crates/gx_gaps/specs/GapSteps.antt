-- One step over white space and comments.
use Rattle.std.specs.Prelude.{◌≡◌, ℕ, zero, suc, ◌+◌, ◌<◌, ◌≤◌, ◌==◌, if◌then◌else◌, List, [], ◌∷◌, length, Some, None}
use Rattle.gx_grammar.specs.Gaps.{behind_gap, seen_gap}
use Rattle.gx_base.specs.NameCharacters.{is_xml_character}

-- what is left goes on as before
pub record GoesOn (depth : ℕ) (rest : List ℕ) (open_then : ℕ) (left : List ℕ) : Type 0 where
  pub behind : behind_gap is_xml_character depth rest ≡ behind_gap is_xml_character open_then left
  pub seen : seen_gap is_xml_character depth rest ≡ seen_gap is_xml_character open_then left
  pub shorter : length left < length rest
  pub bounded : open_then + length left ≤ depth + length rest

-- what is left behind a `(` that may begin a comment
abbrev pub behind_parenthesis : List ℕ → ℕ
behind_parenthesis [] = 0
behind_parenthesis (c ∷ x) = if c == 40 then (length x) else (length (c ∷ x))

-- A gap ends here; or, within a comment, the text does, or a character stands here that no comment has.
abbrev pub Stops : ℕ → List ℕ → Type 0
Stops zero rest = (behind_gap is_xml_character 0 rest ≡ Some rest) × (seen_gap is_xml_character 0 rest ≡ behind_parenthesis rest)
Stops (suc depth) rest = (behind_gap is_xml_character (suc depth) rest ≡ None) × (seen_gap is_xml_character (suc depth) rest ≡ length rest)
