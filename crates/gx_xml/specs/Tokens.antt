-- The tokens of documents.
use Rattle.std.specs.Prelude.{ℕ, List, [], ◌∷◌, ◌==◌, ◌||◌, ◌&&◌, not, Bool, true, false, codes, bytes_eq, is_some, is_none, Option, Some, None}
use Rattle.gx_base.specs.NameCharacters.{is_xml_character}
use Rattle.gx_grammar.specs.Value.{nothing, characters}
use Rattle.gx_grammar.specs.Fitting.{IsFitting, scan_fitting}
use Rattle.gx_grammar.specs.Joined.{IsOptional, scan_optional}
use Rattle.gx_grammar.specs.Tokens.{IsWord, IsFrontOf, scan_word, seen_word, strip}
use Rattle.gx_grammar.specs.Walks.{IsWalk, opens_walk, scan_walk, seen_walk, head_goes, reached}
use Rattle.gx_grammar.specs.Words.{IsOneOf, OpensOneOf, scan_one_of, seen_one_of}
use Rattle.gx_tree.specs.Binding.{xmlns}
use Rattle.gx_xml.specs.declared.runs.Base.{Base}
use Rattle.gx_xml.specs.declared.runs.Run.{Run}
use Rattle.gx_xml.specs.declared.runs.Run.TheVariants as run_of
use Rattle.gx_xml.specs.declared.marks.Choice.{Choice}
use Rattle.gx_xml.specs.declared.marks.Choice.TheVariants as choice_of
use Rattle.gx_xml.specs.declared.marks.Mark.TheVariants as mark
use Rattle.gx_xml.specs.Runs.{walk_for}
use Rattle.gx_xml.specs.declared.marks.Maybe.{Maybe}
use Rattle.gx_xml.specs.Marks.{choice_words, maybe_words, no_character}
use Rattle.gx_xml.specs.Nodes.{Made, mark_value, run_in}

pub data Token : Type 0 where
  -- these characters
  symbol : List ℕ → Token
  -- a run from a state on, of at least one character
  run : Run → ℕ → Token
  -- a run, or no character
  maybe_run : Run → ℕ → Token
  -- the target of a processing instruction
  target : Token
  -- a prefix that may be declared
  declared_prefix : Token
  -- the number of a character, of the expected one
  numeral : Base → Option ℕ → Token
  -- one of the words
  choice : Choice → Token
  -- one of the words, or no character where none of them stands
  maybe_choice : Maybe → Token
  -- the end of a tag that has this fault
  tag_end : Option ℕ → Token
  -- what may stand in front of the root, where a document type declaration is a fault
  prolog_mark : Token

abbrev pub either_case : ℕ → ℕ → ℕ → Bool
either_case a b c = (c == a) || (c == b)

-- the target is not `xml` in any case of letters (XML 1.0, section 2.6)
abbrev pub is_target : List ℕ → Bool
is_target (x ∷ m ∷ l ∷ []) = not (either_case 120 88 x && (either_case 109 77 m && either_case 108 76 l))
is_target _ = true

-- the number that the digits of a reference make
abbrev pub numeral_value : Base → Option ℕ → List ℕ → ℕ
numeral_value b expected x = reached (walk_for (run_of.Numeral b expected)) 0 x

-- the number is that of a Char, and of the expected one
abbrev pub names_character : Option ℕ → ℕ → Bool
names_character None n = is_xml_character n
names_character (Some k) n = is_xml_character n && (n == k)

-- the codes of the faults
abbrev pub doctype : ℕ
doctype = 3

abbrev pub unbound_prefix : ℕ
unbound_prefix = 4

abbrev pub duplicate_attribute : ℕ
duplicate_attribute = 5

abbrev pub too_deep : ℕ
too_deep = 6

abbrev pub if_stands : {A : Type 0} → Option A → Option ℕ → Option ℕ
if_stands None fault = None
if_stands (Some a) fault = fault

abbrev pub stood : Choice → List ℕ → Bool
stood c x = is_some (scan_one_of (choice_words c) x)

abbrev pub derives : Token → Made → List ℕ → List ℕ → Type 0
derives (symbol w) = IsWord nothing w no_character
derives (run r n) = IsWalk characters (walk_for r) n
derives (maybe_run r n) = IsOptional (IsWalk characters (walk_for r) n) (head_goes (walk_for r) n) (characters [])
derives target = IsFitting (IsWalk characters (walk_for run_of.Name) 0) (λ v. is_target (run_in v))
derives declared_prefix = IsFitting (IsWalk characters (walk_for run_of.Name) 0) (λ v. not (bytes_eq (run_in v) xmlns))
derives (numeral b e) = IsFitting (IsWalk characters (walk_for (run_of.Numeral b e)) 0) (λ v. names_character e (numeral_value b e (run_in v)))
derives (choice c) = IsOneOf (choice_words c)
derives (maybe_choice m) = IsOptional (IsOneOf (choice_words (maybe_words m))) (stood (maybe_words m)) (mark_value mark.Only)
derives (tag_end fault) = IsFitting (IsOneOf (choice_words choice_of.TagEnd)) (λ v. is_none fault)
derives prolog_mark = IsOneOf (choice_words choice_of.Prolog)

abbrev pub opens : Token → List ℕ → Type 0
opens (symbol w) = λ x. IsFrontOf x w
opens (run r n) = opens_walk (walk_for r) n
opens (maybe_run r n) = opens_walk (walk_for r) n
opens target = opens_walk (walk_for run_of.Name) 0
opens declared_prefix = opens_walk (walk_for run_of.Name) 0
opens (numeral b e) = opens_walk (walk_for (run_of.Numeral b e)) 0
opens (choice c) = OpensOneOf (choice_words c)
opens (maybe_choice m) = OpensOneOf (choice_words (maybe_words m))
opens (tag_end fault) = OpensOneOf (choice_words choice_of.TagEnd)
opens prolog_mark = OpensOneOf (choice_words choice_of.Prolog)

abbrev pub scan : Token → List ℕ → Option (Made × List ℕ)
scan (symbol w) = scan_word nothing w no_character
scan (run r n) = scan_walk characters (walk_for r) n
scan (maybe_run r n) = scan_optional (scan_walk characters (walk_for r) n) (head_goes (walk_for r) n) (characters [])
scan target = scan_fitting (scan_walk characters (walk_for run_of.Name) 0) (λ v. is_target (run_in v))
scan declared_prefix = scan_fitting (scan_walk characters (walk_for run_of.Name) 0) (λ v. not (bytes_eq (run_in v) xmlns))
scan (numeral b e) = scan_fitting (scan_walk characters (walk_for (run_of.Numeral b e)) 0) (λ v. names_character e (numeral_value b e (run_in v)))
scan (choice c) = scan_one_of (choice_words c)
scan (maybe_choice m) = scan_optional (scan_one_of (choice_words (maybe_words m))) (stood (maybe_words m)) (mark_value mark.Only)
scan (tag_end fault) = scan_fitting (scan_one_of (choice_words choice_of.TagEnd)) (λ v. is_none fault)
scan prolog_mark = scan_one_of (choice_words choice_of.Prolog)

abbrev pub seen : Token → List ℕ → ℕ
seen (symbol w) = seen_word w
seen (run r n) = seen_walk (walk_for r) n
seen (maybe_run r n) = seen_walk (walk_for r) n
seen target = seen_walk (walk_for run_of.Name) 0
seen declared_prefix = seen_walk (walk_for run_of.Name) 0
seen (numeral b e) = seen_walk (walk_for (run_of.Numeral b e)) 0
seen (choice c) = seen_one_of (choice_words c)
seen (maybe_choice m) = seen_one_of (choice_words (maybe_words m))
seen (tag_end fault) = seen_one_of (choice_words choice_of.TagEnd)
seen prolog_mark = seen_one_of (choice_words choice_of.Prolog)

-- A tag has its fault where it ends. Where `<!DOCTYPE` stands in front of the root, it is a fault.
abbrev pub faults : Token → List ℕ → Option ℕ
faults (tag_end fault) = λ x. if_stands (scan_one_of (choice_words choice_of.TagEnd) x) fault
faults prolog_mark = λ x. if_stands (strip (codes "<!DOCTYPE") x) (Some doctype)
faults _ = λ x. None

-- the token takes at least one character
abbrev pub takes : Token → Bool
takes (symbol []) = false
takes (symbol (c ∷ w)) = true
takes (maybe_run r n) = false
takes (maybe_choice m) = false
takes _ = true
