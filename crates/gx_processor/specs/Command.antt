-- Which words name a command.
use Rattle.std.specs.Prelude.{◌≡◌, String, string_bytes, map, ℕ, ◌==◌, nat_le, not, Bool, true, false, ◌&&◌, List, [], ◌∷◌, length, Option, None, Some, codes, bytes_eq, if◌then◌else◌}
use Rattle.std.specs.List.{list_all, list_any}
use Rattle.gx_base.specs.declared.limits.TheConstants.{WORD_BYTES}
use Rattle.gx_demo.specs.Workload.{items_asked}

-- what the program is asked to do with the query in a file: to run it, with words that bind its external variables, to check it, or to
-- write its plan
pub data Command : Type 0 where
  run_file : (name : List ℕ) (bindings : List (List ℕ)) → Command
  check_file : (name : List ℕ) → Command
  plan_file : (name : List ℕ) → Command

-- the file of the query
abbrev pub query_file : Command → List ℕ
query_file (run_file name bindings) = name
query_file (check_file name) = name
query_file (plan_file name) = name

-- the bytes of each word
abbrev pub bytes_of : {Z : Type 0} → List (String Z) → List (List ℕ)
bytes_of = map string_bytes

-- a word behind the command's name: not empty, at most 16,777,216 bytes long, and without a `-` at its front
abbrev pub is_operand : List ℕ → Bool
is_operand [] = false
is_operand (first ∷ others) = not (first == 45) && nat_le (length (first ∷ others)) WORD_BYTES

-- a word that binds a variable to a file has a `=`
abbrev pub is_binding : List ℕ → Bool
is_binding word = is_operand word && list_any (λ c. c == 61) word

abbrev pub has_no_word : List (List ℕ) → Bool
has_no_word [] = true
has_no_word (word ∷ words) = false

-- the command of that name over a file, with the words behind it
abbrev pub command_named : List ℕ → List ℕ → List (List ℕ) → Option Command
command_named name file others =
    if bytes_eq name (codes "run") && list_all is_binding others then Some (run_file file others)
    else (if bytes_eq name (codes "check") && has_no_word others then Some (check_file file)
    else (if bytes_eq name (codes "plan") && has_no_word others then Some (plan_file file) else None))

-- the commands over a query are `run FILE NAME=FILE ..`, `check FILE` and `plan FILE`
abbrev pub command_of : List (List ℕ) → Option Command
command_of (name ∷ file ∷ others) = if is_operand file then command_named name file others else None
command_of _ = None

abbrev pub IsRunCommand : Command → Type 0
IsRunCommand command = (name : List ℕ) × (bindings : List (List ℕ)) × (command ≡ run_file name bindings)

-- the words name a command over a query
abbrev pub AskOfQuery : List (List ℕ) → Type 0
AskOfQuery words = (command : Command) × (command_of words ≡ Some command)

-- the words are `run FILE NAME=FILE ..`
abbrev pub AskToRun : List (List ℕ) → Type 0
AskToRun words = (name : List ℕ) × (bindings : List (List ℕ)) × (command_of words ≡ Some (run_file name bindings))

-- the words are `plan FILE`
abbrev pub AskForPlan : List (List ℕ) → Type 0
AskForPlan words = (name : List ℕ) × (command_of words ≡ Some (plan_file name))

-- the two texts of `subtype TEXT TEXT`
abbrev pub texts_to_compare : List (List ℕ) → Option (List ℕ × List ℕ)
texts_to_compare (name ∷ left ∷ right ∷ []) = if bytes_eq name (codes "subtype") && (is_operand left && is_operand right) then Some (left, right) else None
texts_to_compare _ = None

-- the number of items of `demo N`
abbrev pub workload_asked : List (List ℕ) → Option ℕ
workload_asked (name ∷ number ∷ []) = if bytes_eq name (codes "demo") then items_asked number else None
workload_asked _ = None

-- the words name no command
abbrev pub NameNoCommand : List (List ℕ) → Type 0
NameNoCommand words = (command_of words ≡ None) × (texts_to_compare words ≡ None) × (workload_asked words ≡ None)
