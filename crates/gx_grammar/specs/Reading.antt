-- The reading of a text by a grammar.
use Rattle.std.specs.Prelude.{ℕ, zero, suc, List, length, min, if◌then◌else◌, Option, Some, None, Result, Ok, Err}
use Rattle.gx_grammar.specs.Value.{Value, nothing, pair, no_item, an_item}
use Rattle.gx_grammar.specs.Grammar.{Guard, token, empty, ◌&◌, keyed, choose, many, rule, made}
use Rattle.gx_grammar.specs.Language.{Language, Part, Made}

-- Where a reader is: what it has still to read, and what is left of the text behind the furthest
-- character that fitted so far.
pub record State : Type 0 where
  pub rest : List ℕ
  pub far : ℕ

-- Why a reader gives up: nothing fits behind the furthest character, of which `far` are left; or a token
-- has the fault with that code where `left` characters are left; or the productions stand in one another
-- deeper than the levels.
pub data Refusal : Type 0 where
  Unfit : (far : ℕ) → Refusal
  Faulty : (code left : ℕ) → Refusal
  TooDeep : Refusal

abbrev pub Reading : Type 0 → Type 0
Reading A = Result (A × State) Refusal

-- the next step, on the value and the state of the one before
abbrev pub go_on : {A B : Type 0} → Reading A → (A → State → Reading B) → Reading B
go_on (Ok r) next = next r.0 r.1
go_on (Err e) next = Err e

-- the reader has seen that the text fits up to its last `left` characters
abbrev pub notes : State → ℕ → State
notes s left = record { rest = s.rest; far = min s.far left }

abbrev pub taken : {A : Type 0} → Option (A × List ℕ) → ℕ → Reading A
taken (Some r) far = Ok (r.0, record { rest = r.1; far = far })
taken None far = Err (Unfit far)

-- a fault goes before what would be read
abbrev pub unless_fault : {A : Type 0} → Option ℕ → ℕ → Reading A → Reading A
unless_fault (Some code) left read = Err (Faulty code left)
unless_fault None left read = read

-- a token
abbrev pub read_token : (L : Language) → L.Token → State → Reading (Made L)
read_token L t s = unless_fault (L.faults t s.rest) (length s.rest) (taken (L.scan t s.rest) (min s.far (L.seen t s.rest)))

-- items while the guard takes them, at most `count`
abbrev pub repeat : {Node : Type 0} → Guard → (State → Reading (Value Node)) → ℕ → State → Reading (Value Node)
repeat g item zero s = Ok (no_item, s)
repeat g item (suc count) s =
    if g.takes s.rest
    then (go_on (item (notes s (g.seen s.rest))) (λ v t. go_on (repeat g item count t) (λ w u. Ok (an_item v w, u))))
    else (Ok (no_item, notes s (g.seen s.rest)))

-- A grammar, where a production is read by `call`.
abbrev pub read_with : (L : Language) → (L.Production → State → Reading (Made L)) → Part L → State → Reading (Made L)
read_with L call (token t) s = read_token L t s
read_with L call empty s = Ok (nothing, s)
read_with L call (A & B) s = go_on (read_with L call A s) (λ v t. go_on (read_with L call B t) (λ w u. Ok (pair v w, u)))
read_with L call (keyed t f) s = go_on (read_token L t s) (λ v u. go_on (read_with L call (f v) u) (λ w r. Ok (pair v w, r)))
read_with L call (choose g A B) s =
    if g.takes s.rest
    then (read_with L call A (notes s (g.seen s.rest)))
    else (read_with L call B (notes s (g.seen s.rest)))
read_with L call (many g A) s = repeat g (read_with L call A) (suc (length s.rest)) s
read_with L call (rule p) s = call p s
read_with L call (made f A) s = go_on (read_with L call A s) (λ v t. Ok (f (length s.rest) v, t))

-- A production, where at most `levels` productions stand in one another.
abbrev pub reads : (L : Language) → ℕ → L.Production → State → Reading (Made L)
reads L zero p s = Err TooDeep
reads L (suc levels) p s = read_with L (reads L levels) (L.rules p) s

-- A reader at the front of a text.
abbrev pub start : List ℕ → State
start text = record { rest = text; far = length text }
