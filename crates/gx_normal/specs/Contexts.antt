-- Contexts: the variables of the context item, of its position and of the size of the context, and what is evaluated for each item
-- (XQuery 1.0 and XPath 2.0 Formal Semantics, section 4.2; XQuery 1.0, section 2.1.2).
use Rattle.std.specs.Prelude.{ℕ, ◌+◌, Bool, true, false, ◌||◌, pos, None, Some}
use Rattle.gx_base.specs.declared.place.Place.{Place}
use Rattle.gx_num.specs.declared.Number.TheVariants.{Int}
use Rattle.gx_resolved.specs.declared.tree.Construct.{Construct}
use Rattle.gx_resolved.specs.declared.tree.Construct.TheVariants as written
use Rattle.gx_resolved.specs.ResolvedTree.{ResolvedTree, ResolvedTrees, resolved_at, no_resolved, a_resolved}
use Rattle.gx_funcs.specs.declared.function.Function.TheVariants as functions
use Rattle.gx_core.specs.declared.expression.BinaryOp.TheVariants as core
use Rattle.gx_core.specs.declared.operator.Operator.TheVariants as operators
use Rattle.gx_funcs.specs.Numbers.{number_atom}
use Rattle.gx_core.specs.Expression.{CoreExpression, one_part, two_parts, core_at}
use Rattle.gx_normal.specs.declared.contexts.ContextNumbers.{ContextNumbers}
use Rattle.gx_normal.specs.declared.focus.Focus.{Focus}
use Rattle.gx_normal.specs.declared.contexts.Asked.{Asked}
use Rattle.gx_normal.specs.declared.contexts.Asked.TheVariants as asked
use Rattle.gx_normal.specs.declared.contexts.ContextUse.{ContextUse}
use Rattle.gx_normal.specs.declared.contexts.ContextUse.TheVariants.{Item, Position, Size, PositionAndSize, Backwards}
use Rattle.gx_normal.specs.Constructs.{call_at, context_item_at, for_at, hidden_binder, let_at, literal_at, nodes_at}

-- ---- what an expression asks of its context

abbrev pub is_question : Asked → Construct → Bool
is_question asked.Position (written.Call functions.Position) = true
is_question asked.Last (written.Call functions.Last) = true
is_question _ _ = false

-- the parts of a construct but the first one have a context of their own
abbrev pub has_own_context : Construct → Bool
has_own_context (written.Path descendants) = true
has_own_context written.Filtered = true
has_own_context _ = false

abbrev mutual
  -- an expression asks it of its context
  pub asks_context : Asked → ResolvedTree → Bool
  asks_context what (resolved_at place construct parts) = is_question what construct || parts_ask what (has_own_context construct) parts

  pub parts_ask : Asked → (first_alone : Bool) → ResolvedTrees → Bool
  parts_ask what first_alone no_resolved = false
  parts_ask what true (a_resolved first others) = asks_context what first
  parts_ask what false (a_resolved first others) = asks_context what first || parts_ask what false others

-- ---- the variables of a context

-- of the right part of a path
abbrev pub path_use : (position size : Bool) → ContextUse
path_use false false = Item
path_use true false = Position
path_use false true = Size
path_use true true = PositionAndSize

-- of a predicate, which always looks at the position; on a reverse axis that counts from the end
abbrev pub predicate_use : (reverse size : Bool) → ContextUse
predicate_use false false = Position
predicate_use false true = PositionAndSize
predicate_use true size = Backwards

-- where there is no context
abbrev pub no_context : ContextNumbers
no_context = record { item = None; position = None; size = None }

-- their numbers, from the free number on: those of the source and of its size come first, where they are used
abbrev pub context_numbers : ContextUse → (free : ℕ) → ContextNumbers
context_numbers Item free = record { item = Some free; position = None; size = None }
context_numbers Position free = record { item = Some free; position = Some (free + 1); size = None }
context_numbers Size free = record { item = Some (free + 2); position = None; size = Some (free + 1) }
context_numbers PositionAndSize free = record { item = Some (free + 2); position = Some (free + 3); size = Some (free + 1) }
context_numbers Backwards free = record { item = Some (free + 2); position = Some (free + 4); size = Some (free + 1) }

-- what a query begins in, and another context in it
abbrev pub no_focus : (greatest preserves_blanks : Bool) → Focus
no_focus greatest preserves_blanks = record { context = no_context; greatest = greatest; preserves_blanks = preserves_blanks }

abbrev pub focus_with : Focus → ContextUse → (free : ℕ) → Focus
focus_with focus use' free = record { context = context_numbers use' free; greatest = focus.greatest; preserves_blanks = focus.preserves_blanks }

-- the number that is free behind the variables of a context
abbrev pub behind_context : ContextUse → (free : ℕ) → ℕ
behind_context Item free = free + 1
behind_context Position free = free + 2
behind_context Size free = free + 3
behind_context PositionAndSize free = free + 4
behind_context Backwards free = free + 5

-- ---- what is evaluated for each item of a source

abbrev pub hidden_variable : Place → (number : ℕ) → CoreExpression
hidden_variable place number = context_item_at place (Some number)

abbrev pub hidden_let : Place → (number : ℕ) → (value body : CoreExpression) → CoreExpression
hidden_let place number value body = let_at place (hidden_binder place number) value body

abbrev pub hidden_for : Place → (number position : ℕ) → (source body : CoreExpression) → CoreExpression
hidden_for place number position source body = for_at place (hidden_binder place number) position source body

-- in document order, where that is so
abbrev pub ordered_if : Bool → Place → CoreExpression → CoreExpression
ordered_if true place e = core_at place place operators.Order (one_part e)
ordered_if false place e = e

-- the source and its size are bound first
abbrev pub with_size : Place → (free : ℕ) → (source body : CoreExpression) → CoreExpression
with_size place free source body =
    hidden_let place free source (hidden_let place (free + 1) (call_at place functions.Count (one_part (hidden_variable place free))) body)

-- a position that counts from the end
abbrev pub position_from_end : Place → (size position : ℕ) → CoreExpression
position_from_end place size position =
    core_at place place (operators.Binary core.Add)
    (two_parts (core_at place place (operators.Binary core.Sub) (two_parts (hidden_variable place size) (hidden_variable place position))) (literal_at place (number_atom (Int (pos 1)))))

-- the body for each item of the source, with the variables of the context from the free number on
abbrev pub loop_at : ContextUse → (ordered : Bool) → Place → (free : ℕ) → (source body : CoreExpression) → CoreExpression
loop_at Item ordered place free source body = ordered_if ordered place (hidden_for place free 0 source body)
loop_at Position ordered place free source body = ordered_if ordered place (hidden_for place free (free + 1) source body)
loop_at Size ordered place free source body = with_size place free source (ordered_if ordered place (hidden_for place (free + 2) 0 (hidden_variable place free) body))
loop_at PositionAndSize ordered place free source body =
    with_size place free source (ordered_if ordered place (hidden_for place (free + 2) (free + 3) (hidden_variable place free) body))
loop_at Backwards ordered place free source body =
    with_size place free source
    (ordered_if ordered place (hidden_for place (free + 2) (free + 3) (hidden_variable place free) (hidden_let place (free + 4) (position_from_end place (free + 1) (free + 3)) body)))

-- a path of two parts: the right one for each node that the left one gives, in document order
abbrev pub path_with : ContextUse → Place → (free : ℕ) → (first second : CoreExpression) → CoreExpression
path_with use' place free first second = loop_at use' true place free (nodes_at place first) second
