use Rattle.std.proofs.Common.{◌≡◌, length, refl, rules}
use Rattle.gx_core.specs.declared.operator.Operator.TheVariants as operators
use Rattle.gx_static.proofs.Continuing.{single_opens, pair_opens, conditional_opens, call_opens, counted_opens, for_opens, some_opens, every_opens, let_opens, switch_opens}
use Rattle.gx_static.proofs.BlockTyping.{block_opens}
use Rattle.gx_static.proofs.typing.Typing.open.Goals as goal

pub returns-in-Seq : goal.returns-in-Seq
returns-in-Seq c = λ schemas.
    rw (
      c.into_parts-kind.ensures,
      c.in-Seq.is,
      ← pair_opens schemas operators.Seq (λ before. refl) refl c.args.self.now.tasks c.args.self.now.parts c.args.self.now.scope c.args.self.now.declared.items c.into_parts-kind.result.0 c.into_parts-kind.result.1 c.in-Seq.first.value c.in-Seq.second.value,
    )
    (c.open_pair.ensures schemas)

pub returns-in-Let : goal.returns-in-Let
returns-in-Let c = λ schemas.
    rw (
      c.into_parts-kind.ensures,
      c.in-Let.is,
      ← let_opens schemas c.args.self.now.tasks c.args.self.now.parts c.args.self.now.scope c.args.self.now.declared.items c.into_parts-kind.result.0 c.into_parts-kind.result.1 c.in-Let.binder c.in-Let.value.value c.in-Let.body.value,
    )
    (c.open_let.ensures schemas)

pub returns-in-If : goal.returns-in-If
returns-in-If c = λ schemas.
    rw (
      c.into_parts-kind.ensures,
      c.in-If.is,
      ← conditional_opens schemas c.args.self.now.tasks c.args.self.now.parts c.args.self.now.scope c.args.self.now.declared.items c.into_parts-kind.result.0 c.into_parts-kind.result.1 c.in-If.condition.value c.in-If.chosen.value c.in-If.otherwise.value,
    )
    (c.open_conditional.ensures schemas)

pub returns-in-Call : goal.returns-in-Call
returns-in-Call c = λ schemas.
    rw (
      c.into_parts-kind.ensures,
      c.in-Call.is,
      ← call_opens schemas c.args.self.now.tasks c.args.self.now.parts c.args.self.now.scope c.args.self.now.declared.items c.into_parts-kind.result.0 c.into_parts-kind.result.1 c.in-Call.function c.in-Call.arguments.items,
    )
    (c.open_call.ensures schemas)

pub returns-in-Construct : goal.returns-in-Construct
returns-in-Construct c = λ schemas.
    let all : c.len.result ≡ length c.in-Construct.parts.items = search rules in
    rw (
      c.into_parts-kind.ensures,
      c.in-Construct.is,
      ← counted_opens schemas (operators.Construct c.in-Construct.constructor) (λ number before. refl) (λ number. refl) c.args.self.now.tasks c.args.self.now.parts c.args.self.now.scope c.args.self.now.declared.items c.into_parts-kind.result.0 c.into_parts-kind.result.1 c.len.result c.in-Construct.parts.items all,
    )
    (c.open_parts.ensures schemas)

pub returns-in-User : goal.returns-in-User
returns-in-User c = λ schemas.
    let all : c.len-in-User.result ≡ length c.in-User.arguments.items = search rules in
    rw (
      c.into_parts-kind.ensures,
      c.in-User.is,
      ← counted_opens schemas (operators.User c.in-User.signature) (λ number before. refl) (λ number. refl) c.args.self.now.tasks c.args.self.now.parts c.args.self.now.scope c.args.self.now.declared.items c.into_parts-kind.result.0 c.into_parts-kind.result.1 c.len-in-User.result c.in-User.arguments.items all,
    )
    (c.open_parts-in-User.ensures schemas)

pub returns-in-Binary : goal.returns-in-Binary
returns-in-Binary c = λ schemas.
    rw (
      c.into_parts-kind.ensures,
      c.in-Binary.is,
      ← pair_opens schemas (operators.Binary c.in-Binary.operator) (λ before. refl) refl c.args.self.now.tasks c.args.self.now.parts c.args.self.now.scope c.args.self.now.declared.items c.into_parts-kind.result.0 c.into_parts-kind.result.1 c.in-Binary.left.value c.in-Binary.right.value,
    )
    (c.open_pair-in-Binary.ensures schemas)

pub returns-in-Lit : goal.returns-in-Lit
returns-in-Lit c = λ schemas. rw (c.into_parts-kind.ensures, c.in-Lit.is) (c.open_leaf.ensures schemas)

pub returns-in-Var : goal.returns-in-Var
returns-in-Var c = λ schemas. rw (c.into_parts-kind.ensures, c.in-Var.is) (c.open_leaf-in-Var.ensures schemas)

pub returns-in-Cast : goal.returns-in-Cast
returns-in-Cast c = λ schemas.
    rw (
      c.into_parts-kind.ensures,
      c.in-Cast.is,
      ← single_opens schemas (operators.Cast c.in-Cast.kind c.in-Cast.optional) (λ before. refl) refl c.args.self.now.tasks c.args.self.now.parts c.args.self.now.scope c.args.self.now.declared.items c.into_parts-kind.result.0 c.into_parts-kind.result.1 c.in-Cast.operand.value,
    )
    (c.open_single.ensures schemas)

pub returns-in-Castable : goal.returns-in-Castable
returns-in-Castable c = λ schemas.
    rw (
      c.into_parts-kind.ensures,
      c.in-Castable.is,
      ← single_opens schemas (operators.Castable c.in-Castable.kind c.in-Castable.optional) (λ before. refl) refl c.args.self.now.tasks c.args.self.now.parts c.args.self.now.scope c.args.self.now.declared.items c.into_parts-kind.result.0 c.into_parts-kind.result.1 c.in-Castable.operand.value,
    )
    (c.open_single-in-Castable.ensures schemas)

pub returns-in-Treat : goal.returns-in-Treat
returns-in-Treat c = λ schemas.
    rw (
      c.into_parts-kind.ensures,
      c.in-Treat.is,
      ← single_opens schemas (operators.Treat c.in-Treat.kind) (λ before. refl) refl c.args.self.now.tasks c.args.self.now.parts c.args.self.now.scope c.args.self.now.declared.items c.into_parts-kind.result.0 c.into_parts-kind.result.1 c.in-Treat.operand.value,
    )
    (c.open_single-in-Treat.ensures schemas)

pub returns-in-DataOf : goal.returns-in-DataOf
returns-in-DataOf c = λ schemas.
    rw (
      c.into_parts-kind.ensures,
      c.in-DataOf.is,
      ← single_opens schemas (operators.DataOf) (λ before. refl) refl c.args.self.now.tasks c.args.self.now.parts c.args.self.now.scope c.args.self.now.declared.items c.into_parts-kind.result.0 c.into_parts-kind.result.1 c.in-DataOf.operand.value,
    )
    (c.open_single-in-DataOf.ensures schemas)

pub returns-in-Neg : goal.returns-in-Neg
returns-in-Neg c = λ schemas.
    rw (
      c.into_parts-kind.ensures,
      c.in-Neg.is,
      ← single_opens schemas (operators.Neg) (λ before. refl) refl c.args.self.now.tasks c.args.self.now.parts c.args.self.now.scope c.args.self.now.declared.items c.into_parts-kind.result.0 c.into_parts-kind.result.1 c.in-Neg.operand.value,
    )
    (c.open_single-in-Neg.ensures schemas)

pub returns-in-For : goal.returns-in-For
returns-in-For c = λ schemas.
    rw (
      c.into_parts-kind.ensures,
      c.in-For.is,
      ← for_opens schemas c.args.self.now.tasks c.args.self.now.parts c.args.self.now.scope c.args.self.now.declared.items c.into_parts-kind.result.0 c.into_parts-kind.result.1 c.in-For.binder c.in-For.position c.in-For.source.value c.in-For.body.value,
    )
    (c.open_loop.ensures schemas)

pub returns-in-SomeIn : goal.returns-in-SomeIn
returns-in-SomeIn c = λ schemas.
    rw (
      c.into_parts-kind.ensures,
      c.in-SomeIn.is,
      ← some_opens schemas c.args.self.now.tasks c.args.self.now.parts c.args.self.now.scope c.args.self.now.declared.items c.into_parts-kind.result.0 c.into_parts-kind.result.1 c.in-SomeIn.binder c.in-SomeIn.source.value c.in-SomeIn.test.value,
    )
    (c.open_loop-in-SomeIn.ensures schemas)

pub returns-in-EveryIn : goal.returns-in-EveryIn
returns-in-EveryIn c = λ schemas.
    rw (
      c.into_parts-kind.ensures,
      c.in-EveryIn.is,
      ← every_opens schemas c.args.self.now.tasks c.args.self.now.parts c.args.self.now.scope c.args.self.now.declared.items c.into_parts-kind.result.0 c.into_parts-kind.result.1 c.in-EveryIn.binder c.in-EveryIn.source.value c.in-EveryIn.test.value,
    )
    (c.open_loop-in-EveryIn.ensures schemas)

pub returns-in-Switch : goal.returns-in-Switch
returns-in-Switch c = λ schemas.
    rw (
      c.into_parts-kind.ensures,
      c.in-Switch.is,
      ← switch_opens schemas c.args.self.now.tasks c.args.self.now.parts c.args.self.now.scope c.args.self.now.declared.items c.into_parts-kind.result.0 c.into_parts-kind.result.1 c.in-Switch.cases c.in-Switch.default c.in-Switch.operand.value c.in-Switch.branches.items,
    )
    (c.open_switch.ensures schemas)

pub returns-in-Nth : goal.returns-in-Nth
returns-in-Nth c = λ schemas.
    let opened = c.open_single-in-Nth.ensures schemas in
    rw (
      c.into_parts-kind.ensures,
      c.in-Nth.is,
      ← single_opens schemas (operators.Nth c.in-Nth.number c.in-Nth.reverse) (λ before. refl) refl c.args.self.now.tasks c.args.self.now.parts c.args.self.now.scope c.args.self.now.declared.items c.into_parts-kind.result.0 c.into_parts-kind.result.1 c.in-Nth.operand.value,
    )
    (search rules)

pub returns-in-Final : goal.returns-in-Final
returns-in-Final c = λ schemas.
    rw (
      c.into_parts-kind.ensures,
      c.in-Final.is,
      ← single_opens schemas (operators.Final c.in-Final.reverse) (λ before. refl) refl c.args.self.now.tasks c.args.self.now.parts c.args.self.now.scope c.args.self.now.declared.items c.into_parts-kind.result.0 c.into_parts-kind.result.1 c.in-Final.operand.value,
    )
    (c.open_single-in-Final.ensures schemas)

pub returns-in-Step : goal.returns-in-Step
returns-in-Step c = λ schemas. rw (c.into_parts-kind.ensures, c.in-Step.is) (c.open_leaf-in-Step.ensures schemas)

pub returns-in-Nodes : goal.returns-in-Nodes
returns-in-Nodes c = λ schemas.
    rw (
      c.into_parts-kind.ensures,
      c.in-Nodes.is,
      ← single_opens schemas (operators.Nodes) (λ before. refl) refl c.args.self.now.tasks c.args.self.now.parts c.args.self.now.scope c.args.self.now.declared.items c.into_parts-kind.result.0 c.into_parts-kind.result.1 c.in-Nodes.operand.value,
    )
    (c.open_single-in-Nodes.ensures schemas)

pub returns-in-Order : goal.returns-in-Order
returns-in-Order c = λ schemas.
    rw (
      c.into_parts-kind.ensures,
      c.in-Order.is,
      ← single_opens schemas (operators.Order) (λ before. refl) refl c.args.self.now.tasks c.args.self.now.parts c.args.self.now.scope c.args.self.now.declared.items c.into_parts-kind.result.0 c.into_parts-kind.result.1 c.in-Order.operand.value,
    )
    (c.open_single-in-Order.ensures schemas)

pub returns-in-Block : goal.returns-in-Block
returns-in-Block c = λ schemas.
    rw (
      c.into_parts-kind.ensures,
      c.in-Block.is,
      ← block_opens schemas c.args.self.now.tasks c.args.self.now.parts c.args.self.now.scope c.args.self.now.declared.items c.into_parts-kind.result.0 c.into_parts-kind.result.1 c.in-Block.clauses.items c.in-Block.keys.items c.in-Block.body.value,
    )
    (c.open_block.ensures schemas)
