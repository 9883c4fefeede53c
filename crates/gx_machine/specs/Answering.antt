-- What a strict operator makes of its operands.
use Rattle.std.specs.Prelude.{ℕ, ◌<◌, ℤ, ◌+ℤ◌, pos, FitsSigned, List, [], ◌∷◌, map, Option, Result}
use Rattle.std.specs.Int.{w128}
use Rattle.gx_base.specs.declared.code.Code.{Code}
use Rattle.gx_base.specs.declared.code.Code.TheVariants as codes
use Rattle.gx_facets.specs.declared.Atomic.{Atomic}
use Rattle.gx_atomic.specs.declared.casting.CastError.{CastError}
use Rattle.gx_atomic.specs.declared.casting.CastError.TheVariants as casts
use Rattle.gx_model.specs.Forest.{Forest}
use Rattle.gx_model.specs.Item.{Item, atom, node, Items, atoms}
use Rattle.gx_core.specs.Outcome.{Outcome, gives, given}
use Rattle.gx_core.specs.Arithmetic.{computed_of_items}
use Rattle.gx_core.specs.Calling.{answered}
use Rattle.gx_core.specs.Comparing.{compared_items}
use Rattle.gx_core.specs.ComparingNodes.{compared_nodes}
use Rattle.gx_core.specs.Ranging.{integers_from, range_of_items}
use Rattle.gx_store.specs.Items.{items_in}
use Rattle.gx_store.specs.Places.{node_places}
use Rattle.gx_machine.specs.declared.failure.Failure.{Failure}
use Rattle.gx_machine.specs.declared.failure.Failure.TheVariants.{Raised, Memory}
use Rattle.gx_machine.specs.declared.answer.Answer.{Answer}
use Rattle.gx_machine.specs.declared.answer.Answer.TheVariants.{Nothing, One, Integers, NodeSequence, Values, Items as ItemSequence}
use Rattle.gx_machine.specs.declared.answer.Paired.{Paired}
use Rattle.gx_machine.specs.declared.answer.Paired.TheVariants.{Arithmetic, Value, NodeComparison, Range}

abbrev pub answer_items : Forest → Answer → Items
answer_items forest Nothing = []
answer_items forest (One a) = atom a ∷ []
answer_items forest (Integers first count) = atoms (integers_from first count)
answer_items forest (NodeSequence nodes) = map node (node_places forest nodes.items)
answer_items forest (Values values) = atoms values.items
answer_items forest (ItemSequence items) = items_in forest items.items

-- each of so many integers is within the limits of xs:integer
abbrev pub IntegersFit : (first : ℤ) → (count : ℕ) → Type 0
IntegersFit first count = (k : ℕ) → k < count → FitsSigned w128 (first +ℤ pos k)

abbrev pub AnswerFits : Answer → Type 0
AnswerFits (Integers first count) = IntegersFit first count
AnswerFits _ = Unit {0}

abbrev pub paired_meaning : Paired → Item → Item → Forest → Outcome Items
paired_meaning (Arithmetic operation) x y forest = computed_of_items operation x y forest
paired_meaning (Value op) x y forest = compared_items op x y forest
paired_meaning (NodeComparison op) x y forest = compared_nodes op x y forest
paired_meaning Range x y forest = range_of_items x y forest

-- how the evaluation fails where a cast does
abbrev pub failure_of : CastError → Failure
failure_of casts.FORG0001 = Raised codes.FORG0001
failure_of casts.FOCA0001 = Raised codes.FOCA0001
failure_of casts.FOCA0003 = Raised codes.FOCA0003
failure_of casts.FOCA0006 = Raised codes.FOCA0006
failure_of casts.Memory = Memory

-- the one answer of a function over strings
abbrev pub answer_found : Option Atomic → Forest → Outcome Items
answer_found found forest = given found (λ answer. gives (atom answer ∷ []) forest)

-- what a function over atomic values answers
abbrev pub values_found : Option (Result (List Atomic) Code) → Forest → Outcome Items
values_found found forest = given found (λ answer. answered answer forest)
