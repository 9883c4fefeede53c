use Rattle.std.proofs.Common.{◌+◌, ◌∙◌, ap, subst, length, List}
use Rattle.gx_types.specs.SchemaSet.{SchemaSet}
use Rattle.gx_types.specs.declared.item_type.ItemType.{ItemType}
use Rattle.gx_types.specs.declared.shape.Shape.{Shape}
use Rattle.gx_types.specs.Grounded.{Grounded}
use Rattle.gx_types.specs.Derivation.{bases_of}
use Rattle.gx_include_letters.specs.Alphabet.{entries_over, entries_up_to, shapes_asked}
use Rattle.gx_include_letters.proofs.Columns.{letters_are}
use Rattle.gx_include_letters.proofs.alphabet.letters_by_items.Goals as goal

pub returns-clause-letters : goal.returns-clause-letters
returns-clause-letters c =
    let s = c.args.derivations.now in
    letters_are (entries_over s c.args.left.now c.args.right.now c.as_slice.result.now) (length c.args.left.now + 1) c.in_ok-letters.letters.items c.in_ok-columns.columns.items c.in_ok-columns.ensures c.in_ok-letters.ensures
    ∙ ap (λ (xs : List Shape). entries_up_to (entries_over s c.args.left.now c.args.right.now xs) (length c.args.left.now + 1))
    (c.as_slice.ensures.value ∙ c.in_ok-shapes.ensures ∙ ap (λ (kinds : List ItemType). shapes_asked s kinds c.args.names.now) c.items.ensures)

pub returns-clause-grounded : goal.returns-clause-grounded
returns-clause-grounded c = subst (λ (s : SchemaSet). Grounded (bases_of s)) c.schemas.ensures c.types-declarations.ensures.invariant.grounded
