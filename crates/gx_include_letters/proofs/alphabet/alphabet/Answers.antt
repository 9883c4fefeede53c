use Rattle.std.proofs.Common.{◌+◌, ◌∙◌, ap, length, List}
use Rattle.gx_base.specs.declared.name.Name.{Name}
use Rattle.gx_types.specs.SchemaSet.{SchemaSet}
use Rattle.gx_include_letters.specs.Alphabet.{entries_over, entries_up_to, shapes_asked}
use Rattle.gx_include_letters.proofs.Columns.{alphabet_is}
use Rattle.gx_include_letters.proofs.alphabet.alphabet.Goals as goal

pub returns-clause-letters : goal.returns-clause-letters
returns-clause-letters c =
    let names = c.in_ok-names.ensures in
    let left = c.in_ok-left_items.left_items in
    let right = c.in_ok-right_items.right_items in
    alphabet_is c.args.derivations.now c.args.left.now c.args.right.now c.in_ok-letters.letters.items left right names.0 names.1 c.in_ok-left_items.ensures c.in_ok-right_items.ensures
    (c.in_ok-letters.ensures.letters
    ∙ ap (λ (s : SchemaSet). entries_up_to (entries_over s left right (shapes_asked s left c.as_slice.result.now)) (length left + 1)) (c.ask-2.ensures ∙ c.ask.ensures)
    ∙ ap (λ (ns : List Name). entries_up_to (entries_over c.args.derivations.now left right (shapes_asked c.args.derivations.now left ns)) (length left + 1)) (c.as_slice.ensures.keys ∙ names.2))
