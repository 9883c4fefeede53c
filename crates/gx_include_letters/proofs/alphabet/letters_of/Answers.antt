use Rattle.std.proofs.Common.{sym, ap, ◌∙◌, map-id, rules}
use Rattle.std.specs.List.{flat_map}
use Rattle.std.proofs.lemmas.Iterator.Adapters.{YieldsList-from_vec}
use Rattle.std.proofs.lemmas.Iterator.Consumers.{YieldsList-end}
use Rattle.gx_include_letters.specs.Alphabet.{entries_of_column}
use Rattle.gx_include_letters.proofs.Columns.{column_behind}
use Rattle.gx_include_letters.proofs.alphabet.letters_of.Goals as goal

pub loop-column-preserved : goal.loop-column-preserved
loop-column-preserved c =
    column_behind c.loop-column.letters.items c.append_column.new.letters.items c.loop-column.yielded c.in-Some.column c.loop-column.invariant c.in_ok-append_column.ensures

pub returns : goal.returns
returns c =
    let end = YieldsList-end (YieldsList-from_vec {s = c.into_iter-column-iterator.result} c.args.columns.items (search rules) (search rules))
    c.loop-column.yielded c.loop-column.column-iterator c.loop-column.yielded_by c.next.result c.next.new.self c.in-None.is c.next.ensures.steps in
    c.loop-column.invariant ∙ ap (flat_map entries_of_column) (sym (map-id c.loop-column.yielded) ∙ end.0)
