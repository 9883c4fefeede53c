use Rattle.gx_typetext.proofs.Trees.{tree_of}
use Rattle.gx_typetext.proofs.laws.type_texts_are_trees.Goals as goal

pub returns : goal.returns
returns c = tree_of
