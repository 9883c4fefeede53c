-- Comparisons of nodes keep their types.
use Rattle.std.proofs.Common.{◌&&◌, refl, sym, subst}
use Rattle.std.proofs.lemmas.Bool.{and_parts}
use Rattle.gx_base.specs.declared.type_name.Builtin.TheVariants.{Boolean}
use Rattle.gx_base.specs.declared.type_name.TypeName.TheVariants as names
use Rattle.gx_types.specs.SchemaSet.{SchemaSet}
use Rattle.gx_types.specs.Occurs.{Occurs}
use Rattle.gx_types.specs.SequenceType.{SequenceType}
use Rattle.gx_types.specs.TypeRules.{times_of}
use Rattle.gx_types.specs.Laws.{Allows}
use Rattle.gx_funcs.specs.Function.{truth_atom}
use Rattle.gx_model.specs.Forest.{Forest}
use Rattle.gx_model.specs.Honest.{IsHonest}
use Rattle.gx_model.specs.Item.{Item, node}
use Rattle.gx_include.specs.Decision.{is_included}
use Rattle.gx_core.specs.declared.expression.BinaryClass.TheVariants as classes
use Rattle.gx_core.specs.declared.expression.NodeComparison.{NodeComparison}
use Rattle.gx_core.specs.Meaning.{binary_meaning}
use Rattle.gx_core.specs.Comparing.{truth_value}
use Rattle.gx_core.specs.ComparingNodes.{node_comparison, compared_nodes}
use Rattle.gx_core.specs.Soundness.{typed_setting, IsOfType, Keeps}
use Rattle.gx_core.proofs.KeptFacts.{fact_at_once}
use Rattle.gx_static.specs.Rule.{atomic, value_comparison_type, optional_node}
use Rattle.gx_static.specs.Laws.{NodeComparisonKeepsType}
use Rattle.gx_static.proofs.ItemLemmas.{IsNode, items_are_nodes, the_item}
use Rattle.gx_static.proofs.HonestValues.{included_belongs}
use Rattle.gx_static.proofs.Keeping.{type_so, pair_keeps}
use Rattle.gx_static.proofs.Singles.{atom_belongs, few_items, two_compared_so}

compared_keep : (s : SchemaSet) (forest : Forest) (op : NodeComparison) (o : Occurs) (x y : Item) → IsHonest s forest → IsNode x → IsNode y → Allows o 1 → Keeps (typed_setting s) forest (times_of (atomic Boolean) o) (compared_nodes op x y forest)
compared_keep s forest op o x y honest p q w =
    subst (λ (z : Item). Keeps (typed_setting s) forest (times_of (atomic Boolean) o) (compared_nodes op z y forest)) (sym p.1)
    (subst (λ (z : Item). Keeps (typed_setting s) forest (times_of (atomic Boolean) o) (compared_nodes op (node p.0) z forest)) (sym q.1)
    (fact_at_once (typed_setting s) forest (IsOfType s (times_of (atomic Boolean) o)) (truth_value (node_comparison op p.0 q.0)) honest
    (atom_belongs s forest (names.Builtin Boolean) o (truth_atom (node_comparison op p.0 q.0)) (0, refl) (0, refl) w)))

pub node_comparison_keeps : NodeComparisonKeepsType
node_comparison_keeps op s operator g class = pair_keeps s operator (classes.Nodes op) class (λ a b t forest xs ys e honest h k.
    let r = type_so (is_included s a optional_node && is_included s b optional_node) (value_comparison_type a b) t e in
    let both = and_parts (is_included s a optional_node) (is_included s b optional_node) r.0 in
    let p = included_belongs s forest xs a optional_node g honest both.0 h in
    let q = included_belongs s forest ys b optional_node g honest both.1 k in
    subst (λ (u : SequenceType). Keeps (typed_setting s) forest u (binary_meaning (classes.Nodes op) xs ys forest)) r.1
    (two_compared_so s forest a b (atomic Boolean) (compared_nodes op) xs ys honest (few_items s forest optional_node xs refl p) (few_items s forest optional_node ys refl q) h k
    (λ x y o i j w. compared_keep s forest op o x y honest (the_item IsNode xs x i (items_are_nodes s forest xs optional_node refl p)) (the_item IsNode ys y j (items_are_nodes s forest ys optional_node refl q)) w)))
