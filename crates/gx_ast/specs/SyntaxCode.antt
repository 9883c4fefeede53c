-- The code of an expression as stored data, which tells expressions apart.
use Rattle.std.specs.Prelude.{◌≡◌, ℕ, Bool, true, false, refl}
use Rattle.std.proofs.Common.{ap, arith}
use Rattle.std.specs.Coded.{Coded, coded_ℕ, coded_list}
use base.Stored.{Gv, gnil, gnum, gcons}
use Rattle.gx_base.specs.declared.place.Place.{Place}
use Rattle.gx_num.specs.declared.Number.{Number}
use Rattle.gx_ast.specs.declared.name.QName.{QName}
use Rattle.gx_ast.specs.declared.sequence_type.AxisStep.{AxisStep}
use Rattle.gx_ast.specs.declared.sequence_type.BoundVariable.{BoundVariable}
use Rattle.gx_ast.specs.declared.sequence_type.CaseHead.{CaseHead}
use Rattle.gx_ast.specs.declared.sequence_type.DefaultHead.{DefaultHead}
use Rattle.gx_ast.specs.declared.sequence_type.KeyOrder.{KeyOrder}
use Rattle.gx_ast.specs.declared.sequence_type.SequenceType.{SequenceType}
use Rattle.gx_ast.specs.declared.sequence_type.SingleType.{SingleType}
use Rattle.gx_ast.specs.declared.expression.BinaryOperator.{BinaryOperator}
use Rattle.gx_ast.specs.SyntaxTree.{AttributeParts, Attributes, Bindings, Cases, Clauses, Keys, Parts, SyntaxForm, SyntaxTree, SyntaxTrees, at, number, string, variable, parenthesised, empty_sequence, context_item, call, comma, flwor, quantified, typeswitch, conditional, binary, instance_of, treat_as, castable_as, cast_as, signed, path, axis_step, parent_step, filtered, direct, document_node, text_node, element_node, empty_element, attribute_node, empty_attribute, no_tree, a_tree, no_binding, a_binding, no_clause, for_clause, let_clause, where_clause, no_key, a_key, no_case, a_case, no_attribute, an_attribute, no_attribute_part, attribute_text, attribute_enclosed, no_part, blank_part, text_part, element_part, enclosed_part}

abbrev head : Gv → Gv
head (gcons g h) = g
head _ = gnil

abbrev tail : Gv → Gv
tail (gcons g h) = h
tail _ = gnil

abbrev tag : Gv → ℕ
tag (gcons (gnum n) g) = n
tag _ = 0

abbrev store_bool : Bool → Gv
store_bool true = gnil
store_bool false = gnum 0

same_bool : (b c : Bool) → store_bool b ≡ store_bool c → b ≡ c
same_bool true true e = refl
same_bool false false e = refl
same_bool _ _ e = absurd (cc)

module _ (coded_places : Coded Place) (coded_names : Coded QName) (coded_numbers : Coded Number) (coded_steps : Coded AxisStep) (coded_bounds : Coded BoundVariable) (coded_cases : Coded CaseHead) (coded_defaults : Coded DefaultHead) (coded_orders : Coded KeyOrder) (coded_kinds : Coded SequenceType) (coded_singles : Coded SingleType) (coded_operators : Coded BinaryOperator) where
  abbrev mutual
    pub store_syntax : SyntaxTree → Gv
    store_syntax (at place form) = gcons (gnum 0) (gcons (coded_places.code place) (gcons (store_form form) gnil))

    pub store_form : SyntaxForm → Gv
    store_form (number value) = gcons (gnum 0) (gcons (coded_numbers.code value) gnil)
    store_form (string characters) = gcons (gnum 1) (gcons ((coded_list coded_ℕ).code characters) gnil)
    store_form (variable name) = gcons (gnum 2) (gcons (coded_names.code name) gnil)
    store_form (parenthesised inner) = gcons (gnum 3) (gcons (store_syntax inner) gnil)
    store_form empty_sequence = gcons (gnum 4) gnil
    store_form context_item = gcons (gnum 5) gnil
    store_form (call name arguments) = gcons (gnum 6) (gcons (coded_names.code name) (gcons (store_syntaxes arguments) gnil))
    store_form (comma first second) = gcons (gnum 7) (gcons (store_syntax first) (gcons (store_syntax second) gnil))
    store_form (flwor clauses order stable keys returned) = gcons (gnum 8) (gcons (store_clauses clauses) (gcons (coded_places.code order) (gcons (store_bool stable) (gcons (store_keys keys) (gcons (store_syntax returned) gnil)))))
    store_form (quantified every bindings condition) = gcons (gnum 9) (gcons (store_bool every) (gcons (store_bindings bindings) (gcons (store_syntax condition) gnil)))
    store_form (typeswitch operand cases default otherwise) = gcons (gnum 10) (gcons (store_syntax operand) (gcons (store_cases cases) (gcons (coded_defaults.code default) (gcons (store_syntax otherwise) gnil))))
    store_form (conditional test chosen otherwise) = gcons (gnum 11) (gcons (store_syntax test) (gcons (store_syntax chosen) (gcons (store_syntax otherwise) gnil)))
    store_form (binary operator left right) = gcons (gnum 12) (gcons (coded_operators.code operator) (gcons (store_syntax left) (gcons (store_syntax right) gnil)))
    store_form (instance_of operand kind) = gcons (gnum 13) (gcons (store_syntax operand) (gcons (coded_kinds.code kind) gnil))
    store_form (treat_as operand kind) = gcons (gnum 14) (gcons (store_syntax operand) (gcons (coded_kinds.code kind) gnil))
    store_form (castable_as operand kind) = gcons (gnum 15) (gcons (store_syntax operand) (gcons (coded_singles.code kind) gnil))
    store_form (cast_as operand kind) = gcons (gnum 16) (gcons (store_syntax operand) (gcons (coded_singles.code kind) gnil))
    store_form (signed minus operand) = gcons (gnum 17) (gcons (store_bool minus) (gcons (store_syntax operand) gnil))
    store_form (path descendants left right) = gcons (gnum 18) (gcons (store_bool descendants) (gcons (store_syntax left) (gcons (store_syntax right) gnil)))
    store_form (axis_step step) = gcons (gnum 19) (gcons (coded_steps.code step) gnil)
    store_form parent_step = gcons (gnum 20) gnil
    store_form (filtered bracket operand predicates) = gcons (gnum 21) (gcons (coded_places.code bracket) (gcons (store_syntax operand) (gcons (store_syntaxes predicates) gnil)))
    store_form (direct name attributes content) = gcons (gnum 22) (gcons (coded_names.code name) (gcons (store_attributes attributes) (gcons (store_parts content) gnil)))
    store_form (document_node content) = gcons (gnum 23) (gcons (store_syntax content) gnil)
    store_form (text_node content) = gcons (gnum 24) (gcons (store_syntax content) gnil)
    store_form (element_node name content) = gcons (gnum 25) (gcons (coded_names.code name) (gcons (store_syntax content) gnil))
    store_form (empty_element name) = gcons (gnum 26) (gcons (coded_names.code name) gnil)
    store_form (attribute_node name content) = gcons (gnum 27) (gcons (coded_names.code name) (gcons (store_syntax content) gnil))
    store_form (empty_attribute name) = gcons (gnum 28) (gcons (coded_names.code name) gnil)

    pub store_syntaxes : SyntaxTrees → Gv
    store_syntaxes no_tree = gcons (gnum 0) gnil
    store_syntaxes (a_tree first others) = gcons (gnum 1) (gcons (store_syntax first) (gcons (store_syntaxes others) gnil))

    pub store_bindings : Bindings → Gv
    store_bindings no_binding = gcons (gnum 0) gnil
    store_bindings (a_binding bound value others) = gcons (gnum 1) (gcons (coded_bounds.code bound) (gcons (store_syntax value) (gcons (store_bindings others) gnil)))

    pub store_clauses : Clauses → Gv
    store_clauses no_clause = gcons (gnum 0) gnil
    store_clauses (for_clause place bindings others) = gcons (gnum 1) (gcons (coded_places.code place) (gcons (store_bindings bindings) (gcons (store_clauses others) gnil)))
    store_clauses (let_clause place bindings others) = gcons (gnum 2) (gcons (coded_places.code place) (gcons (store_bindings bindings) (gcons (store_clauses others) gnil)))
    store_clauses (where_clause place condition others) = gcons (gnum 3) (gcons (coded_places.code place) (gcons (store_syntax condition) (gcons (store_clauses others) gnil)))

    pub store_keys : Keys → Gv
    store_keys no_key = gcons (gnum 0) gnil
    store_keys (a_key value order others) = gcons (gnum 1) (gcons (store_syntax value) (gcons (coded_orders.code order) (gcons (store_keys others) gnil)))

    pub store_cases : Cases → Gv
    store_cases no_case = gcons (gnum 0) gnil
    store_cases (a_case heading body others) = gcons (gnum 1) (gcons (coded_cases.code heading) (gcons (store_syntax body) (gcons (store_cases others) gnil)))

    pub store_attributes : Attributes → Gv
    store_attributes no_attribute = gcons (gnum 0) gnil
    store_attributes (an_attribute name value others) = gcons (gnum 1) (gcons (coded_names.code name) (gcons (store_attribute_parts value) (gcons (store_attributes others) gnil)))

    pub store_attribute_parts : AttributeParts → Gv
    store_attribute_parts no_attribute_part = gcons (gnum 0) gnil
    store_attribute_parts (attribute_text characters others) = gcons (gnum 1) (gcons ((coded_list coded_ℕ).code characters) (gcons (store_attribute_parts others) gnil))
    store_attribute_parts (attribute_enclosed value others) = gcons (gnum 2) (gcons (store_syntax value) (gcons (store_attribute_parts others) gnil))

    pub store_parts : Parts → Gv
    store_parts no_part = gcons (gnum 0) gnil
    store_parts (blank_part characters others) = gcons (gnum 1) (gcons ((coded_list coded_ℕ).code characters) (gcons (store_parts others) gnil))
    store_parts (text_part characters others) = gcons (gnum 2) (gcons ((coded_list coded_ℕ).code characters) (gcons (store_parts others) gnil))
    store_parts (element_part element others) = gcons (gnum 3) (gcons (store_syntax element) (gcons (store_parts others) gnil))
    store_parts (enclosed_part value others) = gcons (gnum 4) (gcons (store_syntax value) (gcons (store_parts others) gnil))

  mutual
    pub same_syntax : (x y : SyntaxTree) → store_syntax x ≡ store_syntax y → x ≡ y
    same_syntax (at place form) (at place' form') e =
        let place_same : place ≡ place' = coded_places.inj place place' (ap (λ g. head (tail g)) e) in
        let form_same : form ≡ form' = same_form form form' (ap (λ g. head (tail (tail g))) e) in
        λ i. at (place_same i) (form_same i)

    pub same_form : (x y : SyntaxForm) → store_form x ≡ store_form y → x ≡ y
    same_form (number value) (number value') e =
        let value_same : value ≡ value' = coded_numbers.inj value value' (ap (λ g. head (tail g)) e) in
        λ i. number (value_same i)
    same_form (string characters) (string characters') e =
        let characters_same : characters ≡ characters' = (coded_list coded_ℕ).inj characters characters' (ap (λ g. head (tail g)) e) in
        λ i. string (characters_same i)
    same_form (variable name) (variable name') e =
        let name_same : name ≡ name' = coded_names.inj name name' (ap (λ g. head (tail g)) e) in
        λ i. variable (name_same i)
    same_form (parenthesised inner) (parenthesised inner') e =
        let inner_same : inner ≡ inner' = same_syntax inner inner' (ap (λ g. head (tail g)) e) in
        λ i. parenthesised (inner_same i)
    same_form empty_sequence empty_sequence e = λ i. empty_sequence
    same_form context_item context_item e = λ i. context_item
    same_form (call name arguments) (call name' arguments') e =
        let name_same : name ≡ name' = coded_names.inj name name' (ap (λ g. head (tail g)) e) in
        let arguments_same : arguments ≡ arguments' = same_syntaxes arguments arguments' (ap (λ g. head (tail (tail g))) e) in
        λ i. call (name_same i) (arguments_same i)
    same_form (comma first second) (comma first' second') e =
        let first_same : first ≡ first' = same_syntax first first' (ap (λ g. head (tail g)) e) in
        let second_same : second ≡ second' = same_syntax second second' (ap (λ g. head (tail (tail g))) e) in
        λ i. comma (first_same i) (second_same i)
    same_form (flwor clauses order stable keys returned) (flwor clauses' order' stable' keys' returned') e =
        let clauses_same : clauses ≡ clauses' = same_clauses clauses clauses' (ap (λ g. head (tail g)) e) in
        let order_same : order ≡ order' = coded_places.inj order order' (ap (λ g. head (tail (tail g))) e) in
        let stable_same : stable ≡ stable' = same_bool stable stable' (ap (λ g. head (tail (tail (tail g)))) e) in
        let keys_same : keys ≡ keys' = same_keys keys keys' (ap (λ g. head (tail (tail (tail (tail g))))) e) in
        let returned_same : returned ≡ returned' = same_syntax returned returned' (ap (λ g. head (tail (tail (tail (tail (tail g)))))) e) in
        λ i. flwor (clauses_same i) (order_same i) (stable_same i) (keys_same i) (returned_same i)
    same_form (quantified every bindings condition) (quantified every' bindings' condition') e =
        let every_same : every ≡ every' = same_bool every every' (ap (λ g. head (tail g)) e) in
        let bindings_same : bindings ≡ bindings' = same_bindings bindings bindings' (ap (λ g. head (tail (tail g))) e) in
        let condition_same : condition ≡ condition' = same_syntax condition condition' (ap (λ g. head (tail (tail (tail g)))) e) in
        λ i. quantified (every_same i) (bindings_same i) (condition_same i)
    same_form (typeswitch operand cases default otherwise) (typeswitch operand' cases' default' otherwise') e =
        let operand_same : operand ≡ operand' = same_syntax operand operand' (ap (λ g. head (tail g)) e) in
        let cases_same : cases ≡ cases' = same_cases cases cases' (ap (λ g. head (tail (tail g))) e) in
        let default_same : default ≡ default' = coded_defaults.inj default default' (ap (λ g. head (tail (tail (tail g)))) e) in
        let otherwise_same : otherwise ≡ otherwise' = same_syntax otherwise otherwise' (ap (λ g. head (tail (tail (tail (tail g))))) e) in
        λ i. typeswitch (operand_same i) (cases_same i) (default_same i) (otherwise_same i)
    same_form (conditional test chosen otherwise) (conditional test' chosen' otherwise') e =
        let test_same : test ≡ test' = same_syntax test test' (ap (λ g. head (tail g)) e) in
        let chosen_same : chosen ≡ chosen' = same_syntax chosen chosen' (ap (λ g. head (tail (tail g))) e) in
        let otherwise_same : otherwise ≡ otherwise' = same_syntax otherwise otherwise' (ap (λ g. head (tail (tail (tail g)))) e) in
        λ i. conditional (test_same i) (chosen_same i) (otherwise_same i)
    same_form (binary operator left right) (binary operator' left' right') e =
        let operator_same : operator ≡ operator' = coded_operators.inj operator operator' (ap (λ g. head (tail g)) e) in
        let left_same : left ≡ left' = same_syntax left left' (ap (λ g. head (tail (tail g))) e) in
        let right_same : right ≡ right' = same_syntax right right' (ap (λ g. head (tail (tail (tail g)))) e) in
        λ i. binary (operator_same i) (left_same i) (right_same i)
    same_form (instance_of operand kind) (instance_of operand' kind') e =
        let operand_same : operand ≡ operand' = same_syntax operand operand' (ap (λ g. head (tail g)) e) in
        let kind_same : kind ≡ kind' = coded_kinds.inj kind kind' (ap (λ g. head (tail (tail g))) e) in
        λ i. instance_of (operand_same i) (kind_same i)
    same_form (treat_as operand kind) (treat_as operand' kind') e =
        let operand_same : operand ≡ operand' = same_syntax operand operand' (ap (λ g. head (tail g)) e) in
        let kind_same : kind ≡ kind' = coded_kinds.inj kind kind' (ap (λ g. head (tail (tail g))) e) in
        λ i. treat_as (operand_same i) (kind_same i)
    same_form (castable_as operand kind) (castable_as operand' kind') e =
        let operand_same : operand ≡ operand' = same_syntax operand operand' (ap (λ g. head (tail g)) e) in
        let kind_same : kind ≡ kind' = coded_singles.inj kind kind' (ap (λ g. head (tail (tail g))) e) in
        λ i. castable_as (operand_same i) (kind_same i)
    same_form (cast_as operand kind) (cast_as operand' kind') e =
        let operand_same : operand ≡ operand' = same_syntax operand operand' (ap (λ g. head (tail g)) e) in
        let kind_same : kind ≡ kind' = coded_singles.inj kind kind' (ap (λ g. head (tail (tail g))) e) in
        λ i. cast_as (operand_same i) (kind_same i)
    same_form (signed minus operand) (signed minus' operand') e =
        let minus_same : minus ≡ minus' = same_bool minus minus' (ap (λ g. head (tail g)) e) in
        let operand_same : operand ≡ operand' = same_syntax operand operand' (ap (λ g. head (tail (tail g))) e) in
        λ i. signed (minus_same i) (operand_same i)
    same_form (path descendants left right) (path descendants' left' right') e =
        let descendants_same : descendants ≡ descendants' = same_bool descendants descendants' (ap (λ g. head (tail g)) e) in
        let left_same : left ≡ left' = same_syntax left left' (ap (λ g. head (tail (tail g))) e) in
        let right_same : right ≡ right' = same_syntax right right' (ap (λ g. head (tail (tail (tail g)))) e) in
        λ i. path (descendants_same i) (left_same i) (right_same i)
    same_form (axis_step step) (axis_step step') e =
        let step_same : step ≡ step' = coded_steps.inj step step' (ap (λ g. head (tail g)) e) in
        λ i. axis_step (step_same i)
    same_form parent_step parent_step e = λ i. parent_step
    same_form (filtered bracket operand predicates) (filtered bracket' operand' predicates') e =
        let bracket_same : bracket ≡ bracket' = coded_places.inj bracket bracket' (ap (λ g. head (tail g)) e) in
        let operand_same : operand ≡ operand' = same_syntax operand operand' (ap (λ g. head (tail (tail g))) e) in
        let predicates_same : predicates ≡ predicates' = same_syntaxes predicates predicates' (ap (λ g. head (tail (tail (tail g)))) e) in
        λ i. filtered (bracket_same i) (operand_same i) (predicates_same i)
    same_form (direct name attributes content) (direct name' attributes' content') e =
        let name_same : name ≡ name' = coded_names.inj name name' (ap (λ g. head (tail g)) e) in
        let attributes_same : attributes ≡ attributes' = same_attributes attributes attributes' (ap (λ g. head (tail (tail g))) e) in
        let content_same : content ≡ content' = same_parts content content' (ap (λ g. head (tail (tail (tail g)))) e) in
        λ i. direct (name_same i) (attributes_same i) (content_same i)
    same_form (document_node content) (document_node content') e =
        let content_same : content ≡ content' = same_syntax content content' (ap (λ g. head (tail g)) e) in
        λ i. document_node (content_same i)
    same_form (text_node content) (text_node content') e =
        let content_same : content ≡ content' = same_syntax content content' (ap (λ g. head (tail g)) e) in
        λ i. text_node (content_same i)
    same_form (element_node name content) (element_node name' content') e =
        let name_same : name ≡ name' = coded_names.inj name name' (ap (λ g. head (tail g)) e) in
        let content_same : content ≡ content' = same_syntax content content' (ap (λ g. head (tail (tail g))) e) in
        λ i. element_node (name_same i) (content_same i)
    same_form (empty_element name) (empty_element name') e =
        let name_same : name ≡ name' = coded_names.inj name name' (ap (λ g. head (tail g)) e) in
        λ i. empty_element (name_same i)
    same_form (attribute_node name content) (attribute_node name' content') e =
        let name_same : name ≡ name' = coded_names.inj name name' (ap (λ g. head (tail g)) e) in
        let content_same : content ≡ content' = same_syntax content content' (ap (λ g. head (tail (tail g))) e) in
        λ i. attribute_node (name_same i) (content_same i)
    same_form (empty_attribute name) (empty_attribute name') e =
        let name_same : name ≡ name' = coded_names.inj name name' (ap (λ g. head (tail g)) e) in
        λ i. empty_attribute (name_same i)
    same_form _ _ e = absurd (omega (arith, ap tag e))

    pub same_syntaxes : (x y : SyntaxTrees) → store_syntaxes x ≡ store_syntaxes y → x ≡ y
    same_syntaxes no_tree no_tree e = λ i. no_tree
    same_syntaxes (a_tree first others) (a_tree first' others') e =
        let first_same : first ≡ first' = same_syntax first first' (ap (λ g. head (tail g)) e) in
        let others_same : others ≡ others' = same_syntaxes others others' (ap (λ g. head (tail (tail g))) e) in
        λ i. a_tree (first_same i) (others_same i)
    same_syntaxes _ _ e = absurd (omega (arith, ap tag e))

    pub same_bindings : (x y : Bindings) → store_bindings x ≡ store_bindings y → x ≡ y
    same_bindings no_binding no_binding e = λ i. no_binding
    same_bindings (a_binding bound value others) (a_binding bound' value' others') e =
        let bound_same : bound ≡ bound' = coded_bounds.inj bound bound' (ap (λ g. head (tail g)) e) in
        let value_same : value ≡ value' = same_syntax value value' (ap (λ g. head (tail (tail g))) e) in
        let others_same : others ≡ others' = same_bindings others others' (ap (λ g. head (tail (tail (tail g)))) e) in
        λ i. a_binding (bound_same i) (value_same i) (others_same i)
    same_bindings _ _ e = absurd (omega (arith, ap tag e))

    pub same_clauses : (x y : Clauses) → store_clauses x ≡ store_clauses y → x ≡ y
    same_clauses no_clause no_clause e = λ i. no_clause
    same_clauses (for_clause place bindings others) (for_clause place' bindings' others') e =
        let place_same : place ≡ place' = coded_places.inj place place' (ap (λ g. head (tail g)) e) in
        let bindings_same : bindings ≡ bindings' = same_bindings bindings bindings' (ap (λ g. head (tail (tail g))) e) in
        let others_same : others ≡ others' = same_clauses others others' (ap (λ g. head (tail (tail (tail g)))) e) in
        λ i. for_clause (place_same i) (bindings_same i) (others_same i)
    same_clauses (let_clause place bindings others) (let_clause place' bindings' others') e =
        let place_same : place ≡ place' = coded_places.inj place place' (ap (λ g. head (tail g)) e) in
        let bindings_same : bindings ≡ bindings' = same_bindings bindings bindings' (ap (λ g. head (tail (tail g))) e) in
        let others_same : others ≡ others' = same_clauses others others' (ap (λ g. head (tail (tail (tail g)))) e) in
        λ i. let_clause (place_same i) (bindings_same i) (others_same i)
    same_clauses (where_clause place condition others) (where_clause place' condition' others') e =
        let place_same : place ≡ place' = coded_places.inj place place' (ap (λ g. head (tail g)) e) in
        let condition_same : condition ≡ condition' = same_syntax condition condition' (ap (λ g. head (tail (tail g))) e) in
        let others_same : others ≡ others' = same_clauses others others' (ap (λ g. head (tail (tail (tail g)))) e) in
        λ i. where_clause (place_same i) (condition_same i) (others_same i)
    same_clauses _ _ e = absurd (omega (arith, ap tag e))

    pub same_keys : (x y : Keys) → store_keys x ≡ store_keys y → x ≡ y
    same_keys no_key no_key e = λ i. no_key
    same_keys (a_key value order others) (a_key value' order' others') e =
        let value_same : value ≡ value' = same_syntax value value' (ap (λ g. head (tail g)) e) in
        let order_same : order ≡ order' = coded_orders.inj order order' (ap (λ g. head (tail (tail g))) e) in
        let others_same : others ≡ others' = same_keys others others' (ap (λ g. head (tail (tail (tail g)))) e) in
        λ i. a_key (value_same i) (order_same i) (others_same i)
    same_keys _ _ e = absurd (omega (arith, ap tag e))

    pub same_cases : (x y : Cases) → store_cases x ≡ store_cases y → x ≡ y
    same_cases no_case no_case e = λ i. no_case
    same_cases (a_case heading body others) (a_case heading' body' others') e =
        let heading_same : heading ≡ heading' = coded_cases.inj heading heading' (ap (λ g. head (tail g)) e) in
        let body_same : body ≡ body' = same_syntax body body' (ap (λ g. head (tail (tail g))) e) in
        let others_same : others ≡ others' = same_cases others others' (ap (λ g. head (tail (tail (tail g)))) e) in
        λ i. a_case (heading_same i) (body_same i) (others_same i)
    same_cases _ _ e = absurd (omega (arith, ap tag e))

    pub same_attributes : (x y : Attributes) → store_attributes x ≡ store_attributes y → x ≡ y
    same_attributes no_attribute no_attribute e = λ i. no_attribute
    same_attributes (an_attribute name value others) (an_attribute name' value' others') e =
        let name_same : name ≡ name' = coded_names.inj name name' (ap (λ g. head (tail g)) e) in
        let value_same : value ≡ value' = same_attribute_parts value value' (ap (λ g. head (tail (tail g))) e) in
        let others_same : others ≡ others' = same_attributes others others' (ap (λ g. head (tail (tail (tail g)))) e) in
        λ i. an_attribute (name_same i) (value_same i) (others_same i)
    same_attributes _ _ e = absurd (omega (arith, ap tag e))

    pub same_attribute_parts : (x y : AttributeParts) → store_attribute_parts x ≡ store_attribute_parts y → x ≡ y
    same_attribute_parts no_attribute_part no_attribute_part e = λ i. no_attribute_part
    same_attribute_parts (attribute_text characters others) (attribute_text characters' others') e =
        let characters_same : characters ≡ characters' = (coded_list coded_ℕ).inj characters characters' (ap (λ g. head (tail g)) e) in
        let others_same : others ≡ others' = same_attribute_parts others others' (ap (λ g. head (tail (tail g))) e) in
        λ i. attribute_text (characters_same i) (others_same i)
    same_attribute_parts (attribute_enclosed value others) (attribute_enclosed value' others') e =
        let value_same : value ≡ value' = same_syntax value value' (ap (λ g. head (tail g)) e) in
        let others_same : others ≡ others' = same_attribute_parts others others' (ap (λ g. head (tail (tail g))) e) in
        λ i. attribute_enclosed (value_same i) (others_same i)
    same_attribute_parts _ _ e = absurd (omega (arith, ap tag e))

    pub same_parts : (x y : Parts) → store_parts x ≡ store_parts y → x ≡ y
    same_parts no_part no_part e = λ i. no_part
    same_parts (blank_part characters others) (blank_part characters' others') e =
        let characters_same : characters ≡ characters' = (coded_list coded_ℕ).inj characters characters' (ap (λ g. head (tail g)) e) in
        let others_same : others ≡ others' = same_parts others others' (ap (λ g. head (tail (tail g))) e) in
        λ i. blank_part (characters_same i) (others_same i)
    same_parts (text_part characters others) (text_part characters' others') e =
        let characters_same : characters ≡ characters' = (coded_list coded_ℕ).inj characters characters' (ap (λ g. head (tail g)) e) in
        let others_same : others ≡ others' = same_parts others others' (ap (λ g. head (tail (tail g))) e) in
        λ i. text_part (characters_same i) (others_same i)
    same_parts (element_part element others) (element_part element' others') e =
        let element_same : element ≡ element' = same_syntax element element' (ap (λ g. head (tail g)) e) in
        let others_same : others ≡ others' = same_parts others others' (ap (λ g. head (tail (tail g))) e) in
        λ i. element_part (element_same i) (others_same i)
    same_parts (enclosed_part value others) (enclosed_part value' others') e =
        let value_same : value ≡ value' = same_syntax value value' (ap (λ g. head (tail g)) e) in
        let others_same : others ≡ others' = same_parts others others' (ap (λ g. head (tail (tail g))) e) in
        λ i. enclosed_part (value_same i) (others_same i)
    same_parts _ _ e = absurd (omega (arith, ap tag e))

  abbrev pub syntax_code : Coded SyntaxTree
  syntax_code = record { code = store_syntax; inj = same_syntax }
