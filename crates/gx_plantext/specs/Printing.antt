-- How the printing of an expression stands.
use Rattle.std.specs.Prelude.{◌≡◌, ℕ, Bool, true, false, List, [], ◌∷◌, ◌++◌, map, codes}
use Rattle.std.specs.List.{flat_map}
use Rattle.gx_core.specs.declared.expression.Clause.{Clause}
use Rattle.gx_core.specs.declared.expression.SortKey.{SortKey}
use Rattle.gx_core.specs.ExpressionView.{operator_of, kind_of_clause, part_of_clause}
use Rattle.gx_plan.specs.declared.plan.Carried.{Carried}
use Rattle.gx_typetext.specs.NameText.{word}
use Rattle.gx_plantext.specs.declared.terms.Terms.{Terms}
use Rattle.gx_plantext.specs.declared.pending.Piece.{Piece}
use Rattle.gx_plantext.specs.declared.pending.Piece.TheVariants.{One, All, Branches, Clauses, Keys, Behind, Order}
use Rattle.gx_plantext.specs.declared.pending.Pending.{Pending}
use Rattle.gx_plantext.specs.declared.pending.Pending.TheVariants.{Fields, Close}
use Rattle.gx_plantext.specs.TermText as texts
use Rattle.gx_plantext.specs.TermText.{comma_before, fields_text, number_text}
use Rattle.gx_plantext.specs.OperatorFields.{fields_behind, order_fields}
use Rattle.gx_plantext.specs.PlanText.{fields_of, branch_fields, clause_text, key_text}

-- whether the next field is the first one of its term, behind some fields
abbrev pub is_first_behind : Bool → texts.Fields → Bool
is_first_behind is_first [] = is_first
is_first_behind is_first (field ∷ fields) = false

-- fields are added
pub record AddsFields (before : Terms) (fields : texts.Fields) (after : Terms) : Type 0 where
  pub text : after.text ≡ before.text ++ fields_text before.is_first fields
  pub is_first : after.is_first ≡ is_first_behind before.is_first fields

-- a term is begun: its name is added, and its parenthesis
pub record OpensTerm (before : Terms) (name : List ℕ) (after : Terms) : Type 0 where
  pub text : after.text ≡ before.text ++ (comma_before before.is_first ++ (word name ++ word (codes "(")))
  pub is_first : after.is_first ≡ true

-- a term is ended
pub record ClosesTerm (before : Terms) (after : Terms) : Type 0 where
  pub text : after.text ≡ before.text ++ word (codes ")")
  pub is_first : after.is_first ≡ false

-- ---- what is still to be written

abbrev pub clause_piece : Clause Carried → List ℕ
clause_piece clause = clause_text (kind_of_clause clause) (fields_of (part_of_clause clause))

abbrev pub key_piece : SortKey Carried → List ℕ
key_piece key = key_text key.order (fields_of key.value)

abbrev pub fields_pending : Piece → texts.Fields
fields_pending (One expression) = fields_of expression.now
fields_pending (All expressions) = flat_map fields_of expressions.now
fields_pending (Branches cases default branches) = branch_fields cases.now default (map fields_of branches.now)
fields_pending (Clauses clauses) = map clause_piece clauses.now
fields_pending (Keys keys) = map key_piece keys.now
fields_pending (Behind form) = fields_behind (operator_of form.now)
fields_pending (Order order) = order_fields order

-- the fields that are left of the innermost term
abbrev pub fields_here : List Pending → texts.Fields
fields_here [] = []
fields_here (Fields piece ∷ others) = fields_pending piece ++ fields_here others
fields_here (Close ∷ others) = []

-- and what stands behind them
abbrev pub text_behind : List Pending → List ℕ
text_behind [] = []
text_behind (Fields piece ∷ others) = text_behind others
text_behind (Close ∷ others) = word (codes ")") ++ (fields_text false (fields_here others) ++ text_behind others)

-- fields are put to the work
pub record PutsFields (before : List Pending) (fields : texts.Fields) (after : List Pending) : Type 0 where
  pub here : fields_here after ≡ fields ++ fields_here before
  pub behind : text_behind after ≡ text_behind before

-- the whole text, when the work is done: that of a term, with some fields before what is pending
abbrev pub printed_with : Terms → texts.Fields → List Pending → List ℕ
printed_with terms fields pending = terms.text ++ (fields_text terms.is_first (fields ++ fields_here pending) ++ text_behind pending)

abbrev pub printed_terms : Terms → List Pending → List ℕ
printed_terms terms pending = terms.text ++ (fields_text terms.is_first (fields_here pending) ++ text_behind pending)
