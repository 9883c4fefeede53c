-- The pieces of each type text are those of a tree.
use Rattle.std.proofs.Common.{◌≡◌, ℕ, zero, suc, List, [], ◌∷◌, ◌++◌, length, nat_le, Bool, true, false, ◌⊎◌, inl, inr, refl, sym, ap, ◌∙◌, Option, None, Some, append_assoc, append-nil, arith}
use Rattle.gx_grammar.specs.Value.{characters, pair}
use Rattle.gx_grammar.specs.Grammar.{token}
use Rattle.gx_typetext.specs.declared.letters.Run.{Run}
use Rattle.gx_typetext.specs.declared.letters.Run.TheVariants as run
use Rattle.gx_typetext.specs.declared.written.Inside.{Inside}
use Rattle.gx_typetext.specs.declared.written.Inside.TheVariants as inside
use Rattle.gx_typetext.specs.declared.written.NameWord.{NameWord}
use Rattle.gx_typetext.specs.declared.written.NameWord.TheVariants as word
use Rattle.gx_typetext.specs.declared.written.WrittenName.{WrittenName}
use Rattle.gx_typetext.specs.declared.written.WrittenTest.{WrittenTest}
use Rattle.gx_typetext.specs.declared.written.WrittenItem.TheVariants as item_is
use Rattle.gx_typetext.specs.declared.written.Operand.{Operand}
use Rattle.gx_typetext.specs.declared.written.Operand.TheVariants as operand_is
use Rattle.gx_typetext.specs.declared.written.Indicator.{Indicator}
use Rattle.gx_typetext.specs.declared.written.Indicator.TheVariants as indicator
use Rattle.gx_typetext.specs.declared.written.Piece.{Piece}
use Rattle.gx_typetext.specs.declared.written.Piece.TheVariants as piece
use Rattle.gx_typetext.specs.Tokens.{named}
use Rattle.gx_typetext.specs.Nodes.{Made, written_name_made, inside_made, pieces, braced_value, prefixed_value, unprefixed_value, test_written, declared_inside, element_inside, document_content, later_value, name_word, put, put_name, put_word, put_empty, with_inside, bare}
use Rattle.gx_typetext.specs.Grammar.{Production, operand, behind, TypePhrase, braced, prefixed, unprefixed, name, nothing_inside, tested, declared, document_test, document, word_content, room_inside, room_bare, tail, behind_word, item, nested, ending, separated, indicated, rules, type_texts}
use Rattle.gx_typetext.specs.Reading.{HasPieces}
use Rattle.gx_typetext.specs.WrittenTypes.{WrittenType, only_choice, then_choice, WrittenChoice, only_unit, or_unit, WrittenUnit, single, in_parentheses, type_pieces, choice_pieces, unit_pieces}
use Rattle.gx_typetext.proofs.Holding.{Holds, holding}

-- trees that are read in part

-- what stands in parentheses in front of a unit: types with a comma behind them, and units with a bar
pub record TreePart : Type 0 where
  pub front : Option WrittenType
  pub choice : Option WrittenChoice

abbrev nothing_read : TreePart
nothing_read = record { front = None; choice = None }

abbrev front_pieces : Option WrittenType → List Piece
front_pieces None = []
front_pieces (Some w) = type_pieces w ++ piece.Comma ∷ []

abbrev choice_front : Option WrittenChoice → List Piece
choice_front None = []
choice_front (Some c) = choice_pieces c ++ piece.Bar ∷ []

abbrev part_pieces : TreePart → List Piece
part_pieces part = front_pieces part.front ++ choice_front part.choice

abbrev outer_pieces : List TreePart → List Piece
outer_pieces [] = []
outer_pieces (part ∷ outer) = (outer_pieces outer ++ part_pieces part) ++ piece.Opening ∷ []

abbrev context_pieces : TreePart → List TreePart → List Piece
context_pieces inner outer = outer_pieces outer ++ part_pieces inner

abbrev with_unit : Option WrittenChoice → WrittenUnit → WrittenChoice
with_unit None unit = only_unit unit
with_unit (Some c) unit = or_unit c unit

abbrev with_choice : Option WrittenType → WrittenChoice → WrittenType
with_choice None choice = only_choice choice
with_choice (Some w) choice = then_choice w choice

abbrev finished : TreePart → WrittenUnit → WrittenType
finished part unit = with_choice part.front (with_unit part.choice unit)

unit_put : (c : Option WrittenChoice) (unit : WrittenUnit) → choice_pieces (with_unit c unit) ≡ choice_front c ++ unit_pieces unit
unit_put None unit = refl
unit_put (Some c) unit = sym (append_assoc (choice_pieces c) (piece.Bar ∷ []) (unit_pieces unit))

choice_put : (w : Option WrittenType) (c : WrittenChoice) → type_pieces (with_choice w c) ≡ front_pieces w ++ choice_pieces c
choice_put None c = refl
choice_put (Some w) c = sym (append_assoc (type_pieces w) (piece.Comma ∷ []) (choice_pieces c))

finished_pieces : (part : TreePart) (unit : WrittenUnit) → type_pieces (finished part unit) ≡ part_pieces part ++ unit_pieces unit
finished_pieces part unit =
    choice_put part.front (with_unit part.choice unit) ∙ ap (λ ps. front_pieces part.front ++ ps) (unit_put part.choice unit)
    ∙ sym (append_assoc (front_pieces part.front) (choice_front part.choice) (unit_pieces unit))

-- a unit without its indicator
abbrev Bare : Type 0
Bare = Operand ⊎ WrittenType

abbrev unit_of : Bare → Option Indicator → WrittenUnit
unit_of (inl o) i = single o i
unit_of (inr w) i = in_parentheses w i

abbrev bare_pieces : Bare → List Piece
bare_pieces b = unit_pieces (unit_of b None)

unit_marked : (b : Bare) (i : Indicator) → unit_pieces (unit_of b (Some i)) ≡ bare_pieces b ++ piece.Indicated i ∷ []
unit_marked (inl o) i = refl
unit_marked (inr w) i = sym (append_assoc (piece.Opening ∷ type_pieces w) (piece.Closing ∷ []) (piece.Indicated i ∷ []))

-- what the pieces behind a context make

-- the context and these pieces are those of a tree
abbrev Ends : List Piece → List Piece → Type 0
Ends front ps = (w : WrittenType) × (type_pieces w ≡ front ++ ps)

abbrev EndsBehindUnit : ℕ → List Piece → Type 0
EndsBehindUnit depth ps = (unit : WrittenUnit) (inner : TreePart) (outer : List TreePart) → length outer ≡ depth → Ends (context_pieces inner outer ++ unit_pieces unit) ps

abbrev Continues : Production → List Piece → Type 0
Continues (operand depth room) ps = (inner : TreePart) (outer : List TreePart) → length outer ≡ depth → Ends (context_pieces inner outer) ps
Continues (behind depth room) ps = (b : Bare) (inner : TreePart) (outer : List TreePart) → length outer ≡ depth → Ends (context_pieces inner outer ++ bare_pieces b) ps

abbrev pub Gives : Production → Made → Type 0
Gives p v = (ps : List Piece) × (v ≡ pieces ps) × Continues p ps

operand_then : (depth room rest : ℕ) (o : Operand) (ps : List Piece) → Continues (behind depth rest) ps → Continues (operand depth room) (piece.Operand o ∷ ps)
operand_then depth room rest o ps h inner outer e =
    let r = h (inl o) inner outer e in
    (r.0, r.1 ∙ append_assoc (context_pieces inner outer) (piece.Operand o ∷ []) ps)

opening_then : (depth room rest : ℕ) (ps : List Piece) → Continues (operand (suc depth) rest) ps → Continues (operand depth room) (piece.Opening ∷ ps)
opening_then depth room rest ps h inner outer e =
    let r = h nothing_read (inner ∷ outer) (ap suc e) in
    (r.0, r.1 ∙ ap (λ qs. qs ++ ps) (append-nil (context_pieces inner outer ++ piece.Opening ∷ [])) ∙ append_assoc (context_pieces inner outer) (piece.Opening ∷ []) ps)

unmarked_then : (depth room : ℕ) (ps : List Piece) → EndsBehindUnit depth ps → Continues (behind depth room) ps
unmarked_then depth room ps h b inner outer e = h (unit_of b None) inner outer e

mark_then : (depth room : ℕ) (i : Indicator) (ps : List Piece) → EndsBehindUnit depth ps → Continues (behind depth room) (piece.Indicated i ∷ ps)
mark_then depth room i ps h b inner outer e =
    let r = h (unit_of b (Some i)) inner outer e in
    let context = context_pieces inner outer in (
      r.0,
      r.1 ∙ ap (λ qs. (context ++ qs) ++ ps) (unit_marked b i) ∙ ap (λ qs. qs ++ ps) (sym (append_assoc context (bare_pieces b) (piece.Indicated i ∷ [])))
          ∙ append_assoc (context ++ bare_pieces b) (piece.Indicated i ∷ []) ps,
    )

comma_then : (depth room : ℕ) (ps : List Piece) → Continues (operand depth room) ps → EndsBehindUnit depth (piece.Comma ∷ ps)
comma_then depth room ps h unit inner outer e =
    let r = h (record { front = Some (finished inner unit); choice = None }) outer e in
    let before = outer_pieces outer in (
      r.0,
      r.1 ∙ ap (λ qs. (before ++ qs) ++ ps) (append-nil (type_pieces (finished inner unit) ++ piece.Comma ∷ []))
          ∙ ap (λ qs. (before ++ (qs ++ piece.Comma ∷ [])) ++ ps) (finished_pieces inner unit)
          ∙ simp append_assoc,
    )

bar_then : (depth room : ℕ) (ps : List Piece) → Continues (operand depth room) ps → EndsBehindUnit depth (piece.Bar ∷ ps)
bar_then depth room ps h unit inner outer e =
    let r = h (record { front = inner.front; choice = Some (with_unit inner.choice unit) }) outer e in
    let before = outer_pieces outer in (
      r.0,
      r.1 ∙ ap (λ qs. (before ++ (front_pieces inner.front ++ (qs ++ piece.Bar ∷ []))) ++ ps) (unit_put inner.choice unit) ∙ simp append_assoc,
    )

closing_then : (depth room : ℕ) (ps : List Piece) → Continues (behind depth room) ps → EndsBehindUnit (suc depth) (piece.Closing ∷ ps)
closing_then depth room ps h unit inner [] e = absurd (omega (arith, e))
closing_then depth room ps h unit inner (part ∷ outer) e =
    let r = h (inr (finished inner unit)) part outer (omega (arith, e)) in
    let before = context_pieces part outer in (
      r.0,
      r.1 ∙ ap (λ qs. (before ++ ((piece.Opening ∷ qs) ++ piece.Closing ∷ [])) ++ ps) (finished_pieces inner unit) ∙ simp append_assoc,
    )

end_then : EndsBehindUnit 0 []
end_then unit inner [] e = (finished inner unit, finished_pieces inner unit ∙ sym (append-nil (part_pieces inner ++ unit_pieces unit)))
end_then unit inner (part ∷ outer) e = absurd (omega (arith, e))

-- the values of the parts

abbrev H : TypePhrase → Made → Type 0
H = Holds type_texts Gives

pair_of : {a b c d : Made} → a ≡ c → b ≡ d → pair a b ≡ pair c d
pair_of {a} {b} {c} {d} e f = ap (λ x. pair x b) e ∙ ap (λ x. pair c x) f

run_is : (r : Run) (v : Made) → H (token (named r)) v → (cs : List ℕ) × (v ≡ characters cs)
run_is r v h = (h.1.1.head ∷ h.1.1.others.run, h.1.1.others.same)

abbrev IsName : Made → Type 0
IsName v = (n : WrittenName) × (v ≡ written_name_made n)

braced_is : (v : Made) → H braced v → IsName v
unfolding braced
braced_is v h =
    let p = h.of in
    let q = p.right in
    let r = q.right in
    let s = r.right in
    let u = run_is run.Uri q.first q.left in
    let l = run_is run.Local s.first s.left in
    (_, h.is ∙ ap braced_value (p.is ∙ pair_of refl (q.is ∙ pair_of u.1 (r.is ∙ pair_of refl (s.is ∙ pair_of l.1 refl)))))

prefixed_is : (v : Made) → H prefixed v → IsName v
unfolding prefixed
prefixed_is v h =
    let p = h.of in
    let q = p.right in
    let l = run_is run.Local q.first q.left in
    (_, h.is ∙ ap prefixed_value (p.is ∙ pair_of refl (q.is ∙ pair_of l.1 refl)))

unprefixed_is : (v : Made) → H unprefixed v → IsName v
unfolding unprefixed
unprefixed_is v h =
    let p = h.of in
    let l = run_is run.Local p.first p.left in
    (_, h.is ∙ ap unprefixed_value (p.is ∙ pair_of l.1 refl))

name_is : (v : Made) → H name v → IsName v
unfolding name
name_is v (inl h) = braced_is v h
name_is v (inr (inl h)) = prefixed_is v h
name_is v (inr (inr h)) = unprefixed_is v h

abbrev IsInside : Made → Type 0
IsInside v = (c : Inside) × (v ≡ inside_made c)

tested_is : (v : Made) → H tested v → (t : WrittenTest) × (v ≡ inside_made (inside.Test t))
unfolding tested
tested_is v h = (test_written h.part, h.is)

nothing_is : (v : Made) → H nothing_inside v → IsInside v
unfolding nothing_inside
nothing_is v h = (inside.Nothing, h.is)

declared_is : (v : Made) → H declared v → IsInside v
unfolding declared
declared_is v h =
    let p = h.of in
    let n = name_is p.right.first p.right.left in
    (_, h.is ∙ ap declared_inside (p.is ∙ pair_of refl (p.right.is ∙ pair_of n.1 refl)))

document_test_is : (v : Made) → H document_test v → IsInside v
unfolding document_test
document_test_is v (inl h) =
    let p = h.of in
    let t = tested_is p.second p.right in
    (_, h.is ∙ ap element_inside (p.is ∙ pair_of refl t.1))
document_test_is v (inr h) =
    let p = h.of in
    let d = declared_is p.second p.right in
    (d.0, h.is ∙ ap later_value p.is ∙ d.1)

document_is : (v : Made) → H document v → IsInside v
unfolding document
document_is v h =
    elim h.of.right [
      | inl c ↦ (inside.Nothing, h.is ∙ ap document_content (h.of.is ∙ pair_of refl (c.is ∙ pair_of c.left.1.1.same refl)))
      | inr c ↦ let t = document_test_is c.first c.left in (_, h.is ∙ ap document_content (h.of.is ∙ pair_of refl (c.is ∙ pair_of t.1 refl)))
    ]

word_content_is : (w : NameWord) (v : Made) → H (word_content w) v → IsInside v
unfolding word_content
word_content_is word.Never v h = nothing_is v h
word_content_is word.Empty v h = nothing_is v h
word_content_is word.Node v h = nothing_is v h
word_content_is word.Item v h = nothing_is v h
word_content_is word.Text v h = nothing_is v h
word_content_is word.Document v h = document_is v h
word_content_is word.Element v h = let t = tested_is v h in (inside.Test t.0, t.1)
word_content_is word.Attribute v h = let t = tested_is v h in (inside.Test t.0, t.1)
word_content_is word.Schema v h = declared_is v h
word_content_is word.Other v h = nothing_is v h

-- an operand and what is behind it
record OperandThen (depth : ℕ) (v : Made) : Type 0 where
  pub first : Operand
  pub room : ℕ
  pub others : List Piece
  pub is : v ≡ pieces (piece.Operand first ∷ others)
  pub goes_on : Continues (behind depth room) others

tail_is : (w : NameWord) (o : Option ℕ) (depth bare_room : ℕ) (l : List ℕ) (g v part : Made) → v ≡ put_word (pair (characters l) (pair g part)) → H (tail w o depth bare_room) part → OperandThen depth v
unfolding tail
tail_is w None depth bare_room l g v part e h = record {
  first = bare (name_word (characters l)) l;
  room = bare_room;
  others = h.0;
  is = e ∙ ap (λ x. put_word (pair (characters l) (pair g x))) h.1;
  goes_on = h.2;
}
tail_is w (Some r) depth bare_room l g v part e (inl h) =
    let c = word_content_is w h.first h.left in record {
      first = with_inside (name_word (characters l)) c.0;
      room = r;
      others = h.right.0;
      is = e ∙ ap (λ x. put_word (pair (characters l) (pair g x))) (h.is ∙ pair_of c.1 h.right.1);
      goes_on = h.right.2;
    }
tail_is w (Some r) depth bare_room l g v part e (inr h) = record {
  first = bare (name_word (characters l)) l;
  room = bare_room;
  others = h.0;
  is = e ∙ ap (λ x. put_word (pair (characters l) (pair g x))) h.1;
  goes_on = h.2;
}

item_is_operand : (depth room : ℕ) (v : Made) → H (item depth room) v → OperandThen depth v
unfolding item behind_word
item_is_operand depth zero v (inl h) = record {
  first = operand_is.Never;
  room = 0;
  others = h.of.right.0;
  is = h.is ∙ ap (put (piece.Operand operand_is.Never)) (h.of.is ∙ pair_of refl h.of.right.1);
  goes_on = h.of.right.2;
}
item_is_operand depth zero v (inr h) = record {
  first = operand_is.Empty;
  room = 0;
  others = h.of.right.right.0;
  is = h.is ∙ ap put_empty (h.of.is ∙ pair_of refl (h.of.right.is ∙ pair_of refl h.of.right.right.1));
  goes_on = h.of.right.right.2;
}
item_is_operand depth (suc room) v (inl h) =
    let n = braced_is h.of.first h.of.left in record {
      first = operand_is.Item (item_is.Atomic n.0);
      room = room;
      others = h.of.right.0;
      is = h.is ∙ ap put_name (h.of.is ∙ pair_of n.1 h.of.right.1);
      goes_on = h.of.right.2;
    }
item_is_operand depth (suc room) v (inr (inl h)) =
    let n = prefixed_is h.of.first h.of.left in record {
      first = operand_is.Item (item_is.Atomic n.0);
      room = room;
      others = h.of.right.0;
      is = h.is ∙ ap put_name (h.of.is ∙ pair_of n.1 h.of.right.1);
      goes_on = h.of.right.2;
    }
item_is_operand depth (suc room) v (inr (inr h)) =
    let l = run_is run.Local h.of.first h.of.left in
    let w = name_word h.of.first in
    tail_is w (room_inside w room) depth (room_bare w room) l.0 h.of.right.first v h.of.right.second
    (h.is ∙ ap put_word (h.of.is ∙ pair_of l.1 h.of.right.is)) h.of.right.right

from_operand : (depth room : ℕ) (v : Made) → OperandThen depth v → Gives (operand depth room) v
from_operand depth room v o = (piece.Operand o.first ∷ o.others, o.is, operand_then depth room o.room o.first o.others o.goes_on)

nested_gives : (b : Bool) (depth room : ℕ) (v : Made) → H (nested b depth room) v → Gives (operand depth room) v
unfolding nested
nested_gives true depth room v (inl h) = (
  piece.Opening ∷ h.of.right.0,
  h.is ∙ ap (put piece.Opening) (h.of.is ∙ pair_of refl h.of.right.1),
  opening_then depth room room h.of.right.0 h.of.right.2,
)
nested_gives true depth room v (inr h) = from_operand depth room v (item_is_operand depth room v h)
nested_gives false depth room v h = from_operand depth room v (item_is_operand depth room v h)

abbrev GivesBehindUnit : ℕ → Made → Type 0
GivesBehindUnit depth v = (ps : List Piece) × (v ≡ pieces ps) × EndsBehindUnit depth ps

ending_gives : (depth room : ℕ) (v : Made) → H (ending depth room) v → GivesBehindUnit depth v
unfolding ending
ending_gives zero room v h = ([], h.is, end_then)
ending_gives (suc depth) room v h = (
  piece.Closing ∷ h.of.right.0,
  h.is ∙ ap (put piece.Closing) (h.of.is ∙ pair_of refl h.of.right.1),
  closing_then depth room h.of.right.0 h.of.right.2,
)

pub separated_gives : (depth room : ℕ) (v : Made) → H (separated depth room) v → GivesBehindUnit depth v
unfolding separated
separated_gives depth room v (inl h) = (
  piece.Comma ∷ h.of.right.0,
  h.is ∙ ap (put piece.Comma) (h.of.is ∙ pair_of refl h.of.right.1),
  comma_then depth room h.of.right.0 h.of.right.2,
)
separated_gives depth room v (inr (inl h)) = (
  piece.Bar ∷ h.of.right.0,
  h.is ∙ ap (put piece.Bar) (h.of.is ∙ pair_of refl h.of.right.1),
  bar_then depth room h.of.right.0 h.of.right.2,
)
separated_gives depth room v (inr (inr h)) = ending_gives depth room v h

put_mark : (depth room : ℕ) (i : Indicator) (left : Made) (v part second : Made) → v ≡ put (piece.Indicated i) part → part ≡ pair left second → H (separated depth room) second → Gives (behind depth room) v
put_mark depth room i left v part second e f h =
    let s = separated_gives depth room second h in (
      piece.Indicated i ∷ s.0,
      e ∙ ap (put (piece.Indicated i)) (f ∙ pair_of refl s.1),
      mark_then depth room i s.0 s.2,
    )

indicated_gives : (depth room : ℕ) (v : Made) → H (indicated depth room) v → Gives (behind depth room) v
unfolding indicated
indicated_gives depth room v (inl h) = put_mark depth room indicator.Optional h.of.first v h.part h.of.second h.is h.of.is h.of.right
indicated_gives depth room v (inr (inl h)) = put_mark depth room indicator.Star h.of.first v h.part h.of.second h.is h.of.is h.of.right
indicated_gives depth room v (inr (inr (inl h))) = put_mark depth room indicator.Plus h.of.first v h.part h.of.second h.is h.of.is h.of.right
indicated_gives depth room v (inr (inr (inr h))) = let s = separated_gives depth room v h in (s.0, s.1, unmarked_then depth room s.0 s.2)

pub rules_give : (p : Production) (v : Made) → H (rules p) v → Gives p v
rules_give (operand depth room) v h = nested_gives (nat_le (suc depth) 40) depth room v h
rules_give (behind depth room) v h = indicated_gives depth room v h

-- The pieces of a type text are those of a tree.
pub tree_of : (text : List ℕ) (ps : List Piece) → HasPieces text ps → (w : WrittenType) × (type_pieces w ≡ ps)
tree_of text ps has =
    let h = holding type_texts Gives rules_give has.derived in
    let r = h.right.2 nothing_read [] refl in
    let same : pieces ps ≡ pieces h.right.0 = cc (h.is, h.right.1) in
    (r.0, r.1 ∙ sym (cc same))
