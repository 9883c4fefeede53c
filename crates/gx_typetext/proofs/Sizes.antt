-- The type of a type text keeps the limit on positions.
use Rattle.std.proofs.Common.{◌≡◌, ℕ, zero, suc, ◌+◌, ◌-◌, ◌≤◌, List, [], ◌∷◌, ◌++◌, nat_le, Bool, true, false, inl, inr, refl, sym, ap, subst, ◌∙◌, Option, None, Some, if◌then◌else◌, arith}
use Rattle.std.proofs.lemmas.Bool.{leb-true}
use Rattle.gx_base.specs.declared.limits.TheConstants.{TYPE_TEXT_POSITIONS}
use Rattle.gx_types.specs.SchemaSet.{SchemaSet}
use Rattle.gx_types.specs.SequenceType.{SequenceType}
use Rattle.gx_types.specs.TypeRules.{positions_of}
use Rattle.gx_type_laws.specs.Laws.{all_positions}
use Rattle.gx_type_laws.proofs.Positions.{joined_positions, optional_positions, star_positions, plus_positions, choice_positions}
use Rattle.gx_grammar.specs.Value.{nothing as no_value, characters, node, pair, no_item, an_item}
use Rattle.gx_grammar.specs.Grammar.{token, empty, ◌&◌, keyed, choose, many, rule, made}
use Rattle.gx_typetext.specs.declared.written.Inside.{Inside}
use Rattle.gx_typetext.specs.declared.written.Inside.TheVariants as inside
use Rattle.gx_typetext.specs.declared.written.NameWord.{NameWord}
use Rattle.gx_typetext.specs.declared.written.NameWord.TheVariants as word
use Rattle.gx_typetext.specs.declared.written.WrittenItem.{WrittenItem}
use Rattle.gx_typetext.specs.declared.written.WrittenItem.TheVariants as item_is
use Rattle.gx_typetext.specs.declared.written.Operand.{Operand}
use Rattle.gx_typetext.specs.declared.written.Operand.TheVariants as operand_is
use Rattle.gx_typetext.specs.declared.written.Indicator.{Indicator}
use Rattle.gx_typetext.specs.declared.written.Indicator.TheVariants as indicator
use Rattle.gx_typetext.specs.declared.written.Piece.{Piece}
use Rattle.gx_typetext.specs.declared.written.Piece.TheVariants as piece
use Rattle.gx_typetext.specs.Nodes.{Made, Named, MaybeNamed, Content, Pieces, pieces, name_word, put, put_name, put_word, put_empty, with_inside, bare, declared_inside}
use Rattle.gx_typetext.specs.Grammar.{Production, operand, behind, TypePhrase, word_content, tested, declared, room_inside, room_bare, tail, behind_word, item, nested, ending, separated, indicated, rules, type_texts}
use Rattle.gx_typetext.specs.KnownNames.{written_item_type, written_operand_type}
use Rattle.gx_typetext.specs.TextLaws.{TypeTextsAreShort}
use Rattle.gx_typetext.specs.Reading.{HasPieces}
use Rattle.gx_typetext.specs.WrittenTypes.{WrittenType, only_choice, then_choice, WrittenChoice, only_unit, or_unit, WrittenUnit, single, in_parentheses, type_pieces, choice_pieces, unit_pieces, indicator_pieces, with_indicator, choice_of_units, written_type, choice_members, unit_type}
use Rattle.gx_typetext.proofs.Holding.{Holds, holding}
use Rattle.gx_typetext.proofs.Trees.{Gives, separated_gives, rules_give}

-- how many positions are written

item_positions : WrittenItem → ℕ
item_positions item_is.AnyNode = 4
item_positions item_is.AnyItem = 5
item_positions _ = 1

operand_positions : Operand → ℕ
operand_positions operand_is.Never = 0
operand_positions operand_is.Empty = 0
operand_positions (operand_is.Item kind) = item_positions kind

piece_positions : Piece → ℕ
piece_positions (piece.Operand o) = operand_positions o
piece_positions _ = 0

positions_written : List Piece → ℕ
positions_written [] = 0
positions_written (p ∷ ps) = piece_positions p + positions_written ps

-- what holds of parts holds of what follows from it

module _ {P Q : Production → Made → Type 0} (f : (p : Production) (v : Made) → P p v → Q p v) where
  holds_too : (A : TypePhrase) (v : Made) → Holds type_texts P A v → Holds type_texts Q A v
  holds_too (token t) v h = h
  holds_too empty v h = h
  holds_too (A & B) v h = record { first = h.first; second = h.second; is = h.is; left = holds_too A h.first h.left; right = holds_too B h.second h.right }
  holds_too (keyed t g) v h = record { first = h.first; second = h.second; is = h.is; left = h.left; right = holds_too (g h.first) h.second h.right }
  holds_too (choose g A B) v (inl h) = inl (holds_too A v h)
  holds_too (choose g A B) v (inr h) = inr (holds_too B v h)
  holds_too (many g A) v h = h
  holds_too (rule p) v h = f p v h
  holds_too (made g A) v h = record { left = h.left; part = h.part; is = h.is; of = holds_too A h.part h.of }

-- no more positions are written than are left

room_of : Production → ℕ
room_of (operand depth room) = room
room_of (behind depth room) = room

abbrev Fits : Production → Made → Type 0
Fits p v = Gives p v × ((ps : List Piece) → v ≡ pieces ps → positions_written ps ≤ room_of p)

abbrev H : TypePhrase → Made → Type 0
H = Holds type_texts Fits

-- of what is put together

name_put : (x : Made) (qs ps : List Piece) → put_name (pair x (pieces qs)) ≡ pieces ps → positions_written ps ≡ 1 + positions_written qs
unfolding positions_written piece_positions operand_positions item_positions
name_put (node (Named n)) qs ps e = let same : piece.Operand (operand_is.Item (item_is.Atomic n)) ∷ qs ≡ ps = cc e in sym (ap positions_written same)
name_put (node (MaybeNamed n)) qs ps e = absurd (cc e)
name_put (node (Content c)) qs ps e = absurd (cc e)
name_put (node (Pieces c)) qs ps e = absurd (cc e)
name_put no_value qs ps e = absurd (cc e)
name_put (characters c) qs ps e = absurd (cc e)
name_put (pair a b) qs ps e = absurd (cc e)
name_put no_item qs ps e = absurd (cc e)
name_put (an_item a b) qs ps e = absurd (cc e)

bare_put : (x g : Made) (qs ps : List Piece) → put_word (pair x (pair g (pieces qs))) ≡ pieces ps → (l : List ℕ) × (piece.Operand (bare (name_word x) l) ∷ qs ≡ ps)
bare_put (characters l) g qs ps e = (l, cc e)
bare_put (node n) g qs ps e = absurd (cc e)
bare_put no_value g qs ps e = absurd (cc e)
bare_put (pair a b) g qs ps e = absurd (cc e)
bare_put no_item g qs ps e = absurd (cc e)
bare_put (an_item a b) g qs ps e = absurd (cc e)

word_put : (x g c : Made) (qs ps : List Piece) → put_word (pair x (pair g (pair c (pieces qs)))) ≡ pieces ps → (i : Inside) × (c ≡ node (Content i)) × (piece.Operand (with_inside (name_word x) i) ∷ qs ≡ ps)
word_put (characters l) g (node (Content i)) qs ps e = (i, refl, cc e)
word_put (characters l) g (node (Named i)) qs ps e = absurd (cc e)
word_put (characters l) g (node (MaybeNamed i)) qs ps e = absurd (cc e)
word_put (characters l) g (node (Pieces i)) qs ps e = absurd (cc e)
word_put (characters l) g no_value qs ps e = absurd (cc e)
word_put (characters l) g (characters k) qs ps e = absurd (cc e)
word_put (characters l) g (pair a b) qs ps e = absurd (cc e)
word_put (characters l) g no_item qs ps e = absurd (cc e)
word_put (characters l) g (an_item a b) qs ps e = absurd (cc e)
word_put (node n) g c qs ps e = absurd (cc e)
word_put no_value g c qs ps e = absurd (cc e)
word_put (pair a b) g c qs ps e = absurd (cc e)
word_put no_item g c qs ps e = absurd (cc e)
word_put (an_item a b) g c qs ps e = absurd (cc e)

-- an operand takes what its room is less

bare_fits : (w : NameWord) (l : List ℕ) (room : ℕ) → operand_positions (bare w l) + room_bare w room ≤ suc room
unfolding operand_positions item_positions
bare_fits word.Never l room = omega arith
bare_fits word.Empty l room = omega arith
bare_fits word.Node l room = omega arith
bare_fits word.Item l room = omega arith
bare_fits word.Text l room = omega arith
bare_fits word.Document l room = omega arith
bare_fits word.Element l room = omega arith
bare_fits word.Attribute l room = omega arith
bare_fits word.Schema l room = omega arith
bare_fits word.Other l room = omega arith

-- what stands in the parentheses is what belongs there
IsInsideOf : NameWord → Inside → Type 0
IsInsideOf word.Element (inside.Test t) = Unit {0}
IsInsideOf word.Element _ = ⊥
IsInsideOf word.Attribute (inside.Test t) = Unit {0}
IsInsideOf word.Attribute _ = ⊥
IsInsideOf word.Schema (inside.Declared n) = Unit {0}
IsInsideOf word.Schema _ = ⊥
IsInsideOf _ i = Unit {0}

declared_part : (o x c : Made) (i : Inside) → declared_inside (pair o (pair x c)) ≡ node (Content i) → IsInsideOf word.Schema i
unfolding IsInsideOf
declared_part o (node (Named n)) c i e = let same : inside.Declared n ≡ i = cc e in subst (IsInsideOf word.Schema) same tt
declared_part o (node (MaybeNamed n)) c i e = absurd (cc e)
declared_part o (node (Content n)) c i e = absurd (cc e)
declared_part o (node (Pieces n)) c i e = absurd (cc e)
declared_part o no_value c i e = absurd (cc e)
declared_part o (characters l) c i e = absurd (cc e)
declared_part o (pair a b) c i e = absurd (cc e)
declared_part o no_item c i e = absurd (cc e)
declared_part o (an_item a b) c i e = absurd (cc e)

inside_is : (w : NameWord) (c : Made) (i : Inside) → H (word_content w) c → c ≡ node (Content i) → IsInsideOf w i
unfolding IsInsideOf word_content tested declared
inside_is word.Element c i h e = let same : inside.Test (Rattle.gx_typetext.specs.Nodes.test_written h.part) ≡ i = cc (h.is, e) in subst (IsInsideOf word.Element) same tt
inside_is word.Attribute c i h e = let same : inside.Test (Rattle.gx_typetext.specs.Nodes.test_written h.part) ≡ i = cc (h.is, e) in subst (IsInsideOf word.Attribute) same tt
inside_is word.Schema c i h e =
    let p = h.of in
    let q = p.right in
    declared_part p.first q.first q.second i (ap declared_inside (sym (p.is ∙ ap (λ x. pair p.first x) q.is)) ∙ sym h.is ∙ e)
inside_is word.Never c i h e = tt
inside_is word.Empty c i h e = tt
inside_is word.Node c i h e = tt
inside_is word.Item c i h e = tt
inside_is word.Text c i h e = tt
inside_is word.Document c i h e = tt
inside_is word.Other c i h e = tt

if_some : (b : Bool) (m n : ℕ) → (if b then Some m else None) ≡ Some n → (b ≡ true) × (m ≡ n)
if_some true m n e = (refl, cc e)
if_some false m n e = absurd (cc e)

word_fits : (w : NameWord) (i : Inside) (room rest : ℕ) → room_inside w room ≡ Some rest → IsInsideOf w i → operand_positions (with_inside w i) + rest ≤ suc room
unfolding operand_positions item_positions IsInsideOf
word_fits word.Never i room rest e h = absurd (cc e)
word_fits word.Other i room rest e h = absurd (cc e)
word_fits word.Empty i room rest e h = let same : suc room ≡ rest = cc e in omega arith
word_fits word.Node i room rest e h = let k = if_some (nat_le 3 room) (room - 3) rest e in let l = leb-true 3 room k.0 in omega (arith, k.1, l)
word_fits word.Item i room rest e h = let k = if_some (nat_le 4 room) (room - 4) rest e in let l = leb-true 4 room k.0 in omega (arith, k.1, l)
word_fits word.Text i room rest e h = let same : room ≡ rest = cc e in omega arith
word_fits word.Document inside.Nothing room rest e h = let same : room ≡ rest = cc e in omega arith
word_fits word.Document (inside.Test t) room rest e h = let same : room ≡ rest = cc e in omega arith
word_fits word.Document (inside.Element t) room rest e h = let same : room ≡ rest = cc e in omega arith
word_fits word.Document (inside.Declared n) room rest e h = let same : room ≡ rest = cc e in omega arith
word_fits word.Element (inside.Test t) room rest e h = let same : room ≡ rest = cc e in omega arith
word_fits word.Element inside.Nothing room rest e h = absurd h
word_fits word.Element (inside.Element t) room rest e h = absurd h
word_fits word.Element (inside.Declared n) room rest e h = absurd h
word_fits word.Attribute (inside.Test t) room rest e h = let same : room ≡ rest = cc e in omega arith
word_fits word.Attribute inside.Nothing room rest e h = absurd h
word_fits word.Attribute (inside.Element t) room rest e h = absurd h
word_fits word.Attribute (inside.Declared n) room rest e h = absurd h
word_fits word.Schema (inside.Declared n) room rest e h = let same : room ≡ rest = cc e in omega arith
word_fits word.Schema inside.Nothing room rest e h = absurd h
word_fits word.Schema (inside.Test t) room rest e h = absurd h
word_fits word.Schema (inside.Element t) room rest e h = absurd h

-- the pieces of a production

IsShort : ℕ → Made → Type 0
IsShort room v = (ps : List Piece) → v ≡ pieces ps → positions_written ps ≤ room

-- a piece without positions in front
put_short : (room : ℕ) (p : Piece) (v part first second : Made) → piece_positions p ≡ 0 → v ≡ put p part → part ≡ pair first second → (qs : List Piece) → second ≡ pieces qs
    → IsShort room second → IsShort room v
unfolding IsShort positions_written
put_short room p v part first second none e f qs g h ps k =
    let same : pieces (p ∷ qs) ≡ pieces ps = ap (λ x. put p (pair first x)) (sym g) ∙ ap (put p) (sym f) ∙ sym e ∙ k in
    let is : p ∷ qs ≡ ps = cc same in
    omega (arith, h qs g, none, ap positions_written is)

-- a name without parentheses, and what is behind it
bare_short : (w : NameWord) (room : ℕ) (x g z v : Made) → w ≡ name_word x → v ≡ put_word (pair x (pair g z)) → (qs : List Piece) → z ≡ pieces qs → positions_written qs ≤ room_bare w room → IsShort (suc room) v
unfolding IsShort positions_written piece_positions
bare_short w room x g z v e f qs is few ps k =
    let b = bare_put x g qs ps (ap (λ y. put_word (pair x (pair g y))) (sym is) ∙ sym f ∙ k) in
    let fits = subst (λ y. operand_positions (bare y b.0) + room_bare w room ≤ suc room) e (bare_fits w b.0 room) in
    omega (arith, fits, few, ap positions_written b.1)

-- a word with what is in its parentheses, and what is behind it
inside_short : (w : NameWord) (room rest : ℕ) (x g c z v : Made) → w ≡ name_word x → v ≡ put_word (pair x (pair g (pair c z))) → room_inside w room ≡ Some rest → H (word_content w) c
    → (qs : List Piece) → z ≡ pieces qs → positions_written qs ≤ rest → IsShort (suc room) v
unfolding IsShort positions_written piece_positions
inside_short w room rest x g c z v e f r h qs is few ps k =
    let b = word_put x g c qs ps (ap (λ y. put_word (pair x (pair g (pair c y)))) (sym is) ∙ sym f ∙ k) in
    let fits = subst (λ y. operand_positions (with_inside y b.0) + rest ≤ suc room) e (word_fits w b.0 room rest r (inside_is w c b.0 h b.1)) in
    omega (arith, fits, few, ap positions_written b.2)

tail_short : (w : NameWord) (room depth : ℕ) (o : Option ℕ) (x g z v : Made) → w ≡ name_word x → v ≡ put_word (pair x (pair g z)) → room_inside w room ≡ o
    → H (tail w o depth (room_bare w room)) z → IsShort (suc room) v
unfolding tail room_of
tail_short w room depth None x g z v e f r h = bare_short w room x g z v e f h.0.0 h.0.1 (h.1 h.0.0 h.0.1)
tail_short w room depth (Some rest) x g z v e f r (inl h) =
    inside_short w room rest x g h.first h.second v e (f ∙ ap (λ y. put_word (pair x (pair g y))) h.is) r h.left h.right.0.0 h.right.0.1 (h.right.1 h.right.0.0 h.right.0.1)
tail_short w room depth (Some rest) x g z v e f r (inr h) = bare_short w room x g z v e f h.0.0 h.0.1 (h.1 h.0.0 h.0.1)

-- a name and what is behind it
name_short : (room : ℕ) (v part first second : Made) → v ≡ put_name part → part ≡ pair first second → (qs : List Piece) → second ≡ pieces qs → positions_written qs ≤ room → IsShort (suc room) v
unfolding IsShort
name_short room v part first second e f qs g few ps k =
    let n = name_put first qs ps (ap (λ x. put_name (pair first x)) (sym g) ∙ ap put_name (sym f) ∙ sym e ∙ k) in omega (arith, n, few)

item_short : (depth room : ℕ) (v : Made) → H (item depth room) v → IsShort room v
unfolding item behind_word IsShort positions_written piece_positions operand_positions room_of
item_short depth zero v (inl h) = put_short 0 (piece.Operand operand_is.Never) v h.part h.of.first h.of.second refl h.is h.of.is h.of.right.0.0 h.of.right.0.1 h.of.right.1
item_short depth zero v (inr h) = λ ps k.
    let p = h.of.right in
    let q = p.right.0 in
    let same : pieces (piece.Operand operand_is.Empty ∷ q.0) ≡ pieces ps =
    ap (λ x. put_empty (pair h.of.first (pair p.first x))) (sym q.1) ∙ ap (λ x. put_empty (pair h.of.first x)) (sym p.is) ∙ ap put_empty (sym h.of.is) ∙ sym h.is ∙ k in
    let is : piece.Operand operand_is.Empty ∷ q.0 ≡ ps = cc same in
    omega (arith, p.right.1 q.0 q.1, ap positions_written is)
item_short depth (suc room) v (inl h) = name_short room v h.part h.of.first h.of.second h.is h.of.is h.of.right.0.0 h.of.right.0.1 (h.of.right.1 h.of.right.0.0 h.of.right.0.1)
item_short depth (suc room) v (inr (inl h)) = name_short room v h.part h.of.first h.of.second h.is h.of.is h.of.right.0.0 h.of.right.0.1 (h.of.right.1 h.of.right.0.0 h.of.right.0.1)
item_short depth (suc room) v (inr (inr h)) =
    let p = h.of in
    let q = p.right in
    let w = name_word p.first in
    tail_short w room depth (room_inside w room) p.first q.first q.second v refl (h.is ∙ ap put_word (p.is ∙ ap (λ x. pair p.first x) q.is)) refl q.right

nested_short : (b : Bool) (depth room : ℕ) (v : Made) → H (nested b depth room) v → IsShort room v
unfolding nested room_of IsShort piece_positions
nested_short true depth room v (inl h) = put_short room piece.Opening v h.part h.of.first h.of.second refl h.is h.of.is h.of.right.0.0 h.of.right.0.1 h.of.right.1
nested_short true depth room v (inr h) = item_short depth room v h
nested_short false depth room v h = item_short depth room v h

ending_short : (depth room : ℕ) (v : Made) → H (ending depth room) v → IsShort room v
unfolding ending room_of IsShort piece_positions positions_written
ending_short zero room v h = λ ps k. let same : pieces [] ≡ pieces ps = sym h.is ∙ k in let is : [] ≡ ps = cc same in omega (arith, ap positions_written is)
ending_short (suc depth) room v h = put_short room piece.Closing v h.part h.of.first h.of.second refl h.is h.of.is h.of.right.0.0 h.of.right.0.1 h.of.right.1

separated_short : (depth room : ℕ) (v : Made) → H (separated depth room) v → IsShort room v
unfolding separated room_of IsShort piece_positions
separated_short depth room v (inl h) = put_short room piece.Comma v h.part h.of.first h.of.second refl h.is h.of.is h.of.right.0.0 h.of.right.0.1 h.of.right.1
separated_short depth room v (inr (inl h)) = put_short room piece.Bar v h.part h.of.first h.of.second refl h.is h.of.is h.of.right.0.0 h.of.right.0.1 h.of.right.1
separated_short depth room v (inr (inr h)) = ending_short depth room v h

-- what is behind an indicator is pieces
behind_mark : (depth room : ℕ) (v : Made) → H (separated depth room) v → (qs : List Piece) × (v ≡ pieces qs)
behind_mark depth room v h = let g = separated_gives depth room v (holds_too (λ p u k. k.0) (separated depth room) v h) in (g.0, g.1)

mark_short : (depth room : ℕ) (i : Indicator) (v part first second : Made) → v ≡ put (piece.Indicated i) part → part ≡ pair first second → H (separated depth room) second → IsShort room v
unfolding piece_positions
mark_short depth room i v part first second e f h =
    let qs = behind_mark depth room second h in put_short room (piece.Indicated i) v part first second refl e f qs.0 qs.1 (separated_short depth room second h)

indicated_short : (depth room : ℕ) (v : Made) → H (indicated depth room) v → IsShort room v
unfolding indicated
indicated_short depth room v (inl h) = mark_short depth room indicator.Optional v h.part h.of.first h.of.second h.is h.of.is h.of.right
indicated_short depth room v (inr (inl h)) = mark_short depth room indicator.Star v h.part h.of.first h.of.second h.is h.of.is h.of.right
indicated_short depth room v (inr (inr (inl h))) = mark_short depth room indicator.Plus v h.part h.of.first h.of.second h.is h.of.is h.of.right
indicated_short depth room v (inr (inr (inr h))) = separated_short depth room v h

rules_short : (p : Production) (v : Made) → H (rules p) v → IsShort (room_of p) v
unfolding room_of
rules_short (operand depth room) v h = nested_short (nat_le (suc depth) 40) depth room v h
rules_short (behind depth room) v h = indicated_short depth room v h

rules_fit : (p : Production) (v : Made) → H (rules p) v → Fits p v
unfolding IsShort
rules_fit p v h = (rules_give p v (holds_too (λ q u k. k.0) (rules p) v h), rules_short p v h)

few_positions : (text : List ℕ) (ps : List Piece) → HasPieces text ps → positions_written ps ≤ 1024
unfolding room_of
few_positions text ps has =
    let h = holding type_texts Fits rules_fit has.derived in
    let same : pieces ps ≡ h.second = cc (h.is) in
    h.right.1 ps (sym same)

-- a type has no more positions than are written

positions_both : (ps qs : List Piece) → positions_written (ps ++ qs) ≡ positions_written ps + positions_written qs
unfolding positions_written
positions_both [] qs = omega arith
positions_both (p ∷ ps) qs = omega (arith, positions_both ps qs)

indicator_short : (i : Option Indicator) (a : SequenceType) → positions_of (with_indicator i a) ≤ positions_of a
indicator_short None a = omega arith
indicator_short (Some indicator.Optional) a = optional_positions a
indicator_short (Some indicator.Star) a = star_positions a
indicator_short (Some indicator.Plus) a = plus_positions a

units_short : (ts : List SequenceType) → positions_of (choice_of_units ts) ≤ all_positions ts
units_short [] = omega arith
units_short (t ∷ []) = omega arith
units_short (t ∷ u ∷ ts) = choice_positions (t ∷ u ∷ ts)

positions_push : (ts : List SequenceType) (t : SequenceType) → all_positions (ts ++ t ∷ []) ≡ all_positions ts + positions_of t
positions_push [] t = omega arith
positions_push (u ∷ ts) t = omega (arith, positions_push ts t)

module _ (s : SchemaSet) where
  item_short_too : (k : WrittenItem) → positions_of (written_item_type s k) ≤ item_positions k
  unfolding item_positions
  item_short_too item_is.AnyNode = omega arith
  item_short_too item_is.AnyItem = omega arith
  item_short_too item_is.Text = omega arith
  item_short_too item_is.Document = omega arith
  item_short_too (item_is.DocumentOf t) = omega arith
  item_short_too (item_is.DocumentOfDeclared n) = omega arith
  item_short_too (item_is.Element t) = omega arith
  item_short_too (item_is.Attribute t) = omega arith
  item_short_too (item_is.Declared n) = omega arith
  item_short_too (item_is.Atomic n) = omega arith

  operand_short : (o : Operand) → positions_of (written_operand_type s o) ≤ operand_positions o
  unfolding operand_positions
  operand_short operand_is.Never = omega arith
  operand_short operand_is.Empty = omega arith
  operand_short (operand_is.Item k) = item_short_too k

  no_positions : (i : Option Indicator) → positions_written (indicator_pieces i) ≡ 0
  unfolding positions_written piece_positions
  no_positions None = refl
  no_positions (Some i) = refl

  mutual
    unfolding positions_written piece_positions

    type_short : (w : WrittenType) → positions_of (written_type s w) ≤ positions_written (type_pieces w)
    type_short (only_choice c) = omega (arith, units_short (choice_members s c), written_choice_short c)
    type_short (then_choice w c) =
        omega (
          arith,
          type_short w,
          units_short (choice_members s c),
          written_choice_short c,
          joined_positions (written_type s w) (choice_of_units (choice_members s c)),
          positions_both (type_pieces w) (piece.Comma ∷ choice_pieces c),
        )

    written_choice_short : (c : WrittenChoice) → all_positions (choice_members s c) ≤ positions_written (choice_pieces c)
    written_choice_short (only_unit u) = omega (arith, unit_short u)
    written_choice_short (or_unit c u) =
        omega (arith, written_choice_short c, unit_short u, positions_push (choice_members s c) (unit_type s u), positions_both (choice_pieces c) (piece.Bar ∷ unit_pieces u))

    unit_short : (u : WrittenUnit) → positions_of (unit_type s u) ≤ positions_written (unit_pieces u)
    unit_short (single o i) = omega (arith, indicator_short i (written_operand_type s o), operand_short o, no_positions i)
    unit_short (in_parentheses w i) =
        omega (arith, indicator_short i (written_type s w), type_short w, no_positions i, positions_both (piece.Opening ∷ type_pieces w) (piece.Closing ∷ indicator_pieces i))

pub type_texts_are_short : TypeTextsAreShort
type_texts_are_short s text t h =
    subst (λ u. positions_of u ≤ TYPE_TEXT_POSITIONS) (sym h.stands_for) (omega (arith, type_short s h.written, few_positions text (type_pieces h.written) h.has))
