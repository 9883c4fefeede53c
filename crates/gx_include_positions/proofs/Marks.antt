-- Sets of the positions of a type, as marks in the type's form.
use Rattle.std.proofs.Common.{◌≡◌, Bool, false, ◌&&◌, ◌||◌, List, [], ◌∷◌, ◌++◌, drop, refl, ap, ◌∙◌}
use Rattle.std.specs.Prelude.{slice_index_or}
use Rattle.gx_types.specs.declared.item_type.ItemType.{ItemType}
use Rattle.gx_types.specs.SequenceType.{SequenceType, never, nothing, item, both, either, optional, star, plus}
use Rattle.gx_types.specs.TypeRules.{positions_of}
use Rattle.gx_include_positions.specs.Positions.{is_nullable, may_end, next_of}

-- a set of the positions of a type: a mark for each item type that stands in it
abbrev pub Marks : SequenceType → Type 0
Marks never = Unit {0}
Marks nothing = Unit {0}
Marks (item kind) = Bool
Marks (both first second) = Marks first × Marks second
Marks (either first second) = Marks first × Marks second
Marks (optional part) = Marks part
Marks (star part) = Marks part
Marks (plus part) = Marks part

-- a list of the type may end at a marked position
abbrev pub marked_end : (t : SequenceType) → Marks t → Bool
marked_end never marks = false
marked_end nothing marks = false
marked_end (item kind) marks = marks
marked_end (both first second) marks = (marked_end first marks.0 && is_nullable second) || marked_end second marks.1
marked_end (either first second) marks = marked_end first marks.0 || marked_end second marks.1
marked_end (optional part) marks = marked_end part marks
marked_end (star part) marks = marked_end part marks
marked_end (plus part) marks = marked_end part marks

-- the positions that may come next behind a marked one, or first where a list of the type may begin here
abbrev pub marked_next : (t : SequenceType) → (begins : Bool) → Marks t → Marks t
marked_next never begins marks = tt
marked_next nothing begins marks = tt
marked_next (item kind) begins marks = begins
marked_next (both first second) begins marks =
    (marked_next first begins marks.0, marked_next second ((begins && is_nullable first) || marked_end first marks.0) marks.1)
marked_next (either first second) begins marks = (marked_next first begins marks.0, marked_next second begins marks.1)
marked_next (optional part) begins marks = marked_next part begins marks
marked_next (star part) begins marks = marked_next part (begins || marked_end part marks) marks
marked_next (plus part) begins marks = marked_next part (begins || marked_end part marks) marks

-- the marked positions whose item type passes a test
abbrev pub kept : (t : SequenceType) → (ItemType → Bool) → Marks t → Marks t
kept never test marks = tt
kept nothing test marks = tt
kept (item kind) test marks = marks && test kind
kept (both first second) test marks = (kept first test marks.0, kept second test marks.1)
kept (either first second) test marks = (kept first test marks.0, kept second test marks.1)
kept (optional part) test marks = kept part test marks
kept (star part) test marks = kept part test marks
kept (plus part) test marks = kept part test marks

-- the marks as flags, in the order of the text
abbrev pub flags_of : (t : SequenceType) → Marks t → List Bool
flags_of never marks = []
flags_of nothing marks = []
flags_of (item kind) marks = marks ∷ []
flags_of (both first second) marks = flags_of first marks.0 ++ flags_of second marks.1
flags_of (either first second) marks = flags_of first marks.0 ++ flags_of second marks.1
flags_of (optional part) marks = flags_of part marks
flags_of (star part) marks = flags_of part marks
flags_of (plus part) marks = flags_of part marks

-- the marks that flags say; a position behind the last flag is not marked
abbrev pub marks_from : (t : SequenceType) → List Bool → Marks t
marks_from never flags = tt
marks_from nothing flags = tt
marks_from (item kind) flags = slice_index_or flags 0 false
marks_from (both first second) flags = (marks_from first flags, marks_from second (drop (positions_of first) flags))
marks_from (either first second) flags = (marks_from first flags, marks_from second (drop (positions_of first) flags))
marks_from (optional part) flags = marks_from part flags
marks_from (star part) flags = marks_from part flags
marks_from (plus part) flags = marks_from part flags

-- the words over flags say the same

pub end_is : (t : SequenceType) (flags : List Bool) → may_end t flags ≡ marked_end t (marks_from t flags)
end_is never flags = refl
end_is nothing flags = refl
end_is (item kind) flags = refl
end_is (both a b) flags =
    ap (λ x. (x && is_nullable b) || may_end b (drop (positions_of a) flags)) (end_is a flags)
    ∙ ap (λ y. (marked_end a (marks_from a flags) && is_nullable b) || y) (end_is b (drop (positions_of a) flags))
end_is (either a b) flags =
    ap (λ x. x || may_end b (drop (positions_of a) flags)) (end_is a flags)
    ∙ ap (λ y. marked_end a (marks_from a flags) || y) (end_is b (drop (positions_of a) flags))
end_is (optional a) flags = end_is a flags
end_is (star a) flags = end_is a flags
end_is (plus a) flags = end_is a flags

next_in_second : (a b : SequenceType) (begins : Bool) (flags : List Bool)
    → ((other : Bool) → next_of b other (drop (positions_of a) flags) ≡ flags_of b (marked_next b other (marks_from b (drop (positions_of a) flags))))
    → next_of b ((begins && is_nullable a) || may_end a flags) (drop (positions_of a) flags)
    ≡ flags_of b (marked_next b ((begins && is_nullable a) || marked_end a (marks_from a flags)) (marks_from b (drop (positions_of a) flags)))
next_in_second a b begins flags f =
    ap (λ x. next_of b ((begins && is_nullable a) || x) (drop (positions_of a) flags)) (end_is a flags)
    ∙ f ((begins && is_nullable a) || marked_end a (marks_from a flags))

pub next_is : (t : SequenceType) (flags : List Bool) (begins : Bool) → next_of t begins flags ≡ flags_of t (marked_next t begins (marks_from t flags))
next_is never flags begins = refl
next_is nothing flags begins = refl
next_is (item kind) flags begins = refl
next_is (both a b) flags begins =
    ap (λ xs. xs ++ next_of b ((begins && is_nullable a) || may_end a flags) (drop (positions_of a) flags)) (next_is a flags begins)
    ∙ ap (λ ys. flags_of a (marked_next a begins (marks_from a flags)) ++ ys) (next_in_second a b begins flags (next_is b (drop (positions_of a) flags)))
next_is (either a b) flags begins =
    ap (λ xs. xs ++ next_of b begins (drop (positions_of a) flags)) (next_is a flags begins)
    ∙ ap (λ ys. flags_of a (marked_next a begins (marks_from a flags)) ++ ys) (next_is b (drop (positions_of a) flags) begins)
next_is (optional a) flags begins = next_is a flags begins
next_is (star a) flags begins = ap (λ x. next_of a (begins || x) flags) (end_is a flags) ∙ next_is a flags (begins || marked_end a (marks_from a flags))
next_is (plus a) flags begins = ap (λ x. next_of a (begins || x) flags) (end_is a flags) ∙ next_is a flags (begins || marked_end a (marks_from a flags))
