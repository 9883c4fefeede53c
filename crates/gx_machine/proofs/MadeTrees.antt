-- Constructors over the store come to what they mean.
use Rattle.std.proofs.Common.{◌≡◌, ◌==◌, ◌<◌, arith, ◌⊎◌, inl, inr, ℕ, zero, suc, Bool, true, false, List, [], ◌∷◌, ◌++◌, length, drop, take, append-nil, Option, None, Some, refl, sym, ◌∙◌, ap, subst, append_assoc, get_or}
use Rattle.std.specs.Prelude.{Vec, MatchOption, All}
use Rattle.std.specs.Global.{Global}
use Rattle.std.specs.Option.{option_map}
use Rattle.std.proofs.lemmas.Bool.{eqb-true, true≢false}
use Rattle.std.proofs.lemmas.List.{nil_from_length}
use Rattle.gx_base.specs.declared.code.Code.{Code}
use Rattle.gx_base.specs.declared.name.Name.{Name}
use Rattle.gx_facets.specs.declared.Atomic.{Atomic}
use Rattle.gx_facets.specs.Value.{printed_value}
use Rattle.gx_types.specs.SchemaSet.{SchemaSet}
use Rattle.gx_tree.specs.PlainTree.{PlainTree, document, element, attribute, text}
use Rattle.gx_model.specs.Atomization.{atomized}
use Rattle.gx_model.specs.Forest.{Forest, PlainNode, then_found}
use Rattle.gx_model.specs.Growth.{Extends}
use Rattle.gx_model.specs.Item.{Items, node}
use Rattle.gx_model.proofs.PublicLaws.{growth_is_an_order}
use Rattle.gx_nodes.specs.Entries.{NodeEntry, entries_of, entries_from, node_entries, count_in, beyond, place_of_number}
use Rattle.gx_nodes.proofs.FoundLemmas.{entries_grow, entry_stays}
use Rattle.gx_store.specs.declared.number.NodeId.{NodeId}
use Rattle.gx_store.specs.Places.{node_places}
use Rattle.gx_core.specs.Comparing.{atoms_among}
use Rattle.gx_core.specs.Constructing.{Built, built_tree, repeated_name, too_deep, wrong_content, built, document_built, attribute_built}
use Rattle.gx_core.specs.Constructing.{root_of_tree, tree_appended, built_outcome, text_outcome, constructor_outcome, texts_of_parts, joined_texts, spaced_values}
use Rattle.gx_core.specs.declared.constructor.Constructor.{Constructor}
use Rattle.gx_core.specs.declared.constructor.Constructor.TheVariants as constructors
use Rattle.gx_core.specs.Outcome.{Outcome, gives, raises, wrong, after, given}
use Rattle.gx_core.proofs.HonestTrees.{constructors_keep_forests_honest}
use Rattle.gx_store.specs.declared.item.Item.{Item}
use Rattle.gx_store.specs.Items.{items_in}
use Rattle.gx_build.specs.Parts.{parts_in}
use Rattle.gx_build.specs.Made.{IsMade, RefusesTree}
use Rattle.gx_build.specs.declared.error.BuildError.{BuildError}
use Rattle.gx_build.specs.declared.error.BuildError.TheVariants as errors
use Rattle.gx_machine.specs.BuildFailures.{failure_of}
use Rattle.gx_machine.specs.Failing.{FailsSo}
use Rattle.gx_machine.specs.Growing.{GrowsHonestly}
use Rattle.gx_machine.specs.Resume.{between_marks}
use Rattle.gx_machine.specs.declared.failure.Failure.{Failure}
use Rattle.gx_machine.specs.declared.failure.Failure.TheVariants.{Raised, Wrong, Memory}

-- ---- the root of the tree behind the others

first_place : (number : ℕ) (t : PlainTree) (others : List NodeEntry) (d : NodeEntry) → (get_or (entries_of number [] 0 t ++ others) 0 d).place ≡ root_of_tree number
first_place number (document ts) others d = refl
first_place number (element name kind l ts) others d = refl
first_place number (attribute a) others d = refl
first_place number (text x) others d = refl

behind_entries : (xs ys : List NodeEntry) (d : NodeEntry) → get_or (xs ++ ys) (length xs) d ≡ get_or ys 0 d
behind_entries [] ys d = refl
behind_entries (x ∷ xs) ys d = behind_entries xs ys d

place_behind : (before more : Forest) (t : PlainTree) → place_of_number (before ++ t ∷ more) (count_in before) ≡ root_of_tree (length before)
place_behind before more t =
    let d : NodeEntry = beyond (before ++ t ∷ more) (count_in before) in
    ap (λ (es : List NodeEntry). (get_or es (count_in before) d).place) (entries_grow before (t ∷ more))
    ∙ ap (λ (e : NodeEntry). e.place) (behind_entries (node_entries before) (entries_from (length before) (t ∷ more)) d)
    ∙ first_place (length before) t (entries_from (suc (length before)) more) d

root_place : (before later : Forest) (t : PlainTree) → Extends (before ++ t ∷ []) later → place_of_number later (count_in before) ≡ root_of_tree (length before)
root_place before later t x =
    ap (λ (f : Forest). place_of_number f (count_in before)) (x.is ∙ append_assoc before (t ∷ []) x.more) ∙ place_behind before x.more t

pub appended_gives : (before now later : Forest) (t : PlainTree) (number : ℕ) → now ≡ before ++ t ∷ [] → number ≡ count_in before → Extends now later
    → tree_appended t before ≡ gives (node (place_of_number later number) ∷ []) now
appended_gives before now later t number e n x =
    let place : place_of_number later number ≡ root_of_tree (length before) =
    ap (place_of_number later) n ∙ root_place before later t (subst (λ (f : Forest). Extends f later) e x) in
    ap (λ (p : PlainNode). gives (node p ∷ []) (before ++ t ∷ [])) (sym place) ∙ ap (λ (f : Forest). gives (node (place_of_number later number) ∷ []) f) (sym e)

pub made_gives : (before now later : Forest) (number : ℕ) (b : Built) → IsMade before now number b → Extends now later
    → built_outcome b before ≡ gives (node (place_of_number later number) ∷ []) now
made_gives before now later number (built_tree t) m x = appended_gives before now later t number m.0 m.1 x
made_gives before now later number repeated_name m x = absurd m
made_gives before now later number too_deep m x = absurd m
made_gives before now later number wrong_content m x = absurd m

pub made_extends : (before now : Forest) (number : ℕ) (b : Built) → IsMade before now number b → Extends before now
made_extends before now number (built_tree t) m = record { more = t ∷ []; is = m.0 }
made_extends before now number repeated_name m = absurd m
made_extends before now number too_deep m = absurd m
made_extends before now number wrong_content m = absurd m

pub refused_fails : (forest : Forest) (error : BuildError) (b : Built) → RefusesTree error b → FailsSo (failure_of error) (built_outcome b forest)
refused_fails forest errors.Memory b r = tt
refused_fails forest errors.DuplicateAttribute b r = ap (λ (c : Built). built_outcome c forest) r
refused_fails forest errors.TooDeep b r = ap (λ (c : Built). built_outcome c forest) r
refused_fails forest errors.WrongContent b r = ap (λ (c : Built). built_outcome c forest) r

-- ---- the forest grows by honest trees

pub extends_itself : (forest : Forest) → Extends forest forest
extends_itself = growth_is_an_order.reflexive

pub stays_as_it_is : (schemas : SchemaSet) (forest : Forest) → GrowsHonestly schemas forest forest
stays_as_it_is schemas forest = record { extends = extends_itself forest; honest = λ h. h }

pub same_grows : (schemas : SchemaSet) (before now : Forest) → now ≡ before → GrowsHonestly schemas before now
same_grows schemas before now e = subst (GrowsHonestly schemas before) (sym e) (stays_as_it_is schemas before)

pub grows_on : (schemas : SchemaSet) (first second third : Forest) → GrowsHonestly schemas first second → (third ≡ second) ⊎ GrowsHonestly schemas second third → GrowsHonestly schemas first third
grows_on schemas first second third g (inl e) = subst (GrowsHonestly schemas first) (sym e) g
grows_on schemas first second third g (inr h) = record {
  extends = growth_is_an_order.transitive first second third g.extends h.extends;
  honest = λ honest. h.honest (g.honest honest);
}

-- what a constructor leaves has grown so
pub given_grows : (schemas : SchemaSet) (constructor : Constructor) (parts : List Items) (before now : Forest) (result : Items)
    → Extends before now → constructor_outcome schemas constructor parts before ≡ gives result now → GrowsHonestly schemas before now
given_grows schemas constructor parts before now result x e = record {
  extends = x;
  honest = λ h. (constructors_keep_forests_honest schemas constructor parts before now result e h).1;
}

-- ---- operands between marks

pub one_taken : (n m : ℕ) (marks : List ℕ) (mark : ℕ) (below : List ℕ) (values front rest : Items) (operands : List Items) (next : List Items → List ℕ → Items → Outcome Items)
    → n ≡ suc m → marks ≡ mark ∷ below → front ≡ take mark values → rest ≡ drop mark values
    → between_marks m below front (rest ∷ operands) next ≡ between_marks n marks values operands next
one_taken n m marks mark below values front rest operands next e f g h =
    (λ i. between_marks m below (g i) (h i ∷ operands) next) ∙ sym (λ i. between_marks (e i) (f i) values operands next)

pub none_left : (n m : ℕ) (marks : List ℕ) (values : Items) (operands : List Items) (next : List Items → List ℕ → Items → Outcome Items)
    → n ≡ suc m → marks ≡ [] → between_marks n marks values operands next ≡ wrong
none_left n m marks values operands next e f = λ i. between_marks (e i) (f i) values operands next

pub all_taken : (n : ℕ) (marks : List ℕ) (values : Items) (operands : List Items) (next : List Items → List ℕ → Items → Outcome Items)
    → n ≡ 0 → between_marks n marks values operands next ≡ next operands marks values
all_taken n marks values operands next e = λ i. between_marks (e i) marks values operands next

-- ---- texts

never_wrong : (xs : Items) (forest : Forest) → gives xs forest ≡ wrong → ⊥
never_wrong xs forest e = cc

never_raised : (xs : Items) (forest : Forest) (code : Code) → gives xs forest ≡ raises code → ⊥
never_raised xs forest code e = cc

pub values_fail : (forest : Forest) (failure : Failure) (found : Option Items) (next : List Atomic → Outcome Items) → FailsSo failure (given found (λ typed. gives typed forest))
    → FailsSo failure (given (then_found found atoms_among) next)
values_fail forest Memory found next h = tt
values_fail forest Wrong None next h = refl
values_fail forest Wrong (Some typed) next h = absurd (never_wrong typed forest h)
values_fail forest (Raised code) None next h = absurd (cc)
values_fail forest (Raised code) (Some typed) next h = absurd (never_raised typed forest code h)

pub no_values : (found : Option Items) (typed : Items) (next : List Atomic → Outcome Items) → found ≡ Some typed → atoms_among typed ≡ None → given (then_found found atoms_among) next ≡ wrong
no_values found typed next e f = (λ i. given (then_found (e i) atoms_among) next) ∙ ap (λ (o : Option (List Atomic)). given o next) f

pub text_fails : (failure : Failure) (found : Option (List Atomic)) (next : List ℕ → Outcome Items)
    → ((after' : List Atomic → Outcome Items) → FailsSo failure (given found after')) → FailsSo failure (given (option_map spaced_values found) next)
text_fails failure None next h = h (λ values. next (spaced_values values))
text_fails failure (Some values) next h = h (λ values. next (spaced_values values))

pub text_is_put : (old now : List ℕ) (found : Option (List Atomic)) (values : List Atomic) → found ≡ Some values → now ≡ old ++ spaced_values values
    → joined_texts (Some old) (option_map spaced_values found) ≡ Some now
text_is_put old now found values e f = ap (λ (o : Option (List Atomic)). joined_texts (Some old) (option_map spaced_values o)) e ∙ ap (λ (x : List ℕ). Some x) (sym f)

-- a part behind the texts of others, in front of those of the parts that are left
pub one_more_text : (old now : List ℕ) (part others : Option (List ℕ)) → joined_texts (Some old) part ≡ Some now → joined_texts (Some now) others ≡ joined_texts (Some old) (joined_texts part others)
one_more_text old now None others e = absurd (cc)
one_more_text old now (Some x) None e = refl
one_more_text old now (Some x) (Some y) e = let same : old ++ x ≡ now = cc in ap (λ (z : List ℕ). Some (z ++ y)) (sym same) ∙ ap (λ (z : List ℕ). Some z) (append_assoc old x y)

pub part_fails : (failure : Failure) (old : List ℕ) (part others all : Option (List ℕ)) (next : List ℕ → Outcome Items) → joined_texts (Some old) (joined_texts part others) ≡ all
    → ((after' : List ℕ → Outcome Items) → FailsSo failure (given part after')) → FailsSo failure (given all next)
part_fails failure old None others all next e h = subst (λ (o : Option (List ℕ)). FailsSo failure (given o next)) e (h next)
part_fails Memory old (Some x) others all next e h = tt
part_fails Wrong old (Some x) others all next e h = absurd (never_wrong [] [] (h (λ y. gives [] [])))
part_fails (Raised code) old (Some x) others all next e h = absurd (never_raised [] [] code (h (λ y. gives [] [])))

no_items : {A : Type 0} (xs : List A) (b : Bool) → b ≡ (length xs == 0) → b ≡ true → xs ≡ []
no_items xs b e f = nil_from_length xs (eqb-true (length xs) 0 (sym e ∙ f))

pub spaced_further : (shown done printed : List ℕ) (value : Atomic) (others : List Atomic) (b : Bool) → b ≡ (length others == 0) → b ≡ true → shown ≡ done ++ printed → printed ≡ printed_value value.value
    → shown ++ spaced_values others ≡ done ++ spaced_values (value ∷ others)
spaced_further shown done printed value others b e t f g =
    let none = no_items others b e t in
    (λ i. f i ++ spaced_values (none i)) ∙ append-nil (done ++ printed) ∙ ap (λ (x : List ℕ). done ++ x) g ∙ sym (ap (λ (l : List Atomic). done ++ spaced_values (value ∷ l)) none)

pub spaced_on : (shown done printed : List ℕ) (value : Atomic) (others : List Atomic) (b : Bool) → b ≡ (length others == 0) → b ≡ false → shown ≡ (done ++ printed) ++ 32 ∷ [] → printed ≡ printed_value value.value
    → shown ++ spaced_values others ≡ done ++ spaced_values (value ∷ others)
spaced_on shown done printed value [] b e t f g = absurd (true≢false (sym e ∙ t))
spaced_on shown done printed value (a ∷ others) b e t f g =
    ap (λ (x : List ℕ). x ++ spaced_values (a ∷ others)) f ∙ append_assoc (done ++ printed) (32 ∷ []) (spaced_values (a ∷ others)) ∙ append_assoc done printed (32 ∷ spaced_values (a ∷ others))
    ∙ ap (λ (x : List ℕ). done ++ (x ++ 32 ∷ spaced_values (a ∷ others))) g

pub values_found : (o : Option (Vec Atomic Global)) (v : Vec Atomic Global) (typed : Items) → MatchOption o (atoms_among typed ≡ None) (λ values. atoms_among typed ≡ Some values.items) → o ≡ Some v
    → atoms_among typed ≡ Some v.items
values_found None v typed m e = absurd (cc)
values_found (Some w) v typed m e = let same : w ≡ v = cc in m ∙ ap (λ (u : Vec Atomic Global). Some u.items) same

pub values_missing : (o : Option (Vec Atomic Global)) (typed : Items) → MatchOption o (atoms_among typed ≡ None) (λ values. atoms_among typed ≡ Some values.items) → o ≡ None
    → atoms_among typed ≡ None
values_missing None typed m e = m
values_missing (Some w) typed m e = absurd (cc)

-- ---- constructors over the store

pub through : (before now later : Forest) → Extends before now → Extends now later → Extends before later
through before now later = growth_is_an_order.transitive before now later

abbrev MakesElement : Name → List (Vec Item Global) → (before now : Forest) → ℕ → Type 0
MakesElement name parts before now number = (f : Forest) → Extends before f → IsMade before now number (built name (parts_in f parts) before)

element_extends : (name : Name) (parts : List (Vec Item Global)) (before now : Forest) (number : ℕ) → MakesElement name parts before now number → Extends before now
element_extends name parts before now number m = made_extends before now number (built name (parts_in before parts) before) (m before (extends_itself before))

pub element_value : (s : SchemaSet) (name : Name) (parts : List (Vec Item Global)) (before now later : Forest) (number : ℕ) → MakesElement name parts before now number → Extends now later
    → constructor_outcome s (constructors.Element name) (parts_in later parts) before ≡ gives (node (place_of_number later number) ∷ []) now
element_value s name parts before now later number m x =
    made_gives before now later number (built name (parts_in later parts) before) (m later (through before now later (element_extends name parts before now number m) x)) x

pub element_grows : (s : SchemaSet) (name : Name) (parts : List (Vec Item Global)) (before now : Forest) (number : ℕ) → MakesElement name parts before now number → GrowsHonestly s before now
element_grows s name parts before now number m =
    given_grows s (constructors.Element name) (parts_in now parts) before now (node (place_of_number now number) ∷ []) (element_extends name parts before now number m)
    (element_value s name parts before now now number m (extends_itself now))

abbrev MakesDocument : List Item → (before now : Forest) → ℕ → Type 0
MakesDocument content before now number = (f : Forest) → Extends before f → IsMade before now number (document_built (items_in f content) before)

document_extends : (content : List Item) (before now : Forest) (number : ℕ) → MakesDocument content before now number → Extends before now
document_extends content before now number m = made_extends before now number (document_built (items_in before content) before) (m before (extends_itself before))

pub document_value : (s : SchemaSet) (content : List Item) (before now later : Forest) (number : ℕ) → MakesDocument content before now number → Extends now later
    → constructor_outcome s constructors.Document (items_in later content ∷ []) before ≡ gives (node (place_of_number later number) ∷ []) now
document_value s content before now later number m x =
    made_gives before now later number (document_built (items_in later content) before) (m later (through before now later (document_extends content before now number m) x)) x

pub document_grows : (s : SchemaSet) (content : List Item) (before now : Forest) (number : ℕ) → MakesDocument content before now number → GrowsHonestly s before now
document_grows s content before now number m =
    given_grows s constructors.Document (items_in now content ∷ []) before now (node (place_of_number now number) ∷ []) (document_extends content before now number m)
    (document_value s content before now now number m (extends_itself now))

abbrev HasTexts : SchemaSet → List (Vec Item Global) → Forest → List ℕ → Type 0
HasTexts s parts before value = (f : Forest) → Extends before f → texts_of_parts s before (parts_in f parts) ≡ Some value

pub attribute_value : (s : SchemaSet) (name : Name) (parts : List (Vec Item Global)) (value : List ℕ) (before now later : Forest) (number : ℕ) → HasTexts s parts before value
    → now ≡ before ++ attribute_built name value ∷ [] → number ≡ count_in before → Extends now later
    → constructor_outcome s (constructors.Attribute name) (parts_in later parts) before ≡ gives (node (place_of_number later number) ∷ []) now
attribute_value s name parts value before now later number t e n x =
    ap (λ (o : Option (List ℕ)). given o (λ v. tree_appended (attribute_built name v) before))
    (t later (through before now later (record { more = attribute_built name value ∷ []; is = e }) x))
    ∙ appended_gives before now later (attribute_built name value) number e n x

pub attribute_grows : (s : SchemaSet) (name : Name) (parts : List (Vec Item Global)) (value : List ℕ) (before now : Forest) (number : ℕ) → HasTexts s parts before value
    → now ≡ before ++ attribute_built name value ∷ [] → number ≡ count_in before → GrowsHonestly s before now
attribute_grows s name parts value before now number t e n =
    given_grows s (constructors.Attribute name) (parts_in now parts) before now (node (place_of_number now number) ∷ []) (record { more = attribute_built name value ∷ []; is = e })
    (attribute_value s name parts value before now now number t e n (extends_itself now))

abbrev HasValues : SchemaSet → List Item → Forest → List Atomic → Type 0
HasValues s content before values = (f : Forest) → Extends before f → then_found (atomized s before (items_in f content)) atoms_among ≡ Some values

pub no_text_value : (s : SchemaSet) (content : List Item) (values : List Atomic) (before later : Forest) (b : Bool) → HasValues s content before values → b ≡ (length values == 0) → b ≡ true → Extends before later
    → constructor_outcome s constructors.Text (items_in later content ∷ []) before ≡ gives [] before
no_text_value s content values before later b t e f x =
    ap (λ (o : Option (List Atomic)). given o (λ v. text_outcome v before)) (t later x) ∙ ap (λ (v : List Atomic). text_outcome v before) (no_items values b e f)

some_text : (values : List Atomic) (before : Forest) (b : Bool) → b ≡ (length values == 0) → b ≡ false → text_outcome values before ≡ tree_appended (text (spaced_values values)) before
some_text [] before b e f = absurd (true≢false (sym e ∙ f))
some_text (a ∷ values) before b e f = refl

pub text_value : (s : SchemaSet) (content : List Item) (values : List Atomic) (shown : List ℕ) (before now later : Forest) (number : ℕ) (b : Bool) → HasValues s content before values
    → b ≡ (length values == 0) → b ≡ false → shown ≡ spaced_values values → now ≡ before ++ text shown ∷ [] → number ≡ count_in before → Extends now later
    → constructor_outcome s constructors.Text (items_in later content ∷ []) before ≡ gives (node (place_of_number later number) ∷ []) now
text_value s content values shown before now later number b t e f g m n x =
    ap (λ (o : Option (List Atomic)). given o (λ v. text_outcome v before)) (t later (through before now later (record { more = text shown ∷ []; is = m }) x))
    ∙ some_text values before b e f ∙ ap (λ (y : List ℕ). tree_appended (text y) before) (sym g) ∙ appended_gives before now later (text shown) number m n x

pub text_grows : (s : SchemaSet) (content : List Item) (values : List Atomic) (shown : List ℕ) (before now : Forest) (number : ℕ) (b : Bool) → HasValues s content before values
    → b ≡ (length values == 0) → b ≡ false → shown ≡ spaced_values values → now ≡ before ++ text shown ∷ [] → number ≡ count_in before → GrowsHonestly s before now
text_grows s content values shown before now number b t e f g m n =
    given_grows s constructors.Text (items_in now content ∷ []) before now (node (place_of_number now number) ∷ []) (record { more = text shown ∷ []; is = m })
    (text_value s content values shown before now now number b t e f g m n (extends_itself now))

-- ---- the documents of a query stay where the forest grows

place_stays : (forest later : Forest) (n : ℕ) → n < count_in forest → Extends forest later → place_of_number later n ≡ place_of_number forest n
place_stays forest later n h x = ap (λ (f : Forest). place_of_number f n) x.is ∙ ap (λ (e : NodeEntry). e.place) (entry_stays forest x.more n h)

pub places_stay : (forest later : Forest) (nodes : List NodeId) → All (λ m. m.number < count_in forest) nodes → Extends forest later → node_places later nodes ≡ node_places forest nodes
places_stay forest later [] all x = refl
places_stay forest later (m ∷ nodes) all x =
    let first : place_of_number later m.number ≡ place_of_number forest m.number = place_stays forest later m.number (all zero m (omega arith)) x in
    let others : node_places later nodes ≡ node_places forest nodes = places_stay forest later nodes (λ k d g. all (suc k) d (omega (arith, g))) x in
    λ i. first i ∷ others i

pub step_extends : (schemas : SchemaSet) (before now : Forest) → (now ≡ before) ⊎ GrowsHonestly schemas before now → Extends before now
step_extends schemas before now (inl e) = subst (Extends before) (sym e) (extends_itself before)
step_extends schemas before now (inr g) = g.extends

-- ---- what is made of all operands

pub operated_gives : (o : Outcome Items) (more rest : Items) (now : Forest) (next : Items → Forest → Outcome Items) → o ≡ gives more now
    → after o (λ new left. next (rest ++ new) left) ≡ next (rest ++ more) now
operated_gives o more rest now next e = ap (λ (p : Outcome Items). after p (λ new left. next (rest ++ new) left)) e

pub operated_fails : (failure : Failure) (o : Outcome Items) (next : Items → Forest → Outcome Items) → FailsSo failure o → FailsSo failure (after o next)
operated_fails Memory o next h = tt
operated_fails Wrong o next h = ap (λ (p : Outcome Items). after p next) h
operated_fails (Raised code) o next h = ap (λ (p : Outcome Items). after p next) h
