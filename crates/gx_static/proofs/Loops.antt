-- Loops keep their types.
use Rattle.std.proofs.Common.{◌≡◌, ◌+◌, ℕ, zero, suc, pos, None, List, [], ◌∷◌, ◌++◌, length, refl, sym, ◌∙◌, ap, subst, append_assoc, arith}
use Rattle.std.proofs.lemmas.List.{append-nil}
use Rattle.gx_base.specs.declared.type_name.Builtin.TheVariants.{Integer}
use Rattle.gx_base.specs.declared.type_name.TypeName.TheVariants as names
use Rattle.gx_types.specs.declared.shape.Shape.{Shape}
use Rattle.gx_types.specs.SchemaSet.{SchemaSet}
use Rattle.gx_types.specs.Occurs.{Occurs}
use Rattle.gx_types.specs.Occurrence.{occurrence_of}
use Rattle.gx_types.specs.SequenceType.{SequenceType, nothing, both}
use Rattle.gx_types.specs.Prime.{prime_of, items_of}
use Rattle.gx_types.specs.TypeRules.{times_of}
use Rattle.gx_types.specs.Takes.{Takes, Each, EachShape, SomeItemTakes, all_joined}
use Rattle.gx_types.specs.Laws.{Allows}
use Rattle.gx_types.proofs.PublicLaws.{items_take_each_shape, prime_is_a_choice_of_items, times_takes_joined}
use Rattle.gx_funcs.specs.Function.{integer_atom}
use Rattle.gx_model.specs.Forest.{Forest}
use Rattle.gx_model.specs.Honest.{IsHonest}
use Rattle.gx_model.specs.Item.{Item, atom, Items}
use Rattle.gx_model.specs.Belongs.{HaveShapes, Belongs}
use Rattle.gx_model.specs.Growth.{Extends}
use Rattle.gx_model.proofs.PublicLaws.{growth_is_an_order, values_stay}
use Rattle.gx_core.specs.declared.expression.Binder.{Binder}
use Rattle.gx_core.specs.Bindings.{Types, position_bound}
use Rattle.gx_core.specs.Expression.{no_parts, a_part, annotation_of}
use Rattle.gx_core.specs.Outcome.{Outcome, gives, raises, wrong, after}
use Rattle.gx_core.specs.Meaning.{Bindings, for_each, item_bound, meaning}
use Rattle.gx_core.specs.Soundness.{Setting, calling_setting, context_of, IsOfType, KeepsFact, Keeps, Fits}
use Rattle.gx_core.proofs.KeptFacts.{fact_after, fact_at_once, binding_fits, bindings_fit_still, calls_keep_still}
use Rattle.gx_static.specs.Rule.{atomic, is_as_written}
use Rattle.gx_static.specs.Laws.{ForKeepsType}
use Rattle.gx_static.proofs.ItemLemmas.{belongs_within}
use Rattle.gx_static.proofs.Singles.{one_atom_belongs}
use Rattle.gx_static.proofs.Keeping.{type_so, have_joined}

-- ---- values made of several

-- a type so many times
abbrev pub copies : ℕ → SequenceType → SequenceType
copies zero t = nothing
copies (suc n) t = both (copies n t) t

-- lists of a type, as many as there are
pub record JoinedLists (s : SchemaSet) (t : SequenceType) (n : ℕ) (ss : List Shape) : Type 0 where
  pub parts : List (List Shape)
  pub joined : ss ≡ all_joined parts
  pub each : Each (Takes s t) parts
  pub count : length parts ≡ n

joined_behind : (parts : List (List Shape)) (rest : List Shape) → all_joined parts ++ rest ≡ all_joined (parts ++ rest ∷ [])
joined_behind [] rest = sym (append-nil rest)
joined_behind (part ∷ parts) rest = append_assoc part (all_joined parts) rest ∙ ap (λ (ss : List Shape). part ++ ss) (joined_behind parts rest)

each_behind : (s : SchemaSet) (t : SequenceType) (parts : List (List Shape)) (rest : List Shape) → Each (Takes s t) parts → Takes s t rest → Each (Takes s t) (parts ++ rest ∷ [])
each_behind s t [] rest h k = (k, tt)
each_behind s t (part ∷ parts) rest h k = (h.0, each_behind s t parts rest h.1 k)

one_more_part : (parts : List (List Shape)) (rest : List Shape) → length (parts ++ rest ∷ []) ≡ suc (length parts)
one_more_part [] rest = refl
one_more_part (part ∷ parts) rest = ap suc (one_more_part parts rest)

pub copies_joined : (s : SchemaSet) (t : SequenceType) (n : ℕ) (ss : List Shape) → Takes s (copies n t) ss → JoinedLists s t n ss
copies_joined s t zero ss h = record { parts = []; joined = h; each = tt; count = refl }
copies_joined s t (suc n) ss (front, rest, is, f, r) =
    let j = copies_joined s t n front f in record {
      parts = j.parts ++ rest ∷ [];
      joined = is ∙ ap (λ (ts : List Shape). ts ++ rest) j.joined ∙ joined_behind j.parts rest;
      each = each_behind s t j.parts rest j.each r;
      count = one_more_part j.parts rest ∙ ap suc j.count;
    }

-- they belong to the type as often as an occurrence says
pub joined_belongs_times : (s : SchemaSet) (forest : Forest) (t : SequenceType) (o : Occurs) (n : ℕ) (xs : Items) (ss : List Shape) → Allows o n → HaveShapes s forest xs ss → JoinedLists s t n ss → Belongs s forest xs (times_of t o)
joined_belongs_times s forest t o n xs ss w h j = record {
  seen = ss;
  shaped = h;
  taken = subst (Takes s (times_of t o)) (sym j.joined) (times_takes_joined s t o j.parts j.each (subst (λ (m : ℕ). Allows o m) (sym j.count) w));
}

-- ---- items of a value

-- each item alone belongs to a type
abbrev pub EachBelongs : SchemaSet → Forest → SequenceType → Items → Type 0
EachBelongs s forest t [] = Unit {0}
EachBelongs s forest t (x ∷ xs) = Belongs s forest (x ∷ []) t × EachBelongs s forest t xs

pub each_still : (s : SchemaSet) (before now : Forest) (t : SequenceType) (xs : Items) → Extends before now → EachBelongs s before t xs → EachBelongs s now t xs
each_still s before now t [] e h = tt
each_still s before now t (x ∷ xs) e h = (values_stay s before now (x ∷ []) t e h.0, each_still s before now t xs e h.1)

in_prime : (s : SchemaSet) (forest : Forest) (t : SequenceType) (xs : Items) (ss : List Shape) → HaveShapes s forest xs ss → EachShape (SomeItemTakes s (items_of t)) ss → EachBelongs s forest (prime_of t) xs
in_prime s forest t [] [] h k = tt
in_prime s forest t [] (shape ∷ ss) h k = absurd h
in_prime s forest t (x ∷ xs) [] h k = absurd h
in_prime s forest t (x ∷ xs) (shape ∷ ss) h k = (
  record {
    seen = shape ∷ [];
    shaped = (h.0, h.1, tt);
    taken = (prime_is_a_choice_of_items s t (shape ∷ [])).1 (record { shape = shape; alone = refl; taken = k.0 });
  },
  in_prime s forest t xs ss h.2 k.1,
)

-- each item of a value belongs to the prime type
pub items_belong : (s : SchemaSet) (forest : Forest) (t : SequenceType) (xs : Items) → Belongs s forest xs t → EachBelongs s forest (prime_of t) xs
items_belong s forest t xs b = in_prime s forest t xs b.seen b.shaped (items_take_each_shape s t b.seen b.taken)

-- ---- loops

-- a value that is made of so many of a type
abbrev pub Made : SchemaSet → SequenceType → ℕ → Forest → Items → Type 0
Made s t n forest xs = Belongs s forest xs (copies n t)

pub one_more_made : (s : SchemaSet) (forest : Forest) (t : SequenceType) (n : ℕ) (xs ys : Items) → Made s t n forest xs → Belongs s forest ys t → Made s t (suc n) forest (xs ++ ys)
one_more_made s forest t n xs ys b c = record {
  seen = b.seen ++ c.seen;
  shaped = have_joined s forest xs ys b.seen c.seen b.shaped c.shaped;
  taken = (b.seen, c.seen, refl, b.taken, c.taken);
}

-- the body keeps its type for an item of any number, in each forest that has grown from the first
abbrev BodyKeeps : Setting → Forest → (p t : SequenceType) → (ℕ → Item → Forest → Outcome Items) → Type 0
BodyKeeps setting first p t next =
    (number : ℕ) (x : Item) (now : Forest) → Extends first now → IsHonest setting.schemas now → Belongs setting.schemas now (x ∷ []) p → Keeps setting now t (next number x now)

loop_keeps : (setting : Setting) (first : Forest) (p t : SequenceType) (next : ℕ → Item → Forest → Outcome Items) → BodyKeeps setting first p t next
    → (xs : Items) (number n m : ℕ) (done : Items) (forest : Forest) → m ≡ n + length xs → Extends first forest → IsHonest setting.schemas forest → EachBelongs setting.schemas forest p xs
    → Made setting.schemas t n forest done → KeepsFact setting forest (Made setting.schemas t m) (for_each next number done xs forest)
loop_keeps setting first p t next body [] number n m done forest e grown honest all made =
    let same : n ≡ m = omega (arith, e) in
    fact_at_once setting forest (Made setting.schemas t m) done honest (subst (λ (k : ℕ). Made setting.schemas t k forest done) same made)
loop_keeps setting first p t next body (x ∷ xs) number n m done forest e grown honest all made =
    fact_after setting forest (IsOfType setting.schemas t) (Made setting.schemas t m) (next number x forest) (λ more left. for_each next (suc number) (done ++ more) xs left) (body number x forest grown honest all.0)
    (λ more now more_grown still b. loop_keeps setting first p t next body xs (suc number) (suc n) m (done ++ more) now (omega (arith, e)) (growth_is_an_order.transitive first forest now grown more_grown) still
    (each_still setting.schemas forest now p xs more_grown all.1)
    (one_more_made setting.schemas now t n done more (values_stay setting.schemas forest now done (copies n t) more_grown made) b))

-- what holds of each result holds of the outcome
pub fact_so : (setting : Setting) (before : Forest) (P Q : Forest → Items → Type 0) (o : Outcome Items) → ((now : Forest) (xs : Items) → P now xs → Q now xs) → KeepsFact setting before P o → KeepsFact setting before Q o
fact_so setting before P Q (gives xs now) h k = record { grown = k.grown; honest = k.honest; fact = h now xs k.fact }
fact_so setting before P Q (raises code) h k = tt
fact_so setting before P Q wrong h k = absurd k

-- a loop over all items of a value
all_loop : (setting : Setting) (a t : SequenceType) (next : ℕ → Item → Forest → Outcome Items) (xs : Items) (forest : Forest) → IsHonest setting.schemas forest → Belongs setting.schemas forest xs a
    → BodyKeeps setting forest (prime_of a) t next → Keeps setting forest (times_of t (occurrence_of a)) (for_each next 1 [] xs forest)
all_loop setting a t next xs forest honest b body =
    let none : Made setting.schemas t 0 forest [] = record { seen = []; shaped = tt; taken = refl } in
    fact_so setting forest (Made setting.schemas t (length xs)) (IsOfType setting.schemas (times_of t (occurrence_of a))) (for_each next 1 [] xs forest)
    (λ now ys made. joined_belongs_times setting.schemas now t (occurrence_of a) (length xs) ys made.seen (belongs_within setting.schemas forest a xs b) made.shaped (copies_joined setting.schemas t (length xs) made.seen made.taken))
    (loop_keeps setting forest (prime_of a) t next body xs 1 0 (length xs) [] forest (omega arith) (growth_is_an_order.reflexive forest) honest (items_belong setting.schemas forest a xs b) none)

-- an item and its position are of the types that a loop binds
pub item_fits : (setting : Setting) (binder : Binder) (position number : ℕ) (p : SequenceType) (x : Item) (types : Types) (bindings : Bindings) (forest : Forest)
    → Fits setting.schemas forest types bindings → Belongs setting.schemas forest (x ∷ []) p
    → Fits setting.schemas forest (((binder.variable, p) ∷ position_bound position (atomic Integer)) ++ types) (item_bound binder.variable position number x ++ bindings)
item_fits setting binder zero number p x types bindings forest fits one = binding_fits setting binder p (x ∷ []) types bindings forest fits one
item_fits setting binder (suc position) number p x types bindings forest fits one =
    let counted : Belongs setting.schemas forest (atom (integer_atom (pos number)) ∷ []) (atomic Integer) =
    one_atom_belongs setting.schemas forest (names.Builtin Integer) (integer_atom (pos number)) (0, refl) (0, refl) in
    let of_position : Binder = record { variable = suc position; place = binder.place; kind = None } in
    binding_fits setting binder p (x ∷ []) ((suc position, atomic Integer) ∷ types) ((suc position, atom (integer_atom (pos number)) ∷ []) ∷ bindings) forest
    (binding_fits setting of_position (atomic Integer) (atom (integer_atom (pos number)) ∷ []) types bindings forest fits counted) one

pub for_keeps : ForKeepsType
for_keeps s binder position known calls (a_part a (a_part b no_parts)) types place outer t e known_call h situation =
    let setting : Setting = calling_setting s known calls in
    let k = context_of setting in
    let p : SequenceType = prime_of (annotation_of a) in
    let turn : ℕ → Item → Forest → Outcome Items = λ number x now. meaning k b (item_bound binder.variable position number x ++ situation.bindings) now in
    let r = type_so (is_as_written s binder.kind p) (times_of (annotation_of b) (occurrence_of (annotation_of a))) t e in
    subst (λ (u : SequenceType). Keeps setting situation.forest u (after (meaning k a situation.bindings situation.forest) (λ xs left. for_each turn 1 [] xs left))) r.1
    (fact_after setting situation.forest (IsOfType s (annotation_of a)) (IsOfType s (times_of (annotation_of b) (occurrence_of (annotation_of a)))) (meaning k a situation.bindings situation.forest)
    (λ xs left. for_each turn 1 [] xs left) (h.0 situation)
    (λ xs left grown honest belongs. all_loop setting (annotation_of a) (annotation_of b) turn xs left honest belongs
    (λ number x now more_grown still one. h.1.0 (record {
      bindings = item_bound binder.variable position number x ++ situation.bindings;
      forest = now;
      honest = still;
      fits =
          item_fits setting binder position number p x types situation.bindings now
          (bindings_fit_still setting types situation.bindings situation.forest now (growth_is_an_order.transitive situation.forest left now grown more_grown) situation.fits) one;
      calls_keep = calls_keep_still setting situation.forest now (growth_is_an_order.transitive situation.forest left now grown more_grown) situation.calls_keep;
    }))))
for_keeps s binder position known calls no_parts types place outer t e known_call h situation = absurd (cc)
for_keeps s binder position known calls (a_part a no_parts) types place outer t e known_call h situation = absurd (cc)
for_keeps s binder position known calls (a_part a (a_part b (a_part c others))) types place outer t e known_call h situation = absurd (cc)
