-- What each step of a search makes of it.
use Rattle.std.proofs.Common.{◌≡◌, ◌≢◌, ℕ, zero, suc, ◌+◌, ◌-◌, ◌≤◌, ◌<◌, Bool, true, false, List, [], ◌∷◌, ◌++◌, length, Option, None, Some, slice_get, get_or, refl, sym, ◌∙◌, ap, subst, arith, inl, inr, ◌⊎◌, length-append}
use Rattle.std.proofs.Math.ListN.{set, length-set, get_or-append}
use Rattle.std.proofs.Math.Seq.{get_or-append_seam}
use Rattle.std.specs.Prelude.{is_some, unwrap_or}
use Rattle.std.specs.List.{Contains, list_all}
use Rattle.std.proofs.lemmas.Bool.{cases_lt, true≢false, false≢true}
use Rattle.std.proofs.lemmas.Bool.Decides.{eqb_tells}
use Rattle.std.proofs.lemmas.Grind.{get_or_default_zero}
use Rattle.std.proofs.lemmas.List.{get_or-set_same, get_or-set_other, get_or-append-add, get_or-append_right}
use Rattle.std.proofs.lemmas.List.Elements.{Contains-append_left}
use Rattle.std.proofs.lemmas.Option.{slice_get_within}
use Rattle.gx_references.specs.References.{numbers_named, named_by, ends_within, meaning_in, meaning_within, AreMeanings, AreEndless}
use Rattle.gx_references.specs.Circles.{RefersTo, directly}
use Rattle.gx_references.specs.Known.{table_entry, has_entry, known}
use Rattle.gx_references.specs.Laws.{LooksAtReferences}
use Rattle.gx_references.specs.Search.{count_known, IsOpen, IsReferredTo, IsBuilt, IsSearch}
use Rattle.gx_references.proofs.Passing.{member_passes, all_members_pass}
use Rattle.gx_references.proofs.Steps.{ends_one_later, ends_by, means_the_same_one_later, means_the_same_by}
use Rattle.gx_references.proofs.CircleLemmas.{circle_has_no_end, refers_on, outside_is_circular}
use Rattle.gx_references.proofs.Tables.{count_known-set, count_known-le-length}

-- ---- a list with one more behind it

length-pushed : (rest : List ℕ) (number : ℕ) → length (rest ++ number ∷ []) ≡ length rest + 1
length-pushed rest number = length-append rest (number ∷ [])

below_top : (rest : List ℕ) (number k : ℕ) → k < length rest → get_or (rest ++ number ∷ []) k 0 ≡ get_or rest k 0
below_top rest number k within = get_or-append rest (number ∷ []) 0 k within

at_top : (rest : List ℕ) (number k : ℕ) → k ≡ length rest → get_or (rest ++ number ∷ []) k 0 ≡ number
at_top rest number k here = ap (λ (n : ℕ). get_or (rest ++ number ∷ []) n 0) here ∙ get_or-append_seam rest number [] 0

-- a place in such a list is one of the list, or the last one
top_cases : (rest : List ℕ) (number k : ℕ) → k < length (rest ++ number ∷ []) → (k < length rest) ⊎ ((k ≡ length rest) × (get_or (rest ++ number ∷ []) k 0 ≡ number))
top_cases rest number k within =
    let size = length-pushed rest number in
    elim (cases_lt k (length rest)) [
      | inl below ↦ inl below
      | inr past ↦ let here : k ≡ length rest = omega arith in inr (here, at_top rest number k here)
    ]

member_is_first_or_rest : (rest : List ℕ) (number other : ℕ) → Contains (rest ++ number ∷ []) other → other ≢ number → Contains rest other
member_is_first_or_rest rest number other (k, within, here) different =
    let size = length-pushed rest number in
    elim (top_cases rest number k within) [
      | inl below ↦ (k, below, sym (get_or-append rest (number ∷ []) other k below) ∙ here)
      | inr (last, top) ↦ absurd (different (sym here ∙ get_or_default_zero (rest ++ number ∷ []) k other within ∙ top))
    ]

-- ---- entries of a table

entry_of : {M : Type 0} (found : Option M) → is_some found ≡ true → (meaning : M) × (found ≡ Some meaning)
entry_of None e = absurd (true≢false (sym e))
entry_of (Some meaning) e = (meaning, refl)

empty_or_known : {M : Type 0} (found : Option M) → (found ≡ None) ⊎ ((meaning : M) × (found ≡ Some meaning))
empty_or_known None = inl refl
empty_or_known (Some meaning) = inr (meaning, refl)

-- a number that has a meaning is none that has not
apart : {M : Type 0} (table : List (Option M)) (number other : ℕ) → has_entry table number ≡ true → table_entry table other ≡ None → other ≢ number
apart table number other is_so is_not same = true≢false (sym is_so ∙ ap (λ (n : ℕ). has_entry table n) (sym same) ∙ ap is_some is_not)

-- ---- what is open stays open

-- where the last pending number is known
open_when_popped : {B M : Type 0} (references : B → List ℕ) (bodies : List B) (table after : List (Option M)) (rest : List ℕ) (number other : ℕ) →
    ((n : ℕ) → has_entry table n ≡ true → has_entry after n ≡ true) → has_entry after number ≡ true → other ≢ number →
    IsOpen references bodies table (rest ++ number ∷ []) other → IsOpen references bodies after rest other
open_when_popped references bodies table after rest number other stays here different o =
    let size = length-pushed rest number in
    elim (top_cases rest number o.place o.within) [
      | inr (last, top) ↦ absurd (different (sym o.here ∙ top))
      | inl below ↦ record {
        place = o.place;
        within = below;
        here = sym (below_top rest number o.place below) ∙ o.here;
        refers = λ k behind within. subst (λ (n : ℕ). RefersTo references bodies other n) (below_top rest number k within) (o.refers k behind (omega arith));
        named = λ n is_named. elim (o.named n is_named) [
          | inl is_so ↦ inl (stays n is_so)
          | inr (k, behind, within, stands) ↦ elim (top_cases rest number k within) [
            | inl under ↦ inr (k, behind, under, sym (below_top rest number k under) ∙ stands)
            | inr (last, top) ↦ inl (subst (λ (m : ℕ). has_entry after m ≡ true) (sym top ∙ stands) here)
          ]
        ];
      }
    ]

-- what the last pending number names stands behind it
open_when_opened : {B M : Type 0} (references : B → List ℕ) (bodies : List B) (table : List (Option M)) (rest : List ℕ) (number : ℕ) →
    IsOpen references bodies table ((rest ++ number ∷ []) ++ named_by references bodies number) number
open_when_opened references bodies table rest number =
    let named = named_by references bodies number in
    let stack = rest ++ number ∷ [] in
    let size = length-pushed rest number in
    let whole = length-append stack named in
    record {
      place = length rest;
      within = omega arith;
      here = get_or-append stack named 0 (length rest) (omega arith) ∙ at_top rest number (length rest) refl;
      refers = λ k behind within.
          let at = get_or-append_right stack named (length stack) k 0 refl (omega arith) in
          directly (
            k - length stack,
            omega arith,
            get_or_default_zero named (k - length stack) (get_or (stack ++ named) k 0) (omega arith) ∙ sym at,
          );
      named = λ other (j, within, here). inr (length stack + j, omega arith, omega arith, get_or-append-add stack named j 0 ∙ sym (get_or_default_zero named j other within) ∙ here);
    }

open_when_extended : {B M : Type 0} (references : B → List ℕ) (bodies : List B) (table : List (Option M)) (rest : List ℕ) (number other : ℕ) → other ≢ number →
    IsOpen references bodies table (rest ++ number ∷ []) other → IsOpen references bodies table ((rest ++ number ∷ []) ++ named_by references bodies number) other
open_when_extended references bodies table rest number other different o =
    let named = named_by references bodies number in
    let stack = rest ++ number ∷ [] in
    let size = length-pushed rest number in
    let whole = length-append stack named in
    elim (top_cases rest number o.place o.within) [
      | inr (last, top) ↦ absurd (different (sym o.here ∙ top))
      | inl below ↦
          let to_number : RefersTo references bodies other number = subst (λ (n : ℕ). RefersTo references bodies other n) (at_top rest number (length rest) refl) (o.refers (length rest) below (omega arith)) in
          record {
            place = o.place;
            within = omega arith;
            here = get_or-append stack named 0 o.place o.within ∙ o.here;
            refers = λ k behind within. elim (cases_lt k (length stack)) [
              | inl under ↦ subst (λ (n : ℕ). RefersTo references bodies other n) (sym (get_or-append stack named 0 k under)) (o.refers k behind under)
              | inr past ↦
                  let at = get_or-append_right stack named (length stack) k 0 refl past in
                  refers_on references bodies other number (get_or (stack ++ named) k 0) to_number
                  (k - length stack, omega arith, get_or_default_zero named (k - length stack) (get_or (stack ++ named) k 0) (omega arith) ∙ sym at)
            ];
            named = λ n is_named. elim (o.named n is_named) [
              | inl is_so ↦ inl is_so
              | inr (k, behind, within, stands) ↦ inr (k, behind, omega arith, get_or-append stack named 0 k within ∙ stands)
            ];
          }
    ]

-- ---- the steps

-- nothing is known, nothing is open, and all numbers are pending
pub search_begins : {B M : Type 0} (references : B → List ℕ) (meant : (ℕ → M) → B → M) (nothing : M) (bodies : List B) (table : List (Option M)) (opened : List Bool) (pending : List ℕ) →
    length table ≡ length bodies → ((n : ℕ) → table_entry table n ≡ None) → length opened ≡ length bodies → ((n : ℕ) → get_or opened n false ≡ false) →
    length pending ≡ length bodies → ((n : ℕ) → n < length bodies → get_or pending n 0 ≡ n) → IsSearch references meant nothing bodies table opened pending
search_begins references meant nothing bodies table opened pending sized empty opened_sized closed pending_sized numbers = record {
  sized = sized;
  opened_sized = opened_sized;
  built = λ n m e. absurd (true≢false (sym (ap is_some e) ∙ ap is_some (empty n)));
  unfinished = λ n e _. absurd (true≢false (sym e ∙ closed n));
  awaited = λ n within _. (n, omega arith, get_or_default_zero pending n n (omega arith) ∙ numbers n within);
  rooted = λ k within. inl (let at = numbers k (omega arith) in omega arith);
}

-- a number that is known is passed over
pub search_passes : {B M : Type 0} (references : B → List ℕ) (meant : (ℕ → M) → B → M) (nothing : M) (bodies : List B) (table : List (Option M)) (opened : List Bool) (rest : List ℕ) (number : ℕ) →
    IsSearch references meant nothing bodies table opened (rest ++ number ∷ []) → has_entry table number ≡ true → IsSearch references meant nothing bodies table opened rest
search_passes references meant nothing bodies table opened rest number s is_so =
    let size = length-pushed rest number in
    record {
      sized = s.sized;
      opened_sized = s.opened_sized;
      built = s.built;
      unfinished = λ n is_opened unknown. open_when_popped references bodies table table rest number n (λ m h. h) is_so (apart table number n is_so unknown) (s.unfinished n is_opened unknown);
      awaited = λ n within unknown. member_is_first_or_rest rest number n (s.awaited n within unknown) (apart table number n is_so unknown);
      rooted = λ k within. subst (λ (n : ℕ). IsReferredTo references bodies n) (below_top rest number k within) (s.rooted k (omega arith));
    }

-- a declaration is opened
pub search_opens : {B M : Type 0} (references : B → List ℕ) (meant : (ℕ → M) → B → M) (nothing : M) (bodies : List B) (table : List (Option M)) (opened : List Bool) (rest : List ℕ) (number : ℕ) →
    IsSearch references meant nothing bodies table opened (rest ++ number ∷ []) → number < length bodies →
    IsSearch references meant nothing bodies table (set opened number true) ((rest ++ number ∷ []) ++ named_by references bodies number)
search_opens references meant nothing bodies table opened rest number s within_bodies =
    let named = named_by references bodies number in
    let stack = rest ++ number ∷ [] in
    let whole = length-append stack named in
    record {
      sized = s.sized;
      opened_sized = length-set opened number true ∙ s.opened_sized;
      built = s.built;
      unfinished = λ n is_opened unknown. elim (eqb_tells n number) [
        | inl (_, same) ↦ subst (λ (m : ℕ). IsOpen references bodies table (stack ++ named) m) (sym same) (open_when_opened references bodies table rest number)
        | inr (_, different) ↦ open_when_extended references bodies table rest number n different (s.unfinished n (sym (get_or-set_other opened number n true false different) ∙ is_opened) unknown)
      ];
      awaited = λ n within unknown. Contains-append_left stack named n (s.awaited n within unknown);
      rooted = λ k within. elim (cases_lt k (length stack)) [
        | inl under ↦ subst (λ (n : ℕ). IsReferredTo references bodies n) (sym (get_or-append stack named 0 k under)) (s.rooted k under)
        | inr past ↦
            let at = get_or-append_right stack named (length stack) k 0 refl past in
            inr (number, within_bodies, directly (k - length stack, omega arith, get_or_default_zero named (k - length stack) (get_or (stack ++ named) k 0) (omega arith) ∙ sym at))
      ];
    }

-- what is known of a number that has a meaning
known_is_built : {B M : Type 0} (references : B → List ℕ) (meant : (ℕ → M) → B → M) (nothing : M) (bodies : List B) (table : List (Option M)) (opened : List Bool) (pending : List ℕ) →
    IsSearch references meant nothing bodies table opened pending → (n : ℕ) → has_entry table n ≡ true →
    (ends_within references bodies (count_known table) n ≡ true) × (known nothing table n ≡ meaning_within meant nothing bodies (count_known table) n)
known_is_built references meant nothing bodies table opened pending s n is_so =
    let found = entry_of (table_entry table n) is_so in
    let b = s.built n found.0 found.1 in
    (b.ends, ap (λ (o : Option _). unwrap_or o nothing) found.1 ∙ b.follows)

-- a declaration is given its meaning, where all that it names are known
pub search_defines : {B M : Type 0} (references : B → List ℕ) (meant : (ℕ → M) → B → M) (nothing : M) → LooksAtReferences references meant → (bodies : List B) (table : List (Option M)) (opened : List Bool) (rest : List ℕ) (number : ℕ) (body : B) →
    IsSearch references meant nothing bodies table opened (rest ++ number ∷ []) → slice_get bodies number ≡ Some body → table_entry table number ≡ None → list_all (has_entry table) (references body) ≡ true →
    IsSearch references meant nothing bodies (set table number (Some (meant (known nothing table) body))) opened rest
search_defines references meant nothing looks bodies table opened rest number body s here unknown all_known =
    let size = length-pushed rest number in
    let meaning = meant (known nothing table) body in
    let after = set table number (Some meaning) in
    let within_bodies = slice_get_within bodies number body here in
    let bound : number < length table = omega (arith, s.sized) in
    let now : table_entry after number ≡ Some meaning = get_or-set_same table number (Some meaning) None bound in
    let before : ((n : ℕ) → n ≢ number → table_entry after n ≡ table_entry table n) = λ n different. get_or-set_other table number n (Some meaning) None different in
    let is_so : has_entry after number ≡ true = ap is_some now in
    let stays : ((n : ℕ) → has_entry table n ≡ true → has_entry after n ≡ true) = λ n h. elim (eqb_tells n number) [
      | inl (_, same) ↦ ap (λ (m : ℕ). has_entry after m) same ∙ is_so
      | inr (_, different) ↦ ap is_some (before n different) ∙ h
    ] in
    let count : count_known after ≡ suc (count_known table) = count_known-set table number meaning bound unknown ∙ omega arith in
    let one_more : ((n : ℕ) (m : _) → IsBuilt references meant nothing bodies table n m → IsBuilt references meant nothing bodies after n m) = λ n m b. record {
      ends = ap (λ (steps : ℕ). ends_within references bodies steps n) count ∙ ends_one_later references bodies (count_known table) n b.ends;
      follows = b.follows ∙ sym (means_the_same_one_later references meant nothing looks bodies (count_known table) n b.ends) ∙ sym (ap (λ (steps : ℕ). meaning_within meant nothing bodies steps n) count);
    } in
    let each_known = λ (n : ℕ) (is_named : Contains (references body) n). known_is_built references meant nothing bodies table opened (rest ++ number ∷ []) s n (member_passes (has_entry table) (references body) n all_known is_named) in
    let new : IsBuilt references meant nothing bodies after number meaning = record {
      ends = ap (λ (steps : ℕ). ends_within references bodies steps number) count
          ∙ ap (λ (b : Option _). list_all (ends_within references bodies (count_known table)) (numbers_named references b number)) here
          ∙ all_members_pass (ends_within references bodies (count_known table)) (references body) (λ n is_named. (each_known n is_named).0);
      follows = looks (known nothing table) (meaning_within meant nothing bodies (count_known table)) body (λ n is_named. (each_known n is_named).1)
          ∙ sym (ap (λ (b : Option _). meaning_in meant nothing b (meaning_within meant nothing bodies (count_known table))) here)
          ∙ sym (ap (λ (steps : ℕ). meaning_within meant nothing bodies steps number) count);
    } in
    let others : ((n : ℕ) → table_entry after n ≡ None → n ≢ number) = λ n e. apart after number n is_so e in
    let unknown_before : ((n : ℕ) → table_entry after n ≡ None → table_entry table n ≡ None) = λ n e. sym (before n (others n e)) ∙ e in
    record {
      sized = length-set table number (Some meaning) ∙ s.sized;
      opened_sized = s.opened_sized;
      built = λ n m e. elim (eqb_tells n number) [
        | inl (_, same) ↦
            let is_new : m ≡ meaning = let e' : Some m ≡ Some meaning = sym e ∙ ap (λ (k : ℕ). table_entry after k) same ∙ now in cc in
            subst (λ (k : ℕ). IsBuilt references meant nothing bodies after k m) (sym same) (subst (λ (x : _). IsBuilt references meant nothing bodies after number x) (sym is_new) new)
        | inr (_, different) ↦ one_more n m (s.built n m (sym (before n different) ∙ e))
      ];
      unfinished = λ n is_opened e. open_when_popped references bodies table after rest number n stays is_so (others n e) (s.unfinished n is_opened (unknown_before n e));
      awaited = λ n within e. member_is_first_or_rest rest number n (s.awaited n within (unknown_before n e)) (others n e);
      rooted = λ k within. subst (λ (n : ℕ). IsReferredTo references bodies n) (below_top rest number k within) (s.rooted k (omega arith));
    }

-- ---- the ends

within_is_some : {B : Type 0} (bodies : List B) (number : ℕ) → number < length bodies → is_some (slice_get bodies number) ≡ true
within_is_some [] number within = absurd (omega arith)
within_is_some (body ∷ bodies) zero within = refl
within_is_some (body ∷ bodies) (suc number) within = within_is_some bodies number (omega arith)

-- nothing is pending
pub search_ends : {B M : Type 0} (references : B → List ℕ) (meant : (ℕ → M) → B → M) (nothing : M) → LooksAtReferences references meant → (bodies : List B) (table : List (Option M)) (opened : List Bool) (pending : List ℕ) →
    IsSearch references meant nothing bodies table opened pending → pending ≡ [] → AreMeanings references meant nothing bodies table
search_ends references meant nothing looks bodies table opened pending s nothing_pending =
    let found : ((n : ℕ) → n < length bodies → (m : _) × (table_entry table n ≡ Some m)) = λ n within. elim (empty_or_known (table_entry table n)) [
      | inr here ↦ here
      | inl unknown ↦ let (k, k_within, here) = s.awaited n within unknown in let size = ap length nothing_pending in absurd (omega arith)
    ] in
    let few : count_known table ≤ length bodies = omega (arith, count_known-le-length table, s.sized) in
    record {
      sized = s.sized;
      ended = λ n within. let m = found n within in ends_by references bodies (count_known table) (length bodies) n few ((s.built n m.0 m.1).ends);
      meanings = λ n within. let m = found n within in
          let b = s.built n m.0 m.1 in
          m.1 ∙ ap Some (b.follows ∙ sym (means_the_same_by references meant nothing looks bodies (count_known table) (length bodies) n few b.ends));
    }

-- an open declaration is met again, and something that it names is not known
pub search_is_circular : {B M : Type 0} (references : B → List ℕ) (meant : (ℕ → M) → B → M) (nothing : M) (bodies : List B) (table : List (Option M)) (opened : List Bool) (rest : List ℕ) (number : ℕ) (body : B) →
    IsSearch references meant nothing bodies table opened (rest ++ number ∷ []) → slice_get bodies number ≡ Some body → table_entry table number ≡ None → get_or opened number false ≡ true →
    list_all (has_entry table) (references body) ≡ false → AreEndless references bodies
search_is_circular references meant nothing bodies table opened rest number body s here unknown is_opened not_all =
    let size = length-pushed rest number in
    let o = s.unfinished number is_opened unknown in
    elim (top_cases rest number o.place o.within) [
      | inl below ↦
          let circle : RefersTo references bodies number number = subst (λ (n : ℕ). RefersTo references bodies number n) (at_top rest number (length rest) refl) (o.refers (length rest) below (omega arith)) in
          (number, slice_get_within bodies number body here, circle_has_no_end references bodies (length bodies) number number circle circle)
      | inr (last, top) ↦
          let named : named_by references bodies number ≡ references body = ap (λ (b : Option _). numbers_named references b number) here in
          absurd (false≢true (sym not_all ∙ all_members_pass (has_entry table) (references body) (λ n is_named.
          elim (o.named n (subst (λ (ns : List ℕ). Contains ns n) (sym named) is_named)) [
            | inl is_so ↦ is_so
            | inr (k, behind, within, stands) ↦ absurd (omega arith)
          ])))
    ]

-- a number of no declaration is met
pub search_leaves : {B M : Type 0} (references : B → List ℕ) (meant : (ℕ → M) → B → M) (nothing : M) (bodies : List B) (table : List (Option M)) (opened : List Bool) (rest : List ℕ) (number : ℕ) →
    IsSearch references meant nothing bodies table opened (rest ++ number ∷ []) → slice_get bodies number ≡ None → AreEndless references bodies
search_leaves references meant nothing bodies table opened rest number s outside =
    let size = length-pushed rest number in
    let at = at_top rest number (length rest) refl in
    elim (subst (λ (n : ℕ). IsReferredTo references bodies n) at (s.rooted (length rest) (omega arith))) [
      | inl within ↦ absurd (true≢false (sym (within_is_some bodies number within) ∙ ap is_some outside))
      | inr (other, within, way) ↦ (other, within, circle_has_no_end references bodies (length bodies) other number way (outside_is_circular references bodies number outside))
    ]
