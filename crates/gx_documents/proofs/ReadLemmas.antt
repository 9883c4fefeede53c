-- What reading file by file comes to.
use Rattle.std.proofs.Common.{◌≡◌, ℕ, List, [], ◌∷◌, ◌++◌, map, Option, None, Some, Result, Ok, Err, IfSome, MatchResult, inl, inr, refl, sym, ◌∙◌, ap, subst, arith, append_assoc, string_bytes, ◌≤◌, ◌+◌, ◌-◌, ◌^◌}
use Rattle.std.proofs.Math.Nat.{le_trans, le-min, min-le_left, min-le_right}
use Rattle.std.proofs.lemmas.List.{append-nil}
use Rattle.gx_io.specs.Faults.{Rose}
use Rattle.gx_io.specs.Calls.{Loads}
use Rattle.gx_io.specs.LibraryUse.{LibraryUse}
use Rattle.gx_types.specs.SchemaInvariant.{HoldsOfEach}
use Rattle.gx_documents.specs.declared.documents.DocumentFault.TheVariants.{Unread, TooLong, Refused, Invalid}
use Rattle.gx_documents.specs.declared.documents.DocumentsError.{DocumentsError}
use Rattle.gx_documents.specs.declared.documents.DocumentsError.TheVariants.{Failed, Memory}
use Rattle.gx_documents.specs.Documents.{Files, Request, HoldsKept, HoldKept, AreKept, files_asked}
use Rattle.gx_documents.specs.Reading.{Lacks, StopsAt, EndsWith, EndedAt, WasRead, ReadsFrom, ReadsFiles, HasReadFault, LoadsUpTo, AreKeptOf, IsAskedFor}

both_told : {Told : Type 0} (told : Option Told) (P Q R : Told → Type 0) → ((x : Told) → P x → Q x → R x) → IfSome told P → IfSome told Q → IfSome told R
both_told None P Q R f p q = tt
both_told (Some x) P Q R f p q = f x p q

told_so : {Told : Type 0} (told : Option Told) (P Q : Told → Type 0) → ((x : Told) → P x → Q x) → IfSome told P → IfSome told Q
told_so None P Q f p = tt
told_so (Some x) P Q f p = f x p

told_always : {Told : Type 0} (told : Option Told) (Q : Told → Type 0) → ((x : Told) → Q x) → IfSome told Q
told_always None Q f = tt
told_always (Some x) Q f = f x

-- a count that rose later rose since
pub rose_since : (before between after : ℕ) → before ≤ between → Rose between after → Rose before after
rose_since before between after counted rose =
    let low = min-le_left (before + 1) (2 ^ 64 - 1) in
    le_trans (le-min (omega (arith, counted, low)) (min-le_right (before + 1) (2 ^ 64 - 1))) rose

module _ {T Library : Type 0} (told : Option Files) (was_loaded : Library → List ℕ → Library → Type 0) (faults : Library → ℕ) where
  -- how reading ended, behind trees that were there
  abbrev Ended : (requests : List (Request T)) → (trees : List T) → (loads : List (List ℕ)) → Result (List T) DocumentsError → Type 0
  Ended requests trees loads (Ok all) =
      (more : List T) × (all ≡ trees ++ more) × (loads ≡ files_asked requests) × AreKept requests more × IfSome told (λ files. HoldKept files requests more)
  Ended requests trees loads (Err error) = IfSome told (λ files. EndsWith files requests loads (Err error))

  abbrev Broke : (loads : List (List ℕ)) → Result (List T) DocumentsError → (before after : Library) → Type 0
  Broke loads (Err (Failed name Unread)) before after =
      (earlier : List (List ℕ)) × (between : Library) × (loads ≡ earlier ++ (string_bytes name ∷ [])) × Loads was_loaded earlier before between
      × was_loaded between (string_bytes name) after × Rose (faults between) (faults after) × Rose (faults before) (faults after)
  Broke loads (Err (Failed name TooLong)) before after = Unit {0}
  Broke loads (Err (Failed name (Refused rule place))) before after = Unit {0}
  Broke loads (Err (Failed name (Invalid rule path))) before after = Unit {0}
  Broke loads (Err Memory) before after = Unit {0}
  Broke loads (Ok all) before after = Unit {0}

  record Summary (requests : List (Request T)) (trees : List T) (result : Result (List T) DocumentsError) (before after : Library) : Type 0 where
    loads : List (List ℕ)
    loaded : Loads was_loaded loads before after
    first : (rest : List (List ℕ)) × (files_asked requests ≡ loads ++ rest)
    ended : Ended requests trees loads result
    broke : Broke loads result before after
    up_to : LoadsUpTo requests loads result
    asked_for : IsAskedFor requests result

  none_left : (trees : List T) (result : Result (List T) DocumentsError) (before after : Library) → ReadsFrom told was_loaded faults [] trees result before after → Summary [] trees result before after
  none_left trees (Ok all) before after h = record {
    loads = [];
    loaded = h.1;
    first = ([], refl);
    ended = ([], h.0 ∙ sym (append-nil trees), refl, tt, told_always told (λ files. HoldKept {T = T} files [] []) (λ files. tt));
    broke = tt;
    up_to = refl;
    asked_for = tt;
  }
  none_left trees (Err (Failed name fault)) before after h = cc h.0
  none_left trees (Err Memory) before after h = record {
    loads = [];
    loaded = h.1;
    first = ([], refl);
    ended = told_always told (λ files. EndsWith {T = T} files [] [] (Err Memory)) (λ files. inr ([], tt, refl));
    broke = tt;
    up_to = tt;
    asked_for = tt;
  }

  -- one more file in front, which was read
  stops_behind : (files : Files) (request : Request T) (t : T) (requests : List (Request T)) (loads : List (List ℕ)) (at : Request T)
      → HoldsKept files request t → StopsAt files requests loads at → StopsAt files (request ∷ requests) (request.file ∷ loads) at
  stops_behind files request t requests loads at held s = record {
    front = request ∷ s.front;
    behind = s.behind;
    kept = t ∷ s.kept;
    in_order = ap (λ (rs : List (Request T)). request ∷ rs) s.in_order;
    loaded = ap (λ (ns : List (List ℕ)). request.file ∷ ns) s.loaded;
    held = (held, s.held);
  }

  ends_behind : (files : Files) (request : Request T) (t : T) (requests : List (Request T)) (loads : List (List ℕ)) (error : DocumentsError)
      → HoldsKept files request t → EndsWith files requests loads (Err error) → EndsWith files (request ∷ requests) (request.file ∷ loads) (Err error)
  ends_behind files request t requests loads (Failed name fault) held e = record {
    request = e.request;
    stops = stops_behind files request t requests loads e.request held e.stops;
    named = e.named;
    lacks = e.lacks;
  }
  ends_behind files request t requests loads Memory held (inl e) = inl (e.0, stops_behind files request t requests loads e.0 held e.1)
  ends_behind files request t requests loads Memory held (inr e) = inr (t ∷ e.0, (held, e.1), ap (λ (ns : List (List ℕ)). request.file ∷ ns) e.2)

  ended_behind : (request : Request T) (t : T) (requests : List (Request T)) (trees : List T) (loads : List (List ℕ)) (result : Result (List T) DocumentsError)
      → WasRead told request t → Ended requests (trees ++ t ∷ []) loads result → Ended (request ∷ requests) trees (request.file ∷ loads) result
  ended_behind request t requests trees loads (Ok all) read e = (
    t ∷ e.0,
    e.1 ∙ append_assoc trees (t ∷ []) e.0,
    ap (λ (ns : List (List ℕ)). request.file ∷ ns) e.2,
    (read.document, e.3),
    both_told told (λ files. HoldsKept files request t) (λ files. HoldKept files requests e.0) (λ files. HoldKept files (request ∷ requests) (t ∷ e.0)) (λ files p q. (p, q)) read.held e.4,
  )
  ended_behind request t requests trees loads (Err error) read e =
      both_told told (λ files. HoldsKept files request t) (λ files. EndsWith files requests loads (Err error)) (λ files. EndsWith files (request ∷ requests) (request.file ∷ loads) (Err error))
      (λ files p q. ends_behind files request t requests loads error p q) read.held e

  broke_behind : (file : List ℕ) (loads : List (List ℕ)) (result : Result (List T) DocumentsError) (before between after : Library) → was_loaded before file between → faults before ≤ faults between → Broke loads result between after → Broke (file ∷ loads) result before after
  broke_behind file loads (Ok all) before between after l counted b = tt
  broke_behind file loads (Err Memory) before between after l counted b = tt
  broke_behind file loads (Err (Failed name Unread)) before between after l counted b =
      (file ∷ b.0, b.1, ap (λ (ns : List (List ℕ)). file ∷ ns) b.2, (between, l, b.3), b.4, b.5, rose_since (faults before) (faults between) (faults after) counted b.6)
  broke_behind file loads (Err (Failed name TooLong)) before between after l counted b = tt
  broke_behind file loads (Err (Failed name (Refused rule place))) before between after l counted b = tt
  broke_behind file loads (Err (Failed name (Invalid rule path))) before between after l counted b = tt

  -- the file at which reading ended
  stops_here : (files : Files) (request : Request T) (others : List (Request T)) → StopsAt files (request ∷ others) (request.file ∷ []) request
  stops_here files request others = record { front = []; behind = others; kept = []; in_order = refl; loaded = refl; held = tt }

  ended_here : (request : Request T) (others : List (Request T)) (trees : List T) (result : Result (List T) DocumentsError) (R : Type 0) → EndedAt told request R result → Ended (request ∷ others) trees (request.file ∷ []) result
  ended_here request others trees (Ok all) R e = absurd e
  ended_here request others trees (Err Memory) R e =
      told_always told (λ files. EndsWith files (request ∷ others) (request.file ∷ []) (Err Memory)) (λ files. inl (request, stops_here files request others))
  ended_here request others trees (Err (Failed name fault)) R e =
      told_so told (λ files. Lacks files request fault) (λ files. EndsWith files (request ∷ others) (request.file ∷ []) (Err (Failed name fault)))
      (λ files lacks. record { request = request; stops = stops_here files request others; named = e.0; lacks = lacks }) e.1

  broke_here : (request : Request T) (result : Result (List T) DocumentsError) (before between : Library) → was_loaded before request.file between → EndedAt told request (Rose (faults before) (faults between)) result → Broke (request.file ∷ []) result before between
  broke_here request (Ok all) before between l e = tt
  broke_here request (Err Memory) before between l e = tt
  broke_here request (Err (Failed name Unread)) before between l e =
      ([], before, ap (λ (f : List ℕ). f ∷ []) (sym e.0), refl, subst (λ (f : List ℕ). was_loaded before f between) (sym e.0) l, e.2, e.2)
  broke_here request (Err (Failed name TooLong)) before between l e = tt
  broke_here request (Err (Failed name (Refused rule place))) before between l e = tt
  broke_here request (Err (Failed name (Invalid rule path))) before between l e = tt

  -- the last load
  up_to_behind : (request : Request T) (others : List (Request T)) (loads : List (List ℕ)) (result : Result (List T) DocumentsError) → LoadsUpTo others loads result → LoadsUpTo (request ∷ others) (request.file ∷ loads) result
  up_to_behind request others loads (Ok all) u = ap (λ (ns : List (List ℕ)). request.file ∷ ns) u
  up_to_behind request others loads (Err Memory) u = tt
  up_to_behind request others loads (Err (Failed name fault)) u = (request.file ∷ u.0, ap (λ (ns : List (List ℕ)). request.file ∷ ns) u.1)

  up_to_here : (request : Request T) (others : List (Request T)) (result : Result (List T) DocumentsError) (R : Type 0) → EndedAt told request R result → LoadsUpTo (request ∷ others) (request.file ∷ []) result
  up_to_here request others (Ok all) R e = absurd e
  up_to_here request others (Err Memory) R e = tt
  up_to_here request others (Err (Failed name fault)) R e = ([], ap (λ (f : List ℕ). f ∷ []) (sym e.0))

  -- what is asked for
  asked_behind : (request : Request T) (others : List (Request T)) (result : Result (List T) DocumentsError) → IsAskedFor others result → IsAskedFor (request ∷ others) result
  asked_behind request others (Ok all) a = tt
  asked_behind request others (Err Memory) a = tt
  asked_behind request others (Err (Failed name Unread)) a = tt
  asked_behind request others (Err (Failed name TooLong)) a = tt
  asked_behind request others (Err (Failed name (Refused rule place))) a = tt
  asked_behind request others (Err (Failed name (Invalid rule path))) a = inr a

  asked_here : (request : Request T) (others : List (Request T)) (result : Result (List T) DocumentsError) (R : Type 0) → EndedAt told request R result → IsAskedFor (request ∷ others) result
  asked_here request others (Ok all) R e = absurd e
  asked_here request others (Err Memory) R e = tt
  asked_here request others (Err (Failed name Unread)) R e = tt
  asked_here request others (Err (Failed name TooLong)) R e = tt
  asked_here request others (Err (Failed name (Refused rule place))) R e = tt
  asked_here request others (Err (Failed name (Invalid rule path))) R e = inl e.2

  summary : (requests : List (Request T)) (trees : List T) (result : Result (List T) DocumentsError) (before after : Library) → ReadsFrom told was_loaded faults requests trees result before after → Summary requests trees result before after
  summary [] trees result before after h = none_left trees result before after h
  summary (request ∷ others) trees result before after (between, l, counted, inl h) =
      let s = summary others (trees ++ h.0 ∷ []) result between after h.2 in
      record {
        loads = request.file ∷ s.loads;
        loaded = (between, l, s.loaded);
        first = (s.first.0, ap (λ (ns : List (List ℕ)). request.file ∷ ns) s.first.1);
        ended = ended_behind request h.0 others trees s.loads result h.1 s.ended;
        up_to = up_to_behind request others s.loads result s.up_to;
        broke = broke_behind request.file s.loads result before between after l counted s.broke;
        asked_for = asked_behind request others result s.asked_for;
      }
  summary (request ∷ others) trees result before after (between, l, counted, inr h) =
      record {
        loads = request.file ∷ [];
        loaded = (between, l, h.1);
        first = (files_asked others, refl);
        ended = ended_here request others trees result (Rose (faults before) (faults between)) h.0;
        broke = subst (λ (z : Library). Broke (request.file ∷ []) result before z) (sym h.1) (broke_here request result before between l h.0);
        up_to = up_to_here request others result (Rose (faults before) (faults between)) h.0;
        asked_for = asked_here request others result (Rose (faults before) (faults between)) h.0;
      }

-- all of it
module _ {T : Type 0} where
  kept_of_ended : {Library : Type 0} (told : Option Files) (was_loaded : Library → List ℕ → Library → Type 0) (faults : Library → ℕ) (requests : List (Request T)) (loads : List (List ℕ)) (result : Result (List T) DocumentsError)
      → Ended told was_loaded faults requests [] loads result → AreKeptOf requests result
  kept_of_ended told was_loaded faults requests loads (Ok all) e = subst (λ (f : List T). AreKept requests f) (sym e.1) e.3
  kept_of_ended told was_loaded faults requests loads (Err error) e = tt

  told_of_ended : {Library : Type 0} (told : Option Files) (was_loaded : Library → List ℕ → Library → Type 0) (faults : Library → ℕ) (requests : List (Request T)) (loads : List (List ℕ)) (result : Result (List T) DocumentsError)
      → Ended told was_loaded faults requests [] loads result → IfSome told (λ files. EndsWith files requests loads result)
  told_of_ended told was_loaded faults requests loads (Ok all) e =
      told_so told (λ files. HoldKept files requests e.0) (λ files. EndsWith files requests loads (Ok all)) (λ files h. (subst (λ (f : List T). HoldKept files requests f) (sym e.1) h, e.2)) e.4
  told_of_ended told was_loaded faults requests loads (Err error) e = e

  fault_of_broke : (library : LibraryUse) (loads : List (List ℕ)) (result : Result (List T) DocumentsError) → Broke (library.files library.before) library.was_loaded library.faults loads result library.before library.after → HasReadFault library loads result
  fault_of_broke library loads (Ok all) b = tt
  fault_of_broke library loads (Err Memory) b = tt
  fault_of_broke library loads (Err (Failed name Unread)) b =
      record { earlier = b.0; in_order = b.2; failed = record { between = b.1; loaded = b.3; last = b.4; rose = b.5 }; rose = b.6 }
  fault_of_broke library loads (Err (Failed name TooLong)) b = tt
  fault_of_broke library loads (Err (Failed name (Refused rule place))) b = tt
  fault_of_broke library loads (Err (Failed name (Invalid rule path))) b = tt

  pub files_read : (library : LibraryUse) (requests : List (Request T)) (result : Result (List T) DocumentsError)
      → ReadsFrom (library.files library.before) library.was_loaded library.faults requests [] result library.before library.after → ReadsFiles library requests result
  files_read library requests result h =
      let s = summary (library.files library.before) library.was_loaded library.faults requests [] result library.before library.after h in
      record {
        loads = s.loads;
        loaded = s.loaded;
        first = s.first;
        kept = kept_of_ended (library.files library.before) library.was_loaded library.faults requests s.loads result s.ended;
        told = told_of_ended (library.files library.before) library.was_loaded library.faults requests s.loads result s.ended;
        failed = fault_of_broke library s.loads result s.broke;
        up_to = s.up_to;
        asked_for = s.asked_for;
      }

-- what holds of either outcome
pub either_outcome : {A E : Type 0} (r : Result A E) (P R : A → Type 0) (Q S : E → Type 0) → ((a : A) → P a → R a) → ((e : E) → Q e → S e) → MatchResult r P Q → MatchResult r R S
either_outcome (Ok a) P R Q S f g h = f a h
either_outcome (Err e) P R Q S f g h = g e h

pub of_either : {A E : Type 0} (r : Result A E) (P : Result A E → Type 0) → MatchResult r (λ a. P (Ok a)) (λ e. P (Err e)) → P r
of_either (Ok a) P h = h
of_either (Err e) P h = h

-- lists of what is made twice
pub map_twice : {A B C : Type 0} (f : B → C) (g : A → B) (xs : List A) → map (λ x. f (g x)) xs ≡ map f (map g xs)
map_twice f g [] = refl
map_twice f g (x ∷ xs) = ap (λ ys. f (g x) ∷ ys) (map_twice f g xs)

pub each_of_made : {A B : Type 0} (P : B → Type 0) (g : A → B) (xs : List A) → HoldsOfEach P (map g xs) → HoldsOfEach (λ x. P (g x)) xs
each_of_made P g [] h = tt
each_of_made P g (x ∷ xs) h = (h.0, each_of_made P g xs h.1)

pub each_always : {A : Type 0} (P : A → Type 0) (xs : List A) → ((x : A) → P x) → HoldsOfEach P xs
each_always P [] always = tt
each_always P (x ∷ xs) always = (always x, each_always P xs always)
