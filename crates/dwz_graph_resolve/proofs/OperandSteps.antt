-- Operands of an expression are looked up one after the other.
use Rattle.std.proofs.Common.{◌≡◌, ℕ, ◌+◌, ◌-◌, ◌<◌, ◌≤◌, Bool, true, false, List, [], ◌∷◌, ◌++◌, length, map, take, drop, get_or, Option, Some, None, Result, Ok, Err, refl, sym, ap, subst, ◌∙◌}
use Rattle.std.proofs.Common.{arith}
use Rattle.std.specs.Prelude.{slice_range}
use Rattle.std.specs.Option.{IfSome}
use Rattle.std.proofs.lemmas.Bool.{cond-false, cond-true, false≢true}
use Rattle.std.proofs.lemmas.List.{append-nil, append_assoc, map-append, take-append-drop, take_all}
use Rattle.std.proofs.lemmas.Option.{slice_get-get_or}
use Rattle.dwz_model.specs.declared.fault.Fault.{Fault}
use Rattle.dwz_model.specs.declared.fault.ReadErr.{ReadErr}
use Rattle.dwz_model.specs.declared.fault.ReadErr.TheVariants.{NoMemory, Refused}
use Rattle.dwz_def_reading.specs.Units.{RawUnit, entries_in}
use Rattle.dwz_def_reading.specs.declared.exprs.Operand.{Operand}
use Rattle.dwz_def_reading.specs.Exprs.{Expression, any_operands, bad_operand, expr_at, first_unnamed}
use Rattle.dwz_def_reading.specs.Meanings.{Common, MeaningContext, entries_for, expr_context, target_of, targets}
use Rattle.dwz_def_reading.specs.Meant.{expr_said}
use Rattle.dwz_graph_resolve.specs.Operands.{AreNumbers, IsUnnamed, LooksUp, NamesAll, expr_named, is_named, lacks_memory}
use Rattle.dwz_graph_resolve.specs.Resolved.{Goes, place_at, places}
use Rattle.dwz_def_reading.specs.Input.{Input}
use Rattle.dwz_def_reading.specs.Reading.{◌>>=◌}
use Rattle.dwz_def_reading.specs.Faults.{Fails}
use Rattle.dwz_def_reading.proofs.ListFacts.{drop_here}
use Rattle.dwz_expr.specs.Gathering.{added}
use Rattle.dwz_expr.specs.FirstFault.{AreAsked, ReadsInto, asked, unless_one}
use Rattle.dwz_graph_resolve.specs.declared.state.State.{State}
use Rattle.dwz_graph_resolve.specs.Named.{Found, found, found_in, map_ok}
use Rattle.dwz_def_reading.specs.Shared.{NamedList}
use Rattle.dwz_model.proofs.Members.{each_append}
use Rattle.dwz_graph_resolve.proofs.PlaceLemmas.{among_none, among_there}
use Rattle.dwz_unit.proofs.RowsFound.{take_here}
use Rattle.dwz_graph_resolve.proofs.SurroundingLemmas.{own_all, own_places}

pub looks_up : (raw : List RawUnit) (s : MeaningContext ℕ) (o : Operand) (first end place : ℕ) (r : Option ℕ) → slice_range (places raw) first end ≡ entries_for s o.base → end ≤ entries_in raw
    → place ≡ target_of s o
    → IfSome r (λ i. (first ≤ i) × (i < end) × (place_at raw i ≡ place)) → (r ≡ None → (i : ℕ) → first ≤ i → i < end → place_at raw i ≡ place → ⊥) → LooksUp raw s o r
looks_up raw s o first end place (Some i) among within is found none =
    let low = found.1 in
    (omega arith, found.2 ∙ is, among_there raw first end i (target_of s o) (entries_for s o.base) among within found.0 found.1 (found.2 ∙ is))
looks_up raw s o first end place None among within is found none = among_none raw first end (target_of s o) (entries_for s o.base) among (λ i low high e. none refl i low high (e ∙ sym is))

pub below : (raw : List RawUnit) (first end : ℕ) (r : Option ℕ) (place : ℕ) → end ≤ entries_in raw → IfSome r (λ i. (first ≤ i) × (i < end) × (place_at raw i ≡ place))
    → IfSome r (λ i. i < entries_in raw)
below raw first end (Some i) place le h = let lt = h.1 in omega arith
below raw first end None place le h = tt

-- ---- operand by operand

pub first_of : (names : Operand → Bool) (xs ys : List Operand) → first_unnamed names xs ≡ None → first_unnamed names (xs ++ ys) ≡ first_unnamed names ys
unfolding first_unnamed
first_of names [] ys e = refl
first_of names (o ∷ xs) ys e = by (names o) refl (λ g. first_of names xs ys g) where
  by : (b : Bool) → names o ≡ b → (first_unnamed names xs ≡ None → first_unnamed names (xs ++ ys) ≡ first_unnamed names ys) → first_unnamed names (o ∷ (xs ++ ys)) ≡ first_unnamed names ys
  by true t next = cond-true (names o) (first_unnamed names (xs ++ ys)) (Some o) t ∙ next (sym (cond-true (names o) (first_unnamed names xs) (Some o) t) ∙ e)
  by false f next = absurd (let bad : Some o ≡ None = sym (cond-false (names o) (first_unnamed names xs) (Some o) f) ∙ e in cc)

pub one_named : (names : Operand → Bool) (o : Operand) → names o ≡ true → first_unnamed names (o ∷ []) ≡ None
unfolding first_unnamed
one_named names o t = cond-true (names o) None (Some o) t

pub one_unnamed : (names : Operand → Bool) (o : Operand) (rest : List Operand) → names o ≡ false → first_unnamed names (o ∷ rest) ≡ Some o
unfolding first_unnamed
one_unnamed names o rest f = cond-false (names o) (first_unnamed names rest) (Some o) f

module _ (raw : List RawUnit) (s : MeaningContext ℕ) (operands : List Operand) where
  pub numbers_none : (old : List ℕ) → AreNumbers raw s (take 0 operands) old old
  unfolding first_unnamed
  numbers_none old = record { more = []; refs = sym (append-nil old); within = tt; places = refl; named = refl }

  pub numbers_more : (old mid new : List ℕ) (k i : ℕ) (d : Operand) → k < length operands → LooksUp raw s (get_or operands k d) (Some i) → new ≡ mid ++ i ∷ []
      → AreNumbers raw s (take k operands) old mid → AreNumbers raw s (take (k + 1) operands) old new
  numbers_more old mid new k i d lt found e h =
      let o = get_or operands k d in
      subst (λ (w : List Operand). AreNumbers raw s w old new) (sym (take_here operands k o (slice_get-get_or operands k d lt))) (record {
        more = h.more ++ i ∷ [];
        refs = e ∙ ap (λ (w : List ℕ). w ++ i ∷ []) h.refs ∙ append_assoc old h.more (i ∷ []);
        within = each_append (λ n. n < entries_in raw) h.more (i ∷ []) h.within (found.0, tt);
        places = map-append (place_at raw) h.more (i ∷ []) ∙ (λ j. h.places j ++ found.1 j ∷ []) ∙ sym (map-append (target_of s) (take k operands) (o ∷ []));
        named = first_of (is_named s) (take k operands) (o ∷ []) h.named ∙ one_named (is_named s) o found.2;
      })

  pub unnamed_at : (old mid : List ℕ) (section k : ℕ) (d : Operand) → k < length operands → LooksUp raw s (get_or operands k d) None → AreNumbers raw s (take k operands) old mid
      → IsUnnamed s section operands (bad_operand (expr_context s section) (get_or operands k d).at)
  unnamed_at old mid section k d lt none h =
      let o = get_or operands k d in
      record {
        operand = o;
        first = ap (first_unnamed (is_named s)) (sym (take-append-drop k operands) ∙ ap (λ (w : List Operand). take k operands ++ w) (drop_here operands k o (slice_get-get_or operands k d lt)))
            ∙ first_of (is_named s) (take k operands) (o ∷ drop (k + 1) operands) h.named ∙ one_unnamed (is_named s) o (drop (k + 1) operands) none;
        placed = refl;
      }

  pub numbers_all : (old new : List ℕ) (k : ℕ) → length operands ≤ k → AreNumbers raw s (take k operands) old new → AreNumbers raw s operands old new
  numbers_all old new k le h = subst (λ (w : List Operand). AreNumbers raw s w old new) (take_all k operands le) h

pub names_fail : (raw : List RawUnit) (s : MeaningContext ℕ) (section : ℕ) (operands : List Operand) (old new : List ℕ) (e : ReadErr) (f : Fault) → e ≡ Refused f → IsUnnamed s section operands f
    → NamesAll {Y = Unit {0}} raw s section operands old new (Err e)
names_fail raw s section operands old new NoMemory f is h = tt
names_fail raw s section operands old new (Refused g) f is h = let same : g ≡ f = cc in subst (λ (x : Fault). IsUnnamed s section operands x) (sym same) h

-- ---- an expression

-- what an expression names
abbrev expr_found : MeaningContext ℕ → Expression → Found
expr_found s e = found (targets s e.operands) []

said_found : (s : MeaningContext ℕ) (r : Result Expression Fault) → map_ok (found_in []) (r >>= expr_said s) ≡ map_ok (expr_found s) r
said_found s (Ok e) = refl
said_found s (Err f) = refl

asked_all : (s : MeaningContext ℕ) (section : ℕ) (operands : List Operand) (r : Result Expression Fault) → first_unnamed (is_named s) operands ≡ None → asked (expr_context s section) operands r ≡ r
asked_all s section operands r e = ap (unless_one (expr_context s section) r) e

module _ (common : Option (Common ℕ)) (raw : List RawUnit) (K : List NamedList → State → Type 0) (before : List NamedList) (s : MeaningContext ℕ) (home : s.around.place ≡ (λ n. n)) (i : Input) (operands : List Operand) where
  -- all are named, and it is an expression
  good : (old new : State) (address : Bool) → ReadsInto 1 i operands (Ok address) → AreNumbers raw s operands old.refs.items new.refs.items → K before new
      → Goes {Y = Unit {0}} common raw K before old new (Ok tt) (expr_named s i)
  good old new address reads h k = record {
    more = h.more;
    lists = [];
    refs = h.refs;
    is = said_found s (expr_at (expr_context s 1) i) ∙ ap (map_ok (expr_found s)) (reads.1 (expr_context s 1) refl ∙ asked_all s 1 operands (expr_at (any_operands 1) i) h.named ∙ reads.0)
        ∙ ap (λ (p : ℕ → ℕ). Ok (found (map (λ o. p (target_of s o)) operands) [])) home ∙ ap (λ (w : List ℕ). Ok (found w [])) (sym (own_places common raw h.more h.within ∙ h.places));
    within = own_all common raw h.more h.within;
    keeps = subst (λ (w : List NamedList). K w new) (sym (append-nil before)) k;
  }

  -- all are named, and it is none
  bad : (f : Fault) → ReadsInto 1 i operands (Err (Refused f)) → first_unnamed (is_named s) operands ≡ None → expr_named s i ≡ Err f
  bad f reads none = ap (λ (r : Result Expression Fault). map_ok (found_in []) (r >>= expr_said s)) (reads.1 (expr_context s 1) refl ∙ asked_all s 1 operands (expr_at (any_operands 1) i) none
      ∙ reads.0)

  -- one isn't
  unnamed : (f : Fault) (r : Result Bool ReadErr) → AreAsked 1 i operands → IsUnnamed s 1 operands f → expr_named s i ≡ Err f
  unnamed f r asks h =
      ap (λ (r : Result Expression Fault). map_ok (found_in []) (r >>= expr_said s)) (asks (expr_context s 1) refl ∙ ap (unless_one (expr_context s 1) (expr_at (any_operands 1) i)) h.first)
      ∙ ap (λ (x : Fault). Err x) (sym h.placed)

  asks_of : (r : Result Bool ReadErr) → (r ≡ Err NoMemory → ⊥) → ReadsInto 1 i operands r → AreAsked 1 i operands
  asks_of (Ok address) some reads = reads.1
  asks_of (Err NoMemory) some reads = absurd (some refl)
  asks_of (Err (Refused f)) some reads = reads.1

  pub operands_fail : (e : ReadErr) (r : Result Bool ReadErr) (old new : List ℕ) → (r ≡ Err NoMemory → ⊥) → ReadsInto 1 i operands r → NamesAll {Y = Unit {0}} raw s 1 operands old new (Err e)
      → Fails e (expr_named s i)
  operands_fail NoMemory r old new some reads h = tt
  operands_fail (Refused f) r old new some reads h = unnamed f r (asks_of r some reads) h

  pub expression_read : (old new : State) (r : Result Bool ReadErr) (address : Bool) → r ≡ Ok address → ReadsInto 1 i operands r → AreNumbers raw s operands old.refs.items new.refs.items
      → K before new → Goes {Y = Unit {0}} common raw K before old new (Ok tt) (expr_named s i)
  expression_read old new r address is reads h k = good old new address (subst (λ (x : Result Bool ReadErr). ReadsInto 1 i operands x) is reads) h k

  bad_by : (e : ReadErr) → ReadsInto 1 i operands (Err e) → first_unnamed (is_named s) operands ≡ None → Fails e (expr_named s i)
  bad_by NoMemory reads none = tt
  bad_by (Refused f) reads none = bad f reads none

  pub expression_fails : (r : Result Bool ReadErr) (e : ReadErr) (old new : List ℕ) → r ≡ Err e → ReadsInto 1 i operands r → AreNumbers raw s operands old new → Fails e (expr_named s i)
  expression_fails r e old new is reads h = bad_by e (subst (λ (x : Result Bool ReadErr). ReadsInto 1 i operands x) is reads) h.named

-- what the call on the code's own row says
pub reads_row : (at end : ℕ) (bytes own : List ℕ) (cleared operands shown : List Operand) (r : Result Bool ReadErr) → bytes ≡ own → at ≡ end - length bytes → cleared ≡ [] → shown ≡ operands
    → ReadsInto 1 (record { at = at; rest = bytes }) (added cleared operands) r
    → ReadsInto 1 (record { at = end - length own; rest = own }) shown r
reads_row at end bytes own cleared operands shown r is place none same reads =
    let i : Input = record { at = at; rest = bytes } in
    let j : Input = record { at = end - length own; rest = own } in
    let here : i ≡ j = λ k. record { at = (place ∙ ap (λ (b : List ℕ). end - length b) is) k; rest = is k } in
    subst (λ (os : List Operand). ReadsInto 1 j os r) (ap (λ (w : List Operand). added w operands) none ∙ sym same) (subst (λ (x : Input). ReadsInto 1 x (added cleared operands) r) here reads)

pub has_memory : {X : Type 0} (r : Result X ReadErr) → lacks_memory r ≡ false → r ≡ Err NoMemory → ⊥
has_memory {X} r e is = false≢true (sym e ∙ ap (λ (x : Result X ReadErr). lacks_memory x) is)
