-- Operands, one after the other.
use Rattle.std.proofs.Common.{◌≡◌, ℕ, zero, suc, ◌+◌, ◌<◌, ◌≤◌, List, [], ◌∷◌, ◌++◌, length, map, take, drop, get_or, Some, slice_get, Ok, Err, refl, sym, ap, subst, ◌∙◌, arith}
use Rattle.std.proofs.lemmas.List.{append-nil, append_assoc, map-append}
use Rattle.dwz_model.specs.Lists.{Each}
use Rattle.dwz_model.specs.declared.fault.Fault.{Fault}
use Rattle.dwz_def_reading.specs.declared.exprs.Operand.{Operand}
use Rattle.dwz_def_expand.specs.OneFile.{nth_at}
use Rattle.dwz_def_expand.specs.Refusals.{not_imported}
use Rattle.dwz_expand_layout.specs.declared.entries.NewOperand.{NewOperand}
use Rattle.dwz_model.specs.declared.fault.ReadErr.{ReadErr}
use Rattle.dwz_model.specs.declared.fault.ReadErr.TheVariants.{NoMemory, Refused}
use Rattle.dwz_expand_passes.specs.Copied.{Added, AddsAll, AddsOperand, AnswersCopy, Checks, FirstLost, Lost, operand_places}
use Rattle.dwz_expand_passes.specs.Refusing.{FirstIs}
use Rattle.dwz_model.proofs.ListFacts.{get_first, got_map, got_there}
use Rattle.dwz_graph.specs.Surroundings.{AreAmong}
use Rattle.dwz_expand_passes.specs.declared.files.SourceEntry.{SourceEntry}
use Rattle.dwz_expand_passes.specs.Known.{Fits, Setting, StandsAt, copied, place_named, raw_of}
use Rattle.dwz_expand_passes.proofs.CopyLemmas.{stands_named}
use Rattle.dwz_expand_passes.proofs.LostLemmas.{LostFrom, one_from}

-- ---- parts of lists

pub map_twice : {X Y Z : Type 0} (f : Y → Z) (g : X → Y) (xs : List X) → map (λ x. f (g x)) xs ≡ map f (map g xs)
map_twice f g [] = refl
map_twice {X} {Y} {Z} f g (x ∷ xs) = ap (λ (w : List Z). f (g x) ∷ w) (map_twice f g xs)

pub take_one : {X : Type 0} (xs : List X) (k : ℕ) (x : X) → slice_get xs k ≡ Some x → take (k + 1) xs ≡ take k xs ++ x ∷ []
take_one [] k x e = absurd cc
take_one (y ∷ xs) zero x e = (let same : y ≡ x = cc in ap (λ (w : _). w ∷ []) same)
take_one {X} (y ∷ xs) (suc k) x e =
    let at : suc k + 1 ≡ suc (k + 1) = omega arith in
    ap (λ (n : ℕ). take n (y ∷ xs)) at ∙ ap (λ (w : List X). y ∷ w) (take_one xs k x e)

pub cut_at : {X : Type 0} (xs : List X) (k : ℕ) (x : X) → slice_get xs k ≡ Some x → xs ≡ take k xs ++ x ∷ drop (k + 1) xs
cut_at [] k x e = absurd cc
cut_at {X} (y ∷ xs) zero x e = (let same : y ≡ x = cc in ap (λ (w : X). w ∷ xs) same)
cut_at {X} (y ∷ xs) (suc k) x e =
    let at : suc k + 1 ≡ suc (k + 1) = omega arith in
    ap (λ (w : List X). y ∷ w) (cut_at xs k x e) ∙ ap (λ (n : ℕ). y ∷ (take k xs ++ x ∷ drop n (y ∷ xs))) (sym at)

pub long_take : {X : Type 0} (xs : List X) (k : ℕ) (x : X) → slice_get xs k ≡ Some x → length (take k xs) ≡ k
long_take [] k x e = absurd cc
long_take (y ∷ xs) zero x e = refl
long_take (y ∷ xs) (suc k) x e = ap suc (long_take xs k x e)

pub each_last : {X : Type 0} (P : X → Type 0) (xs : List X) (x : X) → Each P xs → P x → Each P (xs ++ x ∷ [])
each_last P [] x all one = (one, tt)
each_last P (y ∷ xs) x all one = (all.0, each_last P xs x all.1 one)

nth_map : (operands : List Operand) (k : ℕ) (o : Operand) (at : ℕ) → slice_get operands k ≡ Some o → nth_at operands k at ≡ o.at
nth_map [] k o at e = absurd cc
nth_map (p ∷ operands) zero o at e = (let same : p ≡ o = cc in ap (λ (w : Operand). w.at) same)
nth_map (p ∷ operands) (suc k) o at e = nth_map operands k o at e

-- ---- the first that is lost

-- of operands, the first of whose places aren't lost, the next is
pub next_lost : (q : Setting) (section : ℕ) (read : List Operand) (places : List ℕ) (k : ℕ) (o : Operand) (p at : ℕ) (f : Fault) → slice_get read k ≡ Some o → slice_get places k ≡ Some p
    → Each (λ r. ¬ Lost q r) (take k places) → Lost q p → f ≡ not_imported (section, o.at) → FirstLost q (operand_places section read at) places f
next_lost q section read places k o p at f of_read of_places free lost is =
    let there = one_from q (operand_places section read at) 0 (take k places) (drop (k + 1) places) p free lost in
    let number : 0 + length (take k places) ≡ k = (let n = long_take places k p of_places in omega (arith, n)) in
    let place : operand_places section read at (0 + length (take k places)) ≡ (section, o.at) =
    ap (operand_places section read at) number ∙ ap (λ (n : ℕ). (section, n)) (nth_map read k o at of_read) in
    subst (λ (g : Fault). FirstLost q (operand_places section read at) places g) (ap not_imported place ∙ sym is)
    (subst (λ (w : List ℕ). LostFrom q (operand_places section read at) 0 w (not_imported (operand_places section read at (0 + length (take k places))))) (sym (cut_at places k p of_places)) there)

-- ---- operands that were added

pub none_added : (q : Setting) (old : List NewOperand) → Added q [] [] old old
none_added q old = record { more = []; grown = sym (append-nil old); operands = refl; keys = refl }

pub one_added : (q : Setting) (read : List Operand) (places : List ℕ) (old mid new : List NewOperand) (o : Operand) (p copy : ℕ) → Added q read places old mid
    → new ≡ mid ++ record { operand = o; copy = copy } ∷ [] → q.keys.row copy ≡ copied q p → Added q (read ++ o ∷ []) (places ++ p ∷ []) old new
one_added q read places old mid new o p copy a is key =
    let last : NewOperand = record { operand = o; copy = copy } in
    record {
      more = a.more ++ last ∷ [];
      grown = is ∙ ap (λ (w : List NewOperand). w ++ last ∷ []) a.grown ∙ append_assoc old a.more (last ∷ []);
      operands = map-append (λ (n : NewOperand). n.operand) a.more (last ∷ []) ∙ ap (λ (w : List Operand). w ++ o ∷ []) a.operands;
      keys = map-append (λ (n : NewOperand). q.keys.row n.copy) a.more (last ∷ []) ∙ (λ i. a.keys i ++ key i ∷ []) ∙ sym (map-append (copied q) places (p ∷ []));
    }

-- ---- answers of calls

pub operand_err : (q : Setting) (o : Operand) (p : ℕ) (old new : List NewOperand) (e : ReadErr) → AnswersCopy q p (1, o.at) (Err e) → AddsOperand {Y = Unit {0}} q o p old new (Err e)
operand_err q o p old new NoMemory h = tt
operand_err q o p old new (Refused f) h = h

pub check_err : (q : Setting) (p at : ℕ) (e : ReadErr) → AnswersCopy q p (7, at) (Err e) → Checks {Y = Unit {0}} q p at (Err e)
check_err q p at NoMemory h = tt
check_err q p at (Refused f) h = h

pub adds_err : (q : Setting) (read : List Operand) (places : List ℕ) (k : ℕ) (o : Operand) (p : ℕ) (old mid before after : List NewOperand) (e : ReadErr) → slice_get read k ≡ Some o
    → slice_get places k ≡ Some p → Each (λ r. ¬ Lost q r) (take k places) → AddsOperand {Y = Unit {0}} q o p old mid (Err e) → AddsAll {Y = Unit {0}} q read places before after (Err e)
adds_err q read places k o p old mid before after NoMemory of_read of_places free h = tt
adds_err q read places k o p old mid before after (Refused f) of_read of_places free h = λ at. next_lost q 1 read places k o p at f of_read of_places free h.0 h.1

pub checks_err : (q : Setting) (read : List Operand) (places : List ℕ) (k : ℕ) (o : Operand) (p at : ℕ) (e : ReadErr) → slice_get read k ≡ Some o → slice_get places k ≡ Some p
    → Each (λ r. ¬ Lost q r) (take k places) → Checks {Y = Unit {0}} q p o.at (Err e) → FirstIs {Y = Unit {0}} (FirstLost q (operand_places 7 read at) places) (Err e)
checks_err q read places k o p at NoMemory of_read of_places free h = tt
checks_err q read places k o p at (Refused f) of_read of_places free h = next_lost q 7 read places k o p at f of_read of_places free h.0 h.1

-- as many of some as there are
pub take_whole : {X : Type 0} (xs : List X) (k : ℕ) → length xs ≤ k → take k xs ≡ xs
take_whole [] zero le = refl
take_whole [] (suc k) le = refl
take_whole (x ∷ xs) zero le = absurd (omega arith)
take_whole {X} (x ∷ xs) (suc k) le = ap (λ (w : List X). x ∷ w) (take_whole xs k (omega arith))

pub got_or_default : {X : Type 0} (xs : List X) (k : ℕ) (d : X) → k < length xs → slice_get xs k ≡ Some (get_or xs k d)
got_or_default [] k d lt = absurd (omega arith)
got_or_default (x ∷ xs) zero d lt = refl
got_or_default (x ∷ xs) (suc k) d lt = got_or_default xs k d (omega arith)

pub each_at : {X : Type 0} (P : X → Type 0) (xs : List X) (k : ℕ) (x : X) → Each P xs → slice_get xs k ≡ Some x → P x
each_at P [] k x all e = absurd cc
each_at P (y ∷ xs) zero x all e = (let same : y ≡ x = cc in subst P same all.0)
each_at P (y ∷ xs) (suc k) x all e = each_at P xs k x all.1 e

-- a reference of those that are named
pub ref_stands : (x : SourceEntry) (q : Setting) (refs places others : List ℕ) (k j : ℕ) → Fits x q → AreAmong q.around.common (raw_of x) refs → map (place_named q (raw_of x)) refs ≡ places ++ others
    → slice_get refs k ≡ Some j → k < length places → (p : ℕ) × (slice_get places k ≡ Some p) × StandsAt q.w (x.first + j) p
ref_stands x q refs places others k j fits among named found lt =
    let there = got_there places k lt in
    let one : slice_get (map (place_named q (raw_of x)) refs) k ≡ Some (place_named q (raw_of x) j) = got_map (place_named q (raw_of x)) refs k j found in
    let two : slice_get (map (place_named q (raw_of x)) refs) k ≡ Some there.0 = ap (λ (w : List ℕ). slice_get w k) named ∙ get_first places others k there.0 there.1 in
    let both : Some (place_named q (raw_of x) j) ≡ Some there.0 = sym one ∙ two in
    let same : place_named q (raw_of x) j ≡ there.0 = cc in
    (there.0, there.1, stands_named x q j there.0 fits (each_at _ refs k j among found) same)

-- one more
pub added_next : (q : Setting) (read : List Operand) (places : List ℕ) (k : ℕ) (o : Operand) (p : ℕ) (old mid new : List NewOperand) → slice_get read k ≡ Some o → slice_get places k ≡ Some p
    → Added q (take k read) (take k places) old mid × Each (λ r. ¬ Lost q r) (take k places) → AddsOperand {Y = Unit {0}} q o p mid new (Ok tt)
    → Added q (take (k + 1) read) (take (k + 1) places) old new × Each (λ r. ¬ Lost q r) (take (k + 1) places)
added_next q read places k o p old mid new of_read of_places so_far one = (
  subst (λ (w : List Operand × List ℕ). Added q w.0 w.1 old new) (λ i. (sym (take_one read k o of_read) i, sym (take_one places k p of_places) i))
      (one_added q (take k read) (take k places) old mid new o p one.0 so_far.0 one.1 one.2),
  subst (λ (w : List ℕ). Each (λ r. ¬ Lost q r) w) (sym (take_one places k p of_places)) (each_last (λ r. ¬ Lost q r) (take k places) p so_far.1 one.3),
)

pub added_all : (q : Setting) (read : List Operand) (places : List ℕ) (k : ℕ) (old new : List NewOperand) → length read ≤ k → length places ≡ length read
    → Added q (take k read) (take k places) old new × Each (λ r. ¬ Lost q r) (take k places) → AddsAll {Y = Unit {0}} q read places old new (Ok tt)
added_all q read places k old new le many so_far =
    let a = take_whole read k le in
    let b = take_whole places k (omega (arith, le, many)) in
    (subst (λ (w : List Operand × List ℕ). Added q w.0 w.1 old new) (λ i. (a i, b i)) so_far.0, subst (λ (w : List ℕ). Each (λ r. ¬ Lost q r) w) b so_far.1)
