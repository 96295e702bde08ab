-- Labels of all tops, roots and spaces of a file.
use Rattle.std.proofs.Common.{◌≡◌, ℕ, suc, ◌+◌, ◌<◌, ◌≤◌, List, [], ◌∷◌, ◌++◌, length, map, take, Some, slice_get, sym, ap, subst, ◌∙◌, arith}
use Rattle.std.proofs.lemmas.List.{append-nil, append_assoc, length-append, length-map, map-append, take_all}
use Rattle.std.specs.Prelude.{All}
use Rattle.dwz_model.proofs.ListFacts.{all_more, got_in}
use Rattle.dwz_model.proofs.Members.{each_append, each_in}
use Rattle.dwz_def_reading.specs.Lists.{Each}
use Rattle.dwz_unit.proofs.RowsFound.{take_here}
use Rattle.dwz_groups.specs.declared.groups.Edge.{Edge}
use Rattle.dwz_check_labels.specs.Rows.{Adds, AreKeysBelow, edge, edges_from}

pub each_got : {X : Type 0} (P : X → Type 0) (xs : List X) (k : ℕ) (x : X) → Each P xs → slice_get xs k ≡ Some x → P x
each_got P xs k x h found = each_in P x xs h (got_in xs k x found)

edges_both : (k m : ℕ) (ts us : List (List ℕ)) → m ≡ k + length ts → edges_from k (ts ++ us) ≡ edges_from k ts ++ edges_from m us
edges_both k m [] us e = let same : m ≡ k = omega arith in ap (λ (n : ℕ). edges_from n us) (sym same)
edges_both k m (t ∷ ts) us e =
    ap (λ (w : List Edge). map (edge k) t ++ w) (edges_both (suc k) m ts us (omega arith)) ∙ sym (append_assoc (map (edge k) t) (edges_from (suc k) ts) (edges_from m us))

pub adds_none : (old : List (List ℕ)) (before : List Edge) → Adds [] [] old old before before
adds_none old before = record { labels_are = sym (append-nil old); edges_are = sym (append-nil before) }

pub adds_both : (ls ts ms us old mid new : List (List ℕ)) (before between after : List Edge) → length ls ≡ length ts → Adds ls ts old mid before between → Adds ms us mid new between after
    → Adds (ls ++ ms) (ts ++ us) old new before after
adds_both ls ts ms us old mid new before between after many one two =
    let long : length mid ≡ length old + length ts = ap (λ (w : List (List ℕ)). length w) one.labels_are ∙ (omega (arith, length-append old ls, many)) in
    record {
      labels_are = two.labels_are ∙ ap (λ (w : List (List ℕ)). w ++ ms) one.labels_are ∙ append_assoc old ls ms;
      edges_are = two.edges_are ∙ ap (λ (w : List Edge). w ++ edges_from (length mid) us) one.edges_are ∙ append_assoc before (edges_from (length old) ts) (edges_from (length mid) us)
          ∙ ap (λ (w : List Edge). before ++ w) (sym (edges_both (length old) (length mid) ts us long));
    }

-- of the first so many of some things each was written
pub adds_next : {X : Type 0} (f g : X → List ℕ) (xs : List X) (i : ℕ) (x : X) (old mid new : List (List ℕ)) (before between after : List Edge) (label into : List ℕ) → slice_get xs i ≡ Some x
    → label ≡ f x → into ≡ g x → Adds (map f (take i xs)) (map g (take i xs)) old mid before between → Adds (label ∷ []) (into ∷ []) mid new between after
    → Adds (map f (take (i + 1) xs)) (map g (take (i + 1) xs)) old new before after
adds_next {X} f g xs i x old mid new before between after label into found is_label is_into one two =
    let more = take_here xs i x found in
    let ls : map f (take (i + 1) xs) ≡ map f (take i xs) ++ label ∷ [] = ap (λ (w : List X). map f w) more ∙ map-append f (take i xs) (x ∷ []) ∙ ap (λ (w : List ℕ). map f (take i xs) ++ w ∷ []) (sym
    is_label) in
    let ts : map g (take (i + 1) xs) ≡ map g (take i xs) ++ into ∷ [] = ap (λ (w : List X). map g w) more ∙ map-append g (take i xs) (x ∷ []) ∙ ap (λ (w : List ℕ). map g (take i xs) ++ w ∷ []) (sym
    is_into) in
    let both = adds_both (map f (take i xs)) (map g (take i xs)) (label ∷ []) (into ∷ []) old mid new before between after (length-map (take i xs) f ∙ sym (length-map (take i xs) g)) one two in
    subst (λ (w : List (List ℕ)). Adds w (map g (take (i + 1) xs)) old new before after) (sym ls) (subst (λ (w : List (List ℕ)). Adds (map f (take i xs) ++ label ∷ []) w old new before after) (sym
    ts) both)

pub adds_all : {X : Type 0} (f g : X → List ℕ) (xs : List X) (i : ℕ) (old new : List (List ℕ)) (before after : List Edge) → length xs ≤ i
    → Adds (map f (take i xs)) (map g (take i xs)) old new before after → Adds (map f xs) (map g xs) old new before after
adds_all {X} f g xs i old new before after le h = subst (λ (w : List X). Adds (map f w) (map g w) old new before after) (take_all i xs le) h

pub one_more : (label : List ℕ) (into : List ℕ) (old new : List (List ℕ)) (before after : List Edge) → Adds (label ∷ []) (into ∷ []) old new before after → length new ≡ length old + 1
one_more label into old new before after h = ap (λ (w : List (List ℕ)). length w) h.labels_are ∙ (omega (arith, length-append old (label ∷ [])))

-- what is written into empty rows
pub from_empty : (none out shown label : List ℕ) → none ≡ [] → shown ≡ out → out ≡ none ++ label → shown ≡ label
from_empty none out shown label empty is e = is ∙ e ∙ ap (λ (w : List ℕ). w ++ label) empty

-- ---- pairs

keys_higher : (m n : ℕ) (edges : List Edge) → m ≤ n → AreKeysBelow m edges → AreKeysBelow n edges
keys_higher m n [] le h = tt
keys_higher m n (e ∷ edges) le h = ((let lt = h.0 in omega arith), keys_higher m n edges le h.1)

own_keys : (key n : ℕ) (into : List ℕ) → key < n → AreKeysBelow n (map (edge key) into)
own_keys key n [] lt = tt
own_keys key n (t ∷ into) lt = (lt, own_keys key n into lt)

pub keys_more : (m n : ℕ) (edges new : List Edge) (into : List ℕ) → n ≡ m + 1 → new ≡ edges ++ map (edge m) into → AreKeysBelow m edges → AreKeysBelow n new
keys_more m n edges new into e is h =
    subst (λ (w : List Edge). AreKeysBelow n w) (sym is) (each_append (λ e. e.key < n) edges (map (edge m) into) (keys_higher m n edges (omega arith) h) (own_keys m n into (omega arith)))

pub keys_all : (n : ℕ) (edges : List Edge) → AreKeysBelow n edges → All (λ e. e.key < n) edges
keys_all n [] h = λ k d lt. absurd (omega arith)
keys_all n (e ∷ edges) h = all_more (λ e. e.key < n) e edges h.0 (keys_all n edges h.1)

-- one label behind others
pub label_keys : (old new : List (List ℕ)) (label : List ℕ) (edges more : List Edge) (into : List ℕ) (key : ℕ) → key ≡ length old → more ≡ edges ++ map (edge key) into → new ≡ old ++ label ∷ []
    → AreKeysBelow (length old) edges → AreKeysBelow (length new) more
label_keys old new label edges more into key at is put h =
    let long : length new ≡ length old + 1 = ap (λ (w : List (List ℕ)). length w) put ∙ (omega (arith, length-append old (label ∷ []))) in
    keys_more (length old) (length new) edges more into long (is ∙ ap (λ (n : ℕ). edges ++ map (edge n) into) at) h

pub label_added : (old new : List (List ℕ)) (label : List ℕ) (edges more : List Edge) (into : List ℕ) (key : ℕ) → key ≡ length old → more ≡ edges ++ map (edge key) into → new ≡ old ++ label ∷ []
    → Adds (label ∷ []) (into ∷ []) old new edges more
label_added old new label edges more into key at is put = record {
  labels_are = put;
  edges_are = is ∙ ap (λ (n : ℕ). edges ++ map (edge n) into) at ∙ ap (λ (w : List Edge). edges ++ w) (sym (append-nil (map (edge (length old)) into)));
}
