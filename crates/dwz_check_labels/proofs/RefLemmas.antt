-- The entries that values name, one by one.
use Rattle.std.proofs.Common.{◌≡◌, ℕ, ◌-◌, ◌≤◌, List, [], ◌∷◌, ◌++◌, length, map, take, Some, refl, sym, ap, subst, ◌∙◌, arith}
use Rattle.std.specs.Prelude.{nat_lt, slice_index}
use Rattle.std.specs.List.{flat_map}
use Rattle.std.proofs.lemmas.Bool.{cond-false, le-ltb}
use Rattle.std.proofs.lemmas.List.{length-map, take-map, take_at}
use Rattle.dwz_def_reading.specs.Units.{RawUnit, entries_in}
use Rattle.dwz_def_reading.specs.Meanings.{Common, MeaningContext, all_places, target_of, targets}
use Rattle.dwz_def_reading.specs.declared.exprs.Operand.{Operand}
use Rattle.dwz_def_check.specs.CrossLabels.{name_label, names_into}
use Rattle.dwz_def_check.specs.CrossNames.{AtPath, CrossName, PartRoot, PartSpace, WholeRoot, WholeSpace}
use Rattle.dwz_graph.specs.Places.{place_at}
use Rattle.dwz_graph.specs.Surroundings.{place_among}
use Rattle.dwz_graph.proofs.PlaceLemmas.{places_are}
use Rattle.dwz_label.specs.Labels.{each_counted, number}
use Rattle.dwz_check_labels.specs.Told.{Tells}
use Rattle.dwz_check_labels.proofs.ToldLemmas.{tells_behind}

-- ---- tops that names lead into

pub into_first : (x : CrossName) (xs : List CrossName) → names_into (x ∷ xs) ≡ names_into (x ∷ []) ++ names_into xs
into_first (AtPath top path) xs = refl
into_first (WholeRoot n) xs = refl
into_first (WholeSpace n names) xs = refl
into_first PartRoot xs = refl
into_first (PartSpace names) xs = refl

-- ---- numbers of entries

-- the name list of what is left of some entries
abbrev pub names_of : (ℕ → CrossName) → (ℕ → ℕ) → List ℕ → List CrossName
names_of name place entries = map name (map place entries)

pub first_label : (name : ℕ → CrossName) (place : ℕ → ℕ) (xs : List ℕ) (i : ℕ) (rest : List ℕ) → xs ≡ i ∷ rest
    → flat_map name_label (names_of name place xs) ≡ name_label (name (place i)) ++ flat_map name_label (names_of name place rest)
first_label name place xs i rest e = ap (λ (w : List ℕ). flat_map name_label (names_of name place w)) e

pub first_into : (name : ℕ → CrossName) (place : ℕ → ℕ) (xs : List ℕ) (i : ℕ) (rest : List ℕ) → xs ≡ i ∷ rest
    → names_into (names_of name place xs) ≡ names_into (name (place i) ∷ []) ++ names_into (names_of name place rest)
first_into name place xs i rest e = ap (λ (w : List ℕ). names_into (names_of name place w)) e ∙ into_first (name (place i)) (names_of name place rest)

-- the places of the first entries
pub front_of : (place : ℕ → ℕ) (refs places others : List ℕ) (count : ℕ) → map place refs ≡ places ++ others → length places ≡ count → map place (take count refs) ≡ places
front_of place refs places others count e many = sym (take-map place count refs) ∙ ap (λ (w : List ℕ). take count w) e ∙ take_at places others count many

-- an entry of the common file
pub common_place : (c : Common ℕ) (raw other : List RawUnit) (i own : ℕ) → own ≡ entries_in raw → own ≤ i → c.entries ≡ all_places other
    → place_among (Some c) raw i ≡ c.place (place_at other (i - own))
common_place c raw other i own is le entries =
    let high : entries_in raw ≤ i = omega (arith, is, le) in
    cond-false (nat_lt i (entries_in raw)) (place_at raw i) (c.place (slice_index c.entries (i - entries_in raw))) (le-ltb i (entries_in raw) high)
    ∙ ap (λ (n : ℕ). c.place (slice_index c.entries (i - n))) (sym is) ∙ ap (λ (w : List ℕ). c.place (slice_index w (i - own))) (entries ∙ sym (places_are other))

-- ---- operands

pub first_operand_label : (s : MeaningContext ℕ) (name : ℕ → CrossName) (os : List Operand) (o : Operand) (rest : List Operand) → os ≡ o ∷ rest
    → flat_map name_label (map name (targets s os)) ≡ name_label (name (s.around.place (target_of s o))) ++ flat_map name_label (map name (targets s rest))
first_operand_label s name os o rest e = ap (λ (w : List Operand). flat_map name_label (map name (targets s w))) e

pub first_operand_into : (s : MeaningContext ℕ) (name : ℕ → CrossName) (os : List Operand) (o : Operand) (rest : List Operand) → os ≡ o ∷ rest
    → names_into (map name (targets s os)) ≡ names_into (name (s.around.place (target_of s o)) ∷ []) ++ names_into (map name (targets s rest))
first_operand_into s name os o rest e =
    ap (λ (w : List Operand). names_into (map name (targets s w))) e ∙ into_first (name (s.around.place (target_of s o))) (map name (targets s rest))

-- ---- all of them

pub names_none : (name : ℕ → CrossName) (place : ℕ → ℕ) (xs : List ℕ) → xs ≡ [] → flat_map name_label (names_of name place xs) ≡ []
names_none name place xs e = ap (λ (w : List ℕ). flat_map name_label (names_of name place w)) e

pub into_none : (name : ℕ → CrossName) (place : ℕ → ℕ) (xs : List ℕ) → xs ≡ [] → names_into (names_of name place xs) ≡ []
into_none name place xs e = ap (λ (w : List ℕ). names_into (names_of name place w)) e

pub operands_none : (s : MeaningContext ℕ) (name : ℕ → CrossName) (os : List Operand) → os ≡ [] → flat_map name_label (map name (targets s os)) ≡ []
operands_none s name os e = ap (λ (w : List Operand). flat_map name_label (map name (targets s w))) e

pub operands_into_none : (s : MeaningContext ℕ) (name : ℕ → CrossName) (os : List Operand) → os ≡ [] → names_into (map name (targets s os)) ≡ []
operands_into_none s name os e = ap (λ (w : List Operand). names_into (map name (targets s w))) e

-- behind their number
pub counted_told : (name : ℕ → CrossName) (those places : List ℕ) (count : ℕ) (old mid new before after : List ℕ) → those ≡ places → length places ≡ count → mid ≡ old ++ number count
    → Tells (flat_map name_label (map name those)) (names_into (map name those)) mid new before after
    → Tells (each_counted name_label (map name places)) (names_into (map name places)) old new before after
counted_told name those places count old mid new before after are many one two =
    let told = subst (λ (w : List ℕ). Tells (flat_map name_label (map name w)) (names_into (map name w)) mid new before after) are two in
    let length_is : count ≡ length (map name places) = sym many ∙ sym (length-map places name) in
    tells_behind (number (length (map name places))) (flat_map name_label (map name places)) (names_into (map name places)) old mid new before after
    (one ∙ ap (λ (n : ℕ). old ++ number n) length_is) told

pub targets_many : (s : MeaningContext ℕ) (os : List Operand) → length (targets s os) ≡ length os
targets_many s os = length-map os (λ o. s.around.place (target_of s o))
