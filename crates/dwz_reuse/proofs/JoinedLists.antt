-- Lists of numbers, and others behind them, by their edges.
use Rattle.std.proofs.Common.{◌≡◌, ℕ, suc, ◌+◌, ◌<◌, ◌≤◌, All, List, [], ◌∷◌, ◌++◌, length, map, drop, get_or, sym, ap, subst, ◌∙◌, refl, arith, add-one}
use Rattle.std.proofs.lemmas.List.{append-nil, append_assoc, drop_all, length-append}
use Rattle.std.proofs.Math.Seq.{drop-cons}
use Rattle.dwz_def_reading.specs.Lists.{Each}
use Rattle.dwz_model.proofs.Members.{each_append}
use Rattle.dwz_groups.specs.declared.groups.Edge.{Edge}
use Rattle.dwz_groups.specs.Groups.{grouped}
use Rattle.dwz_check_labels.specs.Rows.{edge, edges_from}
use Rattle.dwz_check_labels.proofs.EdgeLemmas.{grouped_back}
use Rattle.dwz_check_labels.proofs.FileLemmas.{keys_all}

-- ---- one list more

edges_here : (k n : ℕ) (lists : List (List ℕ)) → n < length lists → edges_from k (drop n lists) ≡ map (edge k) (get_or lists n []) ++ edges_from (suc k) (drop (n + 1) lists)
edges_here k n lists l = rw (add-one, drop-cons lists n [])

pub next_list : (first n : ℕ) (lists : List (List ℕ)) (old new all : List Edge) (list : List ℕ) → n < length lists → list ≡ get_or lists n []
    → old ++ edges_from (first + n) (drop n lists) ≡ all → new ≡ old ++ map (edge (first + n)) list → new ++ edges_from (first + (n + 1)) (drop (n + 1) lists) ≡ all
next_list first n lists old new all list l is h put =
    let e : first + (n + 1) ≡ suc (first + n) = omega arith in
    ap (λ (w : List Edge). w ++ edges_from (first + (n + 1)) (drop (n + 1) lists)) (put ∙ ap (λ (w : List ℕ). old ++ map (edge (first + n)) w) is)
    ∙ append_assoc old (map (edge (first + n)) (get_or lists n [])) (edges_from (first + (n + 1)) (drop (n + 1) lists))
    ∙ ap (λ (k : ℕ). old ++ (map (edge (first + n)) (get_or lists n []) ++ edges_from k (drop (n + 1) lists))) e
    ∙ ap (λ (w : List Edge). old ++ w) (sym (edges_here (first + n) n lists l)) ∙ h

pub all_lists : (first n : ℕ) (lists : List (List ℕ)) (new all : List Edge) → length lists ≤ n → new ++ edges_from (first + n) (drop n lists) ≡ all → new ≡ all
all_lists first n lists new all le h =
    sym (append-nil new) ∙ ap (λ (w : List (List ℕ)). new ++ edges_from (first + n) w) (sym (drop_all n lists le)) ∙ h

-- ---- lists behind others

edges_append : (k : ℕ) (own others : List (List ℕ)) → edges_from k (own ++ others) ≡ edges_from k own ++ edges_from (k + length own) others
edges_append k [] others = (let e : k ≡ k + 0 = omega arith in ap (λ (m : ℕ). edges_from m others) e)
edges_append k (list ∷ own) others =
    let e : suc k + length own ≡ k + suc (length own) = omega arith in
    ap (λ (w : List Edge). map (edge k) list ++ w) (edges_append (suc k) own others ∙ ap (λ (m : ℕ). edges_from (suc k) own ++ edges_from m others) e)
    ∙ sym (append_assoc (map (edge k) list) (edges_from (suc k) own) (edges_from (k + suc (length own)) others))

list_low : (k count : ℕ) (list : List ℕ) → k < count → Each (λ (e : Edge). e.key < count) (map (edge k) list)
list_low k count [] l = tt
list_low k count (x ∷ list) l = (l, list_low k count list l)

edges_low : (k count : ℕ) (lists : List (List ℕ)) → k + length lists ≤ count → Each (λ (e : Edge). e.key < count) (edges_from k lists)
edges_low k count [] l = tt
edges_low k count (list ∷ lists) l =
    each_append (λ (e : Edge). e.key < count) (map (edge k) list) (edges_from (suc k) lists) (list_low k count list (omega (arith, l))) (edges_low (suc k) count lists (omega (arith, l)))

module _ (own others : List (List ℕ)) (e0 e1 e2 : List Edge) (none : e0 ≡ []) (first : e1 ≡ e0 ++ edges_from 0 own) (second : e2 ≡ e1 ++ edges_from (length own) others) where
  pub edges_all : e2 ≡ edges_from 0 (own ++ others)
  edges_all =
      second ∙ ap (λ (w : List Edge). w ++ edges_from (length own) others) (first ∙ ap (λ (w : List Edge). w ++ edges_from 0 own) none)
      ∙ (let e : length own ≡ 0 + length own = omega arith in ap (λ (m : ℕ). edges_from 0 own ++ edges_from m others) e) ∙ sym (edges_append 0 own others)

  pub keys_low : (count : ℕ) (shown : List Edge) → count ≡ length own + length others → shown ≡ e2 → All (λ (e : Edge). e.key < count) shown
  keys_low count shown many is =
      let len = length-append own others in
      keys_all count shown (subst (λ (w : List Edge). Each (λ (e : Edge). e.key < count) w) (sym (is ∙ edges_all)) (edges_low 0 count (own ++ others) (omega (arith, len, many))))

  pub joined_back : (count : ℕ) (shown : List Edge) (lists : List (List ℕ)) → count ≡ length own + length others → shown ≡ e2 → lists ≡ grouped count shown → lists ≡ own ++ others
  joined_back count shown lists many is made = made ∙ grouped_back count shown (own ++ others) (many ∙ sym (length-append own others)) (is ∙ edges_all)
