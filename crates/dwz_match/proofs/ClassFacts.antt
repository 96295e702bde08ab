-- What least alike tops say: classes across files and the common file, and kin in one file.
use Rattle.std.proofs.Common.{◌≡◌, ◌⊎◌, ℕ, ◌<◌, ◌≤◌, true, false, List, length, map, get_or, sym, ap, subst, ◌∙◌, inl, inr, ⊎_elim, arith}
use Rattle.std.proofs.lemmas.Bool.{cases_Bool}
use Rattle.dwz_def_reading.specs.Lists.{In}
use Rattle.dwz_def_reading.proofs.DecideLemmas.{if_true, if_false}
use Rattle.dwz_model.proofs.ListFacts.{got_index_or, got_map}
use Rattle.dwz_def_tops.specs.Alike.{Alike, Movable, Together}
use Rattle.dwz_def_tops.specs.Deciding.{is_movable}
use Rattle.dwz_def_tops.specs.Spots.{EntryName, FileUnit, Top, tops_of}
use Rattle.dwz_def_tops.proofs.AlikeBound.{movable_decides}
use Rattle.dwz_def_tops.proofs.AlikeLaws.{test_decides}
use Rattle.dwz_def_tops.proofs.TopNumbers.{number_below, top_at, top_there, tops_numbers}
use Rattle.dwz_def_taken.specs.Beside.{Reused, look_units, reused_of}
use Rattle.dwz_def_taken.specs.Laws.{IsReused}
use Rattle.dwz_def_taken.proofs.LookTops.{own_look, part_look, part_number}
use Rattle.dwz_def_taken.proofs.MovableAcross.{across_law}
use Rattle.dwz_def_taken.proofs.NamesOver.{named_over}
use Rattle.dwz_def_taken.proofs.PlaceLemmas.{in_part, whole}
use Rattle.dwz_label.specs.Nodes.{AreLeast}
use Rattle.dwz_label.proofs.LeastAlike.{alike_joined}
use Rattle.dwz_match.specs.ClassLaws.{ClassLaw, KinLaw}

module _ (units : List (FileUnit EntryName)) (least : List ℕ) (are : AreLeast units least) where
  -- alike tops have one least alike top
  pub one_least : (a b : Top) → In a (tops_of units) → In b (tops_of units) → Alike units a.number b.number → get_or least a.number 0 ≡ get_or least b.number 0
  one_least a b i j h = ((alike_joined units least are Together a b i j).0 ((test_decides Together units a b i j).1 (tt, h))).same

  -- a top that may move is alike to what has its least alike top
  pub least_alike : (a b : Top) → In a (tops_of units) → In b (tops_of units) → Movable units a.number → get_or least a.number 0 ≡ get_or least b.number 0 → Alike units a.number b.number
  least_alike a b i j moves e =
      let f : is_movable units a ≡ true = (movable_decides units a i).1 moves in
      let own = if_true (is_movable units a) _ _ f (are.each a i) in
      ⊎_elim
      (λ (g : is_movable units b ≡ true).
      ((test_decides Together units a b i j).0 ((alike_joined units least are Together a b i j).1 (record { first = f; second = g; scoped = tt; same = e }))).1)
      (λ (g : is_movable units b ≡ false).
      let stays : get_or least b.number 0 ≡ b.number = if_false (is_movable units b) _ _ g (are.each b j) in
      subst (λ (n : ℕ). Alike units a.number n) (e ∙ stays) own.is)
      (cases_Bool (is_movable units b))

  -- and tops that both don't move are one
  pub least_same : (a b : Top) → In a (tops_of units) → In b (tops_of units) → get_or least a.number 0 ≡ get_or least b.number 0 → (b.number ≡ a.number) ⊎ Alike units a.number b.number
  least_same a b i j e = ⊎_elim
      (λ (f : is_movable units a ≡ true). inr (least_alike a b i j ((movable_decides units a i).0 f) e))
      (λ (f : is_movable units a ≡ false). ⊎_elim
      (λ (g : is_movable units b ≡ true).
      let h : Alike units b.number a.number = least_alike b a j i ((movable_decides units b j).0 g) (sym e) in
      inr (least_alike a b i j h.second e))
      (λ (g : is_movable units b ≡ false).
      let here : get_or least a.number 0 ≡ a.number = if_false (is_movable units a) _ _ f (are.each a i) in
      let there : get_or least b.number 0 ≡ b.number = if_false (is_movable units b) _ _ g (are.each b j) in
      inl (sym there ∙ sym e ∙ here))
      (cases_Bool (is_movable units b)))
      (cases_Bool (is_movable units a))

-- ---- across files and the common file

alike_at : (units : List (FileUnit EntryName)) (m n m' n' : ℕ) → m ≡ m' → n ≡ n' → Alike units m n → Alike units m' n'
alike_at units m n m' n' p q h = subst (λ (i : ℕ). Alike units i n') p (subst (λ (i : ℕ). Alike units m i) q h)

pub class_law : ClassLaw
class_law docs common least placed are t c p own moves part =
    let r : Reused = reused_of docs common in
    let re : IsReused r = named_over docs common placed in
    let a = own_look r (whole r re) t own in
    let b = part_look r (whole r re) c (in_part r re p c part) in
    let x : Top = a.like.top in
    let y : Top = b.top in
    let m : x.number ≡ t.number = a.like.like.number in
    let n : y.number ≡ c.number = b.like.number in
    let world = look_units r in (
      λ e. (
          let free : Movable world x.number = subst (λ (k : ℕ). Movable world k) (sym m) ((across_law docs common placed t own).1 moves) in
          let at : get_or least x.number 0 ≡ get_or least y.number 0 = ap (λ (k : ℕ). get_or least k 0) m ∙ e ∙ ap (λ (k : ℕ). get_or least k 0) (sym n) in
          record {
            common = part_number r (whole r re) c (in_part r re p c part);
            alike = alike_at world x.number y.number t.number c.number m n (least_alike world least are x y a.like.there b.there free at);
          }),
      λ h.
          ap (λ (k : ℕ). get_or least k 0) (sym m)
          ∙ one_least world least are x y a.like.there b.there (alike_at world t.number c.number x.number y.number (sym m) (sym n) h.alike)
          ∙ ap (λ (k : ℕ). get_or least k 0) n,
    )

-- ---- in one file

abbrev files_of : List (FileUnit EntryName) → List ℕ
files_of units = map (λ t. t.file) (tops_of units)

file_at : (units : List (FileUnit EntryName)) (t : Top) → In t (tops_of units) → get_or (files_of units) t.number 0 ≡ t.file
file_at units t i = got_index_or (files_of units) t.number t.file 0 (got_map (λ (w : Top). w.file) (tops_of units) t.number t (top_there units t i))

pub kin_law : KinLaw
kin_law units least count kin are by =
    let tops : List Top = tops_of units in
    let len = are.len in
    let low : (t : Top) → In t tops → t.number < length least = λ t i. (let l = number_below 0 tops t (tops_numbers units) i in omega (arith, l, len)) in
    record {
      same = λ t i n l e. (
          let first = by.own t.number (low t i) in
          let below = low t i in
          let early = first.there in
          let kin_len = by.len in
          ⊎_elim
          (λ (there : n < length least).
          let a = top_at 0 tops n (tops_numbers units) (omega arith) (omega (arith, there, len)) in
          let own = by.own n there in
          let at : get_or least n 0 ≡ get_or least a.0.number 0 = ap (λ (k : ℕ). get_or least k 0) (sym a.2) in
          let classes : get_or least t.number 0 ≡ get_or least a.0.number 0 = sym first.kin.class ∙ ap (λ (k : ℕ). get_or least k 0) (sym e) ∙ own.kin.class ∙ at in
          let files : get_or (files_of units) a.0.number 0 ≡ get_or (files_of units) t.number 0 =
          ap (λ (k : ℕ). get_or (files_of units) k 0) a.2 ∙ sym own.kin.file ∙ ap (λ (k : ℕ). get_or (files_of units) k 0) e ∙ first.kin.file in
          (a.0, a.1, a.2, sym (file_at units a.0 a.1) ∙ files ∙ file_at units t i, least_same units least are t a.0 i a.1 classes))
          (λ (far : length least ≤ n).
          let itself : get_or kin n 0 ≡ n = by.behind n far (omega (arith, l, kin_len)) in
          absurd (omega (arith, far, itself, e, early, below)))
          (grind arith));
      alike = λ t a i j same h. (
          let x = by.own t.number (low t i) in
          let y = by.own a.number (low a j) in
          let classes : get_or least t.number 0 ≡ get_or least a.number 0 = one_least units least are t a i j h in
          let files : get_or (files_of units) a.number 0 ≡ get_or (files_of units) t.number 0 = file_at units a j ∙ same ∙ sym (file_at units t i) in
          let lx = low t i in
          let ly = low a j in
          let ex = x.there in
          let ey = y.there in
          let one = x.first (get_or kin a.number 0) (omega (arith, ly, ey)) (record { class = y.kin.class ∙ sym classes; file = y.kin.file ∙ files }) in
          let other = y.first (get_or kin t.number 0) (omega (arith, lx, ex)) (record { class = x.kin.class ∙ classes; file = x.kin.file ∙ sym files }) in
          omega (arith, one, other));
    }
