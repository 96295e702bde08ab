-- Lists of all labels or targets in the order of the numbers of both sides.
use Rattle.std.proofs.Common.{◌≡◌, ℕ, List, [], ◌++◌, length, map, refl, sym, ap, ◌∙◌, arith}
use Rattle.std.proofs.lemmas.List.{append-nil, append_assoc, length-append, length-map}
use Rattle.dwz_def_reading.specs.Documents.{DwUnit, Node}
use Rattle.dwz_def_cross.specs.Tops.{CrossTop, WithCommon}
use Rattle.dwz_def_check.specs.CrossNames.{CrossName, cross_tops}
use Rattle.dwz_def_check.specs.CrossNodes.{lone_entries, new_side, node_count, old_side, tops_before, tops_together}
use Rattle.dwz_check_labels.proofs.InListLemmas.{SideLists}

abbrev Lists : Type 0
Lists = List (List ℕ)

-- the tops of the old file, of the new one, and of the common one, and then the roots and spaces of both
abbrev pub all_of : Lists → Lists → Lists → Lists → Lists → Lists
all_of a b c d e = a ++ (b ++ (c ++ (d ++ e)))

module _ {P : Type 0} (v w : WithCommon P) (name : P → CrossName) (top : CrossTop P → List ℕ) (lone : Node P → List ℕ) (a b c d e : Lists) (is_a : map top (cross_tops v.own) ≡ a)
    (is_b : map top (cross_tops w.own) ≡ b) (is_c : map top (cross_tops v.common) ≡ c) (same : w.common ≡ v.common) (is_d : map lone (lone_entries v.own) ≡ d) (is_e : map lone (lone_entries w.own) ≡
    e) where
  long_a : length a ≡ length (cross_tops v.own)
  long_a = ap (λ (w : Lists). length w) (sym is_a) ∙ length-map (cross_tops v.own) top

  long_b : length b ≡ length (cross_tops w.own)
  long_b = ap (λ (w : Lists). length w) (sym is_b) ∙ length-map (cross_tops w.own) top

  long_c : length c ≡ length (cross_tops v.common)
  long_c = ap (λ (w : Lists). length w) (sym is_c) ∙ length-map (cross_tops v.common) top

  long_d : length d ≡ length (lone_entries v.own)
  long_d = ap (λ (w : Lists). length w) (sym is_d) ∙ length-map (lone_entries v.own) lone

  long_e : length e ≡ length (lone_entries w.own)
  long_e = ap (λ (w : Lists). length w) (sym is_e) ∙ length-map (lone_entries w.own) lone

  long_two : length (a ++ b) ≡ tops_before v w
  long_two = omega (arith, length-append a b, long_a, long_b)

  long_three : length ((a ++ b) ++ c) ≡ tops_together v w
  long_three = omega (arith, length-append (a ++ b) c, length-append a b, long_a, long_b, long_c)

  behind_two : all_of a b c d e ≡ (a ++ b) ++ (c ++ (d ++ e))
  behind_two = sym (append_assoc a b (c ++ (d ++ e)))

  behind_three : all_of a b c d e ≡ ((a ++ b) ++ c) ++ (d ++ e)
  behind_three = behind_two ∙ sym (append_assoc (a ++ b) c (d ++ e))

  pub old_lists : SideLists (old_side v w name) top lone (all_of a b c d e)
  old_lists = record {
    before_own = [];
    behind_own = b ++ (c ++ (d ++ e));
    own = ap (λ (w : Lists). w ++ (b ++ (c ++ (d ++ e)))) (sym is_a);
    own_long = refl;
    before_common = a ++ b;
    behind_common = d ++ e;
    common = behind_two ∙ ap (λ (w : Lists). (a ++ b) ++ (w ++ (d ++ e))) (sym is_c);
    common_long = long_two;
    before_lone = (a ++ b) ++ c;
    behind_lone = e;
    of_lone = behind_three ∙ ap (λ (w : Lists). ((a ++ b) ++ c) ++ (w ++ e)) (sym is_d);
    lone_long = long_three;
  }

  pub new_lists : SideLists (new_side v w name) top lone (all_of a b c d e)
  new_lists = record {
    before_own = a;
    behind_own = c ++ (d ++ e);
    own = ap (λ (w : Lists). a ++ (w ++ (c ++ (d ++ e)))) (sym is_b);
    own_long = long_a;
    before_common = a ++ b;
    behind_common = d ++ e;
    common = behind_two ∙ ap (λ (w : Lists). (a ++ b) ++ (w ++ (d ++ e))) (sym is_c ∙ ap (λ (us : List (DwUnit P)). map top (cross_tops us)) (sym same));
    common_long = long_two;
    before_lone = ((a ++ b) ++ c) ++ d;
    behind_lone = [];
    of_lone = behind_three ∙ sym (append_assoc ((a ++ b) ++ c) d e) ∙ ap (λ (w : Lists). (((a ++ b) ++ c) ++ d) ++ w) (sym is_e ∙ sym (append-nil (map lone (lone_entries w.own))));
    lone_long = omega (arith, length-append ((a ++ b) ++ c) d, long_three, long_d);
  }

  pub all_long : length (all_of a b c d e) ≡ node_count v w
  all_long = ap (λ (w : Lists). length w) behind_three ∙ (omega (arith, length-append ((a ++ b) ++ c) (d ++ e), length-append d e, long_three, long_d, long_e))
