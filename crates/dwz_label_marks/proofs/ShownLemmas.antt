-- Labels that tell tops apart.
use Rattle.std.proofs.Common.{ℕ, Bool, List, sym, ◌∙◌}
use Rattle.dwz_def_tops.specs.Spots.{EntryName, FileUnit}
use Rattle.dwz_label.specs.Shown.{AreShown, nth_label}
use Rattle.dwz_label.proofs.LabelLemmas.{bare_label, label_bare}
use Rattle.dwz_label_marks.specs.Shown.{ShowApart, TellApart, TellMarks}
use Rattle.dwz_label_marks.proofs.ToldLemmas.{word_law}

pub marks_apart : (units : List (FileUnit EntryName)) (names labels : List (List ℕ)) → TellMarks units names labels → TellApart units labels
marks_apart units names labels h = record {
  len = h.len;
  are = λ t u i j m n. word_law names t u (nth_label labels t.number) (nth_label labels u.number) (h.are t i m) (h.are u j n);
}

pub whole_apart : (units : List (FileUnit EntryName)) (labels : List (List ℕ)) (movable : List Bool) (targets : List (List ℕ)) → AreShown units labels movable targets
    → ShowApart units labels movable targets
whole_apart units labels movable targets h = record {
  flags = h.flags;
  labels_are = record {
    len = h.labels_len;
    are = λ t u i j m n. (
      (λ e. label_bare t u (sym (h.labels_are t i m) ∙ e ∙ h.labels_are u j n)),
      (λ same. h.labels_are t i m ∙ bare_label t u same ∙ sym (h.labels_are u j n)),
    );
  };
  targets_len = h.targets_len;
  targets_are = h.targets_are;
}
