-- Flags of what may move of files, and of the common file behind them.
use Rattle.std.proofs.Common.{◌≡◌, ℕ, ◌+◌, ◌-◌, Bool, true, false, ◌++◌, length, get_or, refl, sym, ap, subst, ◌∙◌, inl, inr, arith}
use Rattle.std.proofs.Math.ListN.{get_or-append}
use Rattle.std.proofs.Math.Seq.{get_or-append_right}
use Rattle.std.proofs.lemmas.List.{length-append}
use Rattle.dwz_def_reading.proofs.CaseFacts.{same_test}
use Rattle.dwz_def_tops.specs.Alike.{Movable}
use Rattle.dwz_def_tops.specs.Deciding.{is_movable}
use Rattle.dwz_def_tops.specs.Spots.{tops_of, units_of}
use Rattle.dwz_def_tops.proofs.AlikeBound.{movable_decides}
use Rattle.dwz_def_taken.specs.Beside.{Reused, look_units, reused_of}
use Rattle.dwz_def_taken.specs.Laws.{IsReused}
use Rattle.dwz_def_taken.proofs.LookTops.{look_from, own_number, part_number}
use Rattle.dwz_def_taken.proofs.MovableAcross.{across_law}
use Rattle.dwz_def_taken.proofs.NamesOver.{named_over}
use Rattle.dwz_def_taken.proofs.PlaceLemmas.{whole}
use Rattle.dwz_match.specs.ClassLaws.{FlagsLaw}
use Rattle.dwz_match.proofs.LookCount.{look_many}

pub flags_law : FlagsLaw
flags_law docs common own others placed flags rest =
    let r : Reused = reused_of docs common in
    let re : IsReused r = named_over docs common placed in
    let many = look_many r (whole r re) in
    let len = flags.len in
    let more = rest.len in
    record {
      len = length-append own others ∙ (let e : length own + length others ≡ length (tops_of (look_units r)) = omega (arith, many, len, more) in e);
      each = λ t i. elim (look_from r (whole r re) t i) [
        | inl a ↦
            let u = a.like.top in
            let number : u.number ≡ t.number = a.like.like.number in
            let low = own_number r (whole r re) u a.like.there in
            let at : get_or (own ++ others) t.number false ≡ is_movable (units_of docs) u =
            get_or-append own others false t.number (omega (arith, low, number, len)) ∙ ap (λ (k : ℕ). get_or own k false) (sym number) ∙ flags.each u a.like.there in
            at
            ∙ same_test (is_movable (units_of docs) u) (is_movable (look_units r) t)
            (λ e. (movable_decides (look_units r) t i).1
            (subst (Movable (look_units r)) number ((across_law docs common placed u a.like.there).1 ((movable_decides (units_of docs) u a.like.there).0 e))))
            (λ e. (movable_decides (units_of docs) u a.like.there).1
            ((across_law docs common placed u a.like.there).0 (subst (Movable (look_units r)) (sym number) ((movable_decides (look_units r) t i).0 e))))
        | inr b ↦
            let u = b.0.top in
            let number : u.number ≡ t.number = b.0.like.number in
            let high = part_number r (whole r re) u b.0.there in
            get_or-append_right own others t.number false (omega (arith, high, number, len))
            ∙ ap (λ (k : ℕ). get_or others (t.number - k) false) len ∙ rest.each t i (omega (arith, high, number))
      ];
    }
